-- A set of whose libraries none has an entry of type 5: no library's entry copies, and no library has a copy. Assumes nothing.
use mathlib.Core.Path.{◌≡◌, refl, sym, ap, subst, ◌∙◌}
use mathlib.Core.Bool.{Bool, true, false, true≢false}
use mathlib.Core.Logic.{⊎_elim}
use mathlib.Core.List.{List, [], ◌∷◌, ◌++◌, map, Memᴰ}
use Prim.Native.Nat.{ℕ, zero, suc, ◌+◌, ◌≤◌, ◌<◌}
use native.Mathlib.Omega.{arith}
use lib.Dec.{eqb, ltb}
use lib.ListN.{length, get_or}
use Rattle.words.specs.Choice.{pick, either, some}
use Rattle.model.specs.Objects.{Entry, fixed, symbol, Obj, Objs, obj}
use Rattle.model.specs.Longer.{NotCopy, OnlyProgramCopies}
use Rattle.model.specs.Layout.{objs_of}
use Rattle.object.specs.RelocationTypes.{Calculation, Search, Row, no_search, in_scope, ignored, passed_over, turned_away, marked_refuse, writes, applied_row, type_word, row_under, row_in}
use Rattle.object.specs.Record.{Record}
use Rattle.object.specs.declared.relocate.Rela.{Rela}
use Rattle.binder.specs.Setting.{Setting}
use Rattle.binder.specs.Instance.{File, file_image, file_record, relas_of, wanted_by, entry_by, entry_of, object_at, object_from}
use Rattle.binder.specs.declared.crossing.Copy.{Copy}
use Rattle.binder.specs.Copies.{copy_by, entries_copies, object_copies}
use Rattle.binder.specs.Verdict.{passed, no_file}
use Rattle.binder.specs.OwnOrder.{is_copy, has_copy, library_copies}
use Rattle.binder.specs.Steps.Prepared.{load_from}
use Rattle.binder.proofs.Lies.{count_is, object_lies}
use Rattle.binder.proofs.SoundLaws.{from_pick}

-- ---- one entry

-- a row that does not copy
pub data Plain : Row → Type 0 where
  is_ignored : Plain ignored
  is_passed : Plain passed_over
  is_away : Plain turned_away
  is_refused : Plain marked_refuse
  is_written : (s : Search) (f : Calculation) → Plain (writes s f)

pick_plain : {x y : Row} (b : Bool) → Plain x → Plain y → Plain (pick b x y)
pick_plain true p q = p
pick_plain false p q = q

-- only the row of type 5 copies
applied_plain : (t : ℕ) → eqb t 5 ≡ false → Plain (applied_row t)
unfolding applied_row
applied_plain t h =
    rw h
    (pick_plain (eqb t 1) (is_written _ _)
    (pick_plain (eqb t 2) (is_written _ _)
    (pick_plain (eqb t 6) (is_written _ _)
    (pick_plain (eqb t 7) (is_written _ _)
    (pick_plain (eqb t 8) (is_written _ _)
    (pick_plain (eqb t 10) (is_written _ _)
    (pick_plain (eqb t 11) (is_written _ _) (pick_plain (eqb t 24) (is_written _ _) is_passed))))))))

-- under any words
pub row_plain : (types : List ℕ) (t : ℕ) → eqb t 5 ≡ false → Plain (row_in types t)
unfolding row_in row_under
row_plain types t h =
    pick_plain (ltb t 64)
    (pick_plain (eqb (get_or types t 0) (type_word 9 t)) (applied_plain t h)
    (pick_plain (eqb (get_or types t 0) (type_word 10 t)) (pick_plain (eqb t 0) is_ignored is_passed) (pick_plain (eqb t 37) is_away is_refused)))
    is_passed

pub neither : (a b : Bool) → either a b ≡ false → (a ≡ false) × (b ≡ false)
neither true b e = absurd (true≢false e)
neither false b e = (refl, e)

module _ (row : ℕ → Row) (plain : (t : ℕ) → eqb t 5 ≡ false → Plain (row t)) (image : List ℕ) (r : Record) (base : ℕ) where
  entry_not : (e : Rela) {x : Row} → Plain x → NotCopy (entry_by image r base e x)
  unfolding entry_by
  entry_not e is_ignored = tt
  entry_not e is_passed = tt
  entry_not e is_away = tt
  entry_not e is_refused = tt
  entry_not e (is_written no_search f) = tt
  entry_not e (is_written (in_scope searched) f) = go (searched e.symbol)
    where
      go :
          (b : Bool)
          → NotCopy
          (pick b
          (symbol e.place f.width (wanted_by image r e.symbol) (λ v. f.value v e.addend base (base + e.place)))
          (fixed e.place f.width (f.value 0 e.addend base (base + e.place))))
      go true = tt
      go false = tt

  entries_not : (es : List Rela) → some is_copy es ≡ false → (x : Entry) → Memᴰ x (map (entry_of row image r base) es) → NotCopy x
  unfolding some
  entries_not [] z x m = absurd (mathlib.Core.List.Memᴰ.not-nil m)
  entries_not (e ∷ es) z x m =
      let a = neither (is_copy e) (some is_copy es) z in
      ⊎_elim
      (λ (t : x ≡ entry_of row image r base e).
      subst (λ (y : Entry). NotCopy y) (sym t) (entry_not e (plain e.rtype a.0)))
      (λ (t : Memᴰ x (map (entry_of row image r base) es)). entries_not es a.1 x t)
      (mathlib.Core.List.Memᴰ.cases_cons m)

-- ---- a set

none_at : (fs : List File) (j : ℕ) → some has_copy fs ≡ false → j < length fs → has_copy (get_or fs j no_file) ≡ false
unfolding some
none_at [] j z h = absurd (omega arith)
none_at (f ∷ fs) zero z h = (neither (has_copy f) (some has_copy fs) z).0
none_at (f ∷ fs) (suc j) z h = none_at fs j (neither (has_copy f) (some has_copy fs) z).1 (omega arith)

pub only_program :
    (setting : Setting) → ((t : ℕ) → eqb t 5 ≡ false → Plain (setting.row t)) → (size : ℕ) (h p : File) (fs : List File) → load_from setting size 0 0 (h ∷ (p ∷ fs)) ≡ passed → library_copies (h ∷ (p ∷ fs)) ≡ false
    → OnlyProgramCopies (objs_of (object_from setting) h p fs)
unfolding library_copies has_copy object_at
only_program setting plain size h p fs v none zero lo hi e m = absurd (omega arith)
only_program setting plain size h p fs v none (suc zero) lo hi e m = absurd (omega arith)
only_program setting plain size h p fs v none (suc (suc j)) lo hi e m =
    let f : File = get_or fs j no_file in
    let o : Obj = obj (objs_of (object_from setting) h p fs) (suc (suc j)) in
    let es : List Entry = map (entry_of setting.row (file_image f) (file_record f) (setting.address + o.offset)) (relas_of (file_image f) (file_record f)) in
    let in_file : Memᴰ e es =
    from_pick f.host es (subst (λ (l : List Entry). Memᴰ e l) (ap (λ (x : Obj). x.entries) (object_lies setting size h p fs v (suc (suc j)) hi).is) m) in
    entries_not setting.row plain (file_image f) (file_record f) (setting.address + o.offset) (relas_of (file_image f) (file_record f))
    (none_at fs j none (omega (arith, count_is setting size h p fs))) e in_file

-- ---- the copies of a library

module _ (row : ℕ → Row) (plain : (t : ℕ) → eqb t 5 ≡ false → Plain (row t)) (S : Objs) (k : ℕ) (image : List ℕ) (r : Record) where
  copy_none : (e : Rela) {x : Row} → Plain x → copy_by S k image r e x ≡ []
  unfolding copy_by
  copy_none e is_ignored = refl
  copy_none e is_passed = refl
  copy_none e is_away = refl
  copy_none e is_refused = refl
  copy_none e (is_written s f) = refl

  copies_none : (es : List Rela) → some is_copy es ≡ false → entries_copies row S k image r es ≡ []
  unfolding some entries_copies
  copies_none [] z = refl
  copies_none (e ∷ es) z =
      let a = neither (is_copy e) (some is_copy es) z in
      ap (λ (c : List Copy). c ++ entries_copies row S k image r es) (copy_none e (plain e.rtype a.0)) ∙ copies_none es a.1

pub library_none :
    (row : ℕ → Row) → ((t : ℕ) → eqb t 5 ≡ false → Plain (row t)) → (S : Objs) (files : List File) → library_copies files ≡ false
    → (k : ℕ) → 2 ≤ k → k < length files → object_copies row S k (get_or files k no_file) ≡ []
unfolding library_copies has_copy
library_none row plain S [] none k lo hi = absurd (omega arith)
library_none row plain S (h ∷ []) none k lo hi = absurd (omega arith)
library_none row plain S (h ∷ (p ∷ fs)) none zero lo hi = absurd (omega arith)
library_none row plain S (h ∷ (p ∷ fs)) none (suc zero) lo hi = absurd (omega arith)
library_none row plain S (h ∷ (p ∷ fs)) none (suc (suc j)) lo hi =
    let f : File = get_or fs j no_file in
    copies_none row plain S (suc (suc j)) (file_image f) (file_record f) (relas_of (file_image f) (file_record f)) (none_at fs j none (omega arith))
