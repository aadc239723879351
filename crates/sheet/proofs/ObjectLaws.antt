-- What the objects that are kept stand for: those of the sheet; a part of the byte slice; the searches by name. Assumes nothing.
use Prim.Native.Nat.{ℕ, suc, ◌+◌, ◌-◌, ◌≤◌, ◌<◌}
use mathlib.Core.Bool.{Bool, true, false}
use mathlib.Core.Path.{◌≡◌, refl, sym, ap, ◌∙◌}
use mathlib.Core.List.{List, [], ◌∷◌, ◌++◌, map, append_assoc, append-nil}
use native.Mathlib.Omega.{arith}
use lib.ListN.{length, take, drop, get_or}
use Rattle.std.proofs.lemmas.List.{map-append, drop-take, drop-map, take-map, get_or-map, drop-drop, length-drop, take_all}
use Rattle.std.specs.Prelude.{◌||◌, Option, Result, Ok, Err, Some, None}
use Rattle.words.specs.declared.refusal.Refusal.{Refusal}
use Rattle.words.specs.declared.refusal.Refusal.TheVariants as refusals
use Rattle.std.specs.List.{list_any}
use borrow.Author.Tests.{ne_eqb, eqb-true, eqb-false}
use lib.Dec.{eqb}
use Rattle.words.specs.Choice as choice
use Rattle.words.specs.Choice.{pick, either, some}
use Rattle.words.specs.Names.{same_bytes}
use Rattle.sheet.specs.Sheet.{length_in, total, cut, libs_of, inputs_of, set_of, Input, no_input, named, sheet_ok, handed_in, duplicate_from, duplicate_of}
use Rattle.sheet.specs.Steps.Objects.{input_of, duplicate_in}
use Rattle.sheet.specs.declared.sheet.Object.{Object}
use Rattle.sheet.proofs.SheetLaws.{after_two, after_two_is}

-- ---- the objects of a sheet

-- what the words name, of the first two on
pub set_start :
    (xs bs host after program rest : List ℕ) (h p : ℕ) → 2 ≤ length xs → h ≡ length_in (get_or xs 0 0) → p ≡ length_in (get_or xs 1 0)
    → host ≡ take h bs → after ≡ drop h bs → program ≡ take p after → rest ≡ drop p after
    → record { file = host; name = [] } ∷ (record { file = program; name = [] } ∷ libs_of (cut (after_two xs) rest)) ≡ set_of xs bs
unfolding inputs_of cut
set_start [] bs host after program rest h p l eh ep a b c d = absurd (omega arith)
set_start (x ∷ []) bs host after program rest h p l eh ep a b c d = absurd (omega arith)
set_start (x ∷ (y ∷ ws)) bs host after program rest h p l eh ep a b c d = rw (c, d, a, b, eh, ep, after_two_is x y ws)

-- the words of a library, and those of the others
pub libs_more :
    (ws bs file after name rest : List ℕ) (f n : ℕ) → 2 ≤ length ws → f ≡ length_in (get_or ws 0 0) → n ≡ length_in (get_or ws 1 0)
    → file ≡ take f bs → after ≡ drop f bs → name ≡ take n after → rest ≡ drop n after
    → libs_of (cut ws bs) ≡ record { file = file; name = name } ∷ libs_of (cut (after_two ws) rest)
unfolding libs_of cut
libs_more [] bs file after name rest f n l ef en a b c d = absurd (omega arith)
libs_more (x ∷ []) bs file after name rest f n l ef en a b c d = absurd (omega arith)
libs_more (x ∷ (y ∷ ws)) bs file after name rest f n l ef en a b c d = rw (c, d, a, b, ef, en, after_two_is x y ws)

-- what is left after the first two parts
pub rest_after : (bs : List ℕ) (f n : ℕ) {rest : List ℕ} → rest ≡ take (length bs) (drop (f + n) bs) → rest ≡ drop n (drop f bs)
rest_after bs f n e = e ∙ (take_all (length bs) (drop (f + n) bs) (omega (arith, length-drop (f + n) bs)) ∙ sym (drop-drop n f bs))

pub libs_none : (ws bs : List ℕ) → length ws < 2 → libs_of (cut ws bs) ≡ []
unfolding libs_of cut
libs_none [] bs h = refl
libs_none (x ∷ []) bs h = refl
libs_none (x ∷ (y ∷ ws)) bs h = absurd (omega arith)

pub total_two : (ws : List ℕ) → 2 ≤ length ws → total ws ≡ length_in (get_or ws 0 0) + (length_in (get_or ws 1 0) + total (after_two ws))
unfolding total
total_two [] h = absurd (omega arith)
total_two (x ∷ []) h = absurd (omega arith)
total_two (x ∷ (y ∷ ws)) h = rw (after_two_is x y ws)

pub after_length : (ws : List ℕ) → 2 ≤ length ws → length ws ≡ length (after_two ws) + 2
after_length [] h = absurd (omega arith)
after_length (x ∷ []) h = absurd (omega arith)
after_length (x ∷ (y ∷ ws)) h = rw (after_two_is x y ws) (omega arith)

-- one more object is kept
pub kept_more :
    (objects : List Object) (o : Object) (rest : List Input)
    → map input_of (objects ++ o ∷ []) ++ rest ≡ map input_of objects ++ (input_of o ∷ rest)
kept_more objects o rest = rw (map-append input_of objects (o ∷ []), append_assoc)

pub kept_all : (kept rest whole : List Input) → rest ≡ [] → kept ++ rest ≡ whole → kept ≡ whole
kept_all kept rest whole none e = sym (append-nil kept) ∙ (ap (λ (r : List Input). kept ++ r) (sym none) ∙ e)

-- ---- the searches

-- whether an object has the name
pub has_is : (n : List ℕ) (objects : List Object) → list_any (λ o. same_bytes n o.name.now) objects ≡ named n (map input_of objects)
unfolding choice.some
has_is n [] = refl
has_is n (o ∷ objects) = first (same_bytes n o.name.now) (has_is n objects)
  where
    first : (t : Bool) {a b : Bool} → a ≡ b → (t || a) ≡ either t b
    first true e = refl
    first false e = e

-- the objects before object k, of number 2 on
before_k : (objects : List Object) (k : ℕ) → 2 ≤ k → map input_of (take (k - 2) (drop 2 objects)) ≡ drop 2 (take k (map input_of objects))
before_k objects k h =
    let e : 2 + (k - 2) ≡ k = omega arith in
    sym (ap (λ (j : ℕ). drop 2 (take j (map input_of objects))) (sym e) ∙ (drop-take 2 (k - 2) (map input_of objects) ∙ rw (drop-map, take-map)))

pub duplicate_step :
    (objects : List Object) (k : ℕ) (d : Object) (t : Bool) → 2 ≤ k → k < length objects
    → t ≡ list_any (λ o. same_bytes (get_or objects k d).name.now o.name.now) (take (k - 2) (drop 2 objects))
    → duplicate_from (map input_of objects) (length objects - k) k
    ≡ pick t k (duplicate_from (map input_of objects) (length objects - (k + 1)) (k + 1))
unfolding duplicate_from
duplicate_step objects k d t l h e =
    let s : length objects - k ≡ suc (length objects - (k + 1)) = omega arith in
    let n : (get_or (map input_of objects) k no_input).name ≡ (get_or objects k d).name.now =
    ap (λ (o : Input). o.name) (get_or-map input_of objects k d no_input h) in
    let f : named (get_or objects k d).name.now (drop 2 (take k (map input_of objects))) ≡ t =
    sym (e ∙ (has_is (get_or objects k d).name.now (take (k - 2) (drop 2 objects)) ∙ ap (λ (os : List Input). named (get_or objects k d).name.now os) (before_k objects k l))) in
    rw (s, n, f)

pub duplicate_end : (os : List Input) (n k : ℕ) → n ≤ k → duplicate_from os (n - k) k ≡ 0
unfolding duplicate_from
duplicate_end os n k h =
    let s : n - k ≡ 0 = omega arith in
    rw s

pub found : (os : List Input) (k : ℕ) → 2 ≤ k → duplicate_of os ≡ k → Some k ≡ duplicate_in os
found os k h e = rw (e, ne_eqb k 0 (λ z. absurd (omega arith)))

pub none_found : (os : List Input) → duplicate_of os ≡ 0 → None ≡ duplicate_in os
none_found os e = rw e

-- ---- what a caller of `Set::of` reads off

module _ (sheet bytes : List ℕ) {r : Result (List Input) Refusal} (h : r ≡ handed_in sheet bytes) where
  pub handed_bad : {e : Refusal} → r ≡ Err e → sheet_ok sheet (length bytes) ≡ false
  handed_bad {e} is = go (sheet_ok sheet (length bytes)) refl
    where
      go : (t : Bool) → sheet_ok sheet (length bytes) ≡ t → sheet_ok sheet (length bytes) ≡ false
      go true ok = absurd (let z : ◌≡◌ {A = Result (List Input) Refusal} (Ok (set_of sheet bytes)) (Err e) = rw ok at (sym h ∙ is) in cc)
      go false bad = bad

  pub handed_good : {os : List Input} → r ≡ Ok os → (sheet_ok sheet (length bytes) ≡ true) × (os ≡ set_of sheet bytes)
  handed_good {os} is = go (sheet_ok sheet (length bytes)) refl
    where
      go : (t : Bool) → sheet_ok sheet (length bytes) ≡ t → (sheet_ok sheet (length bytes) ≡ true) × (os ≡ set_of sheet bytes)
      go true ok = (ok, let z : ◌≡◌ {A = Result (List Input) Refusal} (Ok (set_of sheet bytes)) (Ok os) = rw ok at (sym h ∙ is) in cc)
      go false bad = absurd (let z : ◌≡◌ {A = Result (List Input) Refusal} (Err refusals.Sheet) (Ok os) = rw bad at (sym h ∙ is) in cc)

-- ---- what a caller of `Set::duplicate` reads off

module _ (os : List Input) {r : Option ℕ} (h : r ≡ duplicate_in os) where
  pub dup_none : r ≡ None → duplicate_of os ≡ 0
  dup_none is = go (eqb (duplicate_of os) 0) refl
    where
      go : (t : Bool) → eqb (duplicate_of os) 0 ≡ t → duplicate_of os ≡ 0
      go true e = eqb-true (duplicate_of os) 0 e
      go false e = absurd (let z : ◌≡◌ {A = Option ℕ} (Some (duplicate_of os)) None = rw e at (sym h ∙ is) in cc)

  pub dup_some : {k : ℕ} → r ≡ Some k → (k ≡ duplicate_of os) × (k ≡ 0 → ⊥)
  dup_some {k} is = go (eqb (duplicate_of os) 0) refl
    where
      go : (t : Bool) → eqb (duplicate_of os) 0 ≡ t → (k ≡ duplicate_of os) × (k ≡ 0 → ⊥)
      go true e = absurd (let z : ◌≡◌ {A = Option ℕ} None (Some k) = rw e at (sym h ∙ is) in cc)
      go false e =
          let z : ◌≡◌ {A = Option ℕ} (Some (duplicate_of os)) (Some k) = rw e at (sym h ∙ is) in
          let s : k ≡ duplicate_of os = cc in
          (s, λ n. eqb-false (duplicate_of os) 0 e (sym s ∙ n))
