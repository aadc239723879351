-- The copies of a bound set are apart. Assumes nothing.
use mathlib.Core.Path.{◌≡◌, refl, sym, subst, ◌∙◌}
use mathlib.Core.Bool.{Bool, true, false, not, true≢false}
use mathlib.Core.Logic.{◌⊎◌, inl, inr, ⊎_elim}
use mathlib.Core.List.{List, [], ◌∷◌, ◌++◌, append-nil, append_assoc}
use Prim.Native.Nat.{ℕ, zero, suc, ◌+◌, ◌≤◌, ◌<◌, min}
use native.Mathlib.Omega.{arith}
use native.Mathlib.Decide.{dec_lt}
use borrow.Author.Tests.{leb-true, lt-ltb}
use lib.Dec.{eqb, leb}
use lib.ListN.{length, get_or, take}
use lib.Seq.{get_or-take}
use Rattle.words.specs.Choice.{pick, either, some}
use Rattle.words.specs.Memory.{In}
use Rattle.words.proofs.Choice.{both_true}
use Rattle.model.specs.Symbols.{Definition, Resolved, absent, answer}
use Rattle.model.specs.Objects.{Objs, obj}
use Rattle.model.specs.Scope.{resolve_copy}
use Rattle.object.specs.Refusal.{require}
use Rattle.object.specs.TableBytes.{in_writable}
use Rattle.object.specs.Symbol.{symbol_at}
use Rattle.object.specs.RelocationTypes.{Row, ignored, passed_over, turned_away, marked_refuse, copies, writes}
use Rattle.object.specs.Record.{Record}
use Rattle.object.specs.declared.relocate.Rela.{Rela}
use Rattle.sheet.specs.Sheet.{set_of}
use Rattle.binder.specs.Instance.{File, file_image, file_record, named_words, relas_of, wanted_by}
use Rattle.binder.specs.declared.crossing.Copy.{Copy}
use Rattle.binder.specs.Copies.{meets, crosses, crosses_one, copy_found, copy_by, entry_copy, entries_copies, object_copies}
use Rattle.binder.specs.Verdict.{
  first,
  verdict,
  no_file,
  copy_ok,
  copy_refusal,
  refusal_by,
  entry_refusal,
  cross_refusal,
  words_verdict,
  entries_verdict,
  object_verdict,
  order_verdict,
  order_copies,
  Verdict,
  passed,
}
use Rattle.binder.specs.Bind.{files_of, names_of, unless, types_verdict, relocate_verdict, bind_in}
use Rattle.binder.specs.OwnOrder.{may_take}
use Rattle.binder.proofs.OutcomeLaws.{first_passed, verdict_passed, sheet_verdict, bound_outcome, bound_passed}
use Rattle.binder.proofs.EntryIs.{symbol_case}
use Rattle.demands.specs.LongerSet.{set_objects}
use Rattle.demands.specs.CopiesApart.{no_copy, DestinationByte, SourceByte, Apart, CopiesApart}
use Rattle.demands.proofs.ProgramCopies.{neither}
use Rattle.demands.proofs.OwnOrdersHold.{ordered_one}

-- ---- what the verdict says of the copies

-- a copy's destination and source have no byte in common
abbrev Own : Copy → Type 0
Own c = (b : ℕ) → In c.to c.size b → In c.source c.size b → ⊥

unfoldable Each : List Copy → Type 0
Each [] = Unit {0}
Each (c ∷ cs) = Own c × Each cs

each_append : (xs ys : List Copy) → Each xs → Each ys → Each (xs ++ ys)
unfolding Each
each_append [] ys a b = b
each_append (x ∷ xs) ys a b = (a.0, each_append xs ys a.1 b)

-- each crosses none before it, `earlier` standing before all
unfoldable Quiet : List Copy → List Copy → Type 0
Quiet earlier [] = Unit {0}
Quiet earlier (c ∷ cs) = (some (crosses c) earlier ≡ false) × Quiet (earlier ++ (c ∷ [])) cs

quiet_join : (earlier xs ys : List Copy) → Quiet earlier xs → Quiet (earlier ++ xs) ys → Quiet earlier (xs ++ ys)
unfolding Quiet
quiet_join earlier [] ys a b = subst (λ (l : List Copy). Quiet l ys) (append-nil earlier) b
quiet_join earlier (x ∷ xs) ys a b =
    (a.0, quiet_join (earlier ++ (x ∷ [])) xs ys a.1 (subst (λ (l : List Copy). Quiet l ys) (sym (append_assoc earlier (x ∷ []) xs)) b))

abbrev AllApart : List Copy → List Copy → Type 0
AllApart earlier cs = Quiet earlier cs × Each cs

apart_join : (earlier xs ys : List Copy) → AllApart earlier xs → AllApart (earlier ++ xs) ys → AllApart earlier (xs ++ ys)
apart_join earlier xs ys a b = (quiet_join earlier xs ys a.0 b.0, each_append xs ys a.1 b.1)

required : (b : Bool) (n rest : ℕ) → require b (suc n) rest ≡ 0 → (b ≡ true) × (rest ≡ 0)
unfolding require
required true n rest e = (refl, e)
required false n rest e = absurd (omega arith)

module _ (row : ℕ → Row) (S : Objs) (k : ℕ) (image : List ℕ) (r : Record) where
  ok_own :
      (p d n : ℕ) (s : Definition) → copy_ok S k p d s n ≡ true
      → Own (record { to = (obj S k).offset + p; source = (obj S d).offset + s.value; size = n })
  unfolding copy_ok
  ok_own p d n s e b x y =
      let u = both_true (not s.absolute) _ e in
      let v = both_true (leb (s.value + n) (obj S d).span) _ u.1 in
      go (leb ((obj S k).offset + p + n) ((obj S d).offset + s.value)) refl v.1
    where
      go : (t : Bool) → leb ((obj S k).offset + p + n) ((obj S d).offset + s.value) ≡ t
          → either t (leb ((obj S d).offset + s.value + n) ((obj S k).offset + p)) ≡ true → ⊥
      go true f g = omega (arith, leb-true ((obj S k).offset + p + n) ((obj S d).offset + s.value) f)
      go false f g = omega (arith, leb-true ((obj S d).offset + s.value + n) ((obj S k).offset + p) g)

  abbrev copied : ℕ → ℕ → ℕ → Definition → Copy
  copied p size d s = record { to = (obj S k).offset + p; source = (obj S d).offset + s.value; size = min size s.size }

  -- the copy that was found: none or one, which does not overlap itself
  found_one :
      (p size : ℕ) (x : Resolved) → copy_refusal S k r p size x ≡ 0
      → (copy_found S k p size x ≡ []) ⊎ ((c : Copy) × (copy_found S k p size x ≡ c ∷ []) × Own c)
  unfolding copy_refusal copy_found
  found_one p size absent z = inl refl
  found_one p size (answer d s a) z = go (eqb (min size s.size) 0) z
    where
      go :
          (t : Bool)
          → pick t 0 (require (in_writable r.segments p (min size s.size)) 17 (require (copy_ok S k p d s (min size s.size)) 18 0)) ≡ 0
          → (pick t [] (copied p size d s ∷ []) ≡ []) ⊎ ((c : Copy) × (pick t [] (copied p size d s ∷ []) ≡ c ∷ []) × Own c)
      go true z = inl refl
      go false z =
          let w = required (in_writable r.segments p (min size s.size)) 16 _ z in
          let o = required (copy_ok S k p d s (min size s.size)) 17 0 w.1 in
          inr (_, refl, ok_own p d (min size s.size) s o.0)

  entry_one :
      (e : Rela) (x : Row) → refusal_by S k image r e x ≡ 0 → (copy_by S k image r e x ≡ []) ⊎ ((c : Copy) × (copy_by S k image r e x ≡ c ∷ []) × Own c)
  unfolding refusal_by copy_by
  entry_one e ignored z = inl refl
  entry_one e passed_over z = inl refl
  entry_one e turned_away z = inl refl
  entry_one e marked_refuse z = inl refl
  entry_one e (writes sought f) z = inl refl
  entry_one e copies z =
      ⊎_elim
      (λ s. found_one e.place (symbol_at image r.symbols e.symbol).size (resolve_copy S (wanted_by image r e.symbol)) (rw s.0 at z))
      (λ s. absurd (s.1 (rw s.2 at z)))
      (symbol_case image r e.symbol)

  quiet_one : (earlier : List Copy) (c : Copy) → cross_refusal earlier (c ∷ []) ≡ 0 → some (crosses c) earlier ≡ false
  unfolding crosses_one some
  quiet_one earlier c = go (some (crosses c) earlier)
    where
      go : (t : Bool) → ◌≡◌ {A = ℕ} (pick (either t false) 28 0) 0 → t ≡ false
      go true z = absurd (omega arith)
      go false z = refl

  entries_apart :
      (earlier : List Copy) (es : List Rela) → entries_verdict row S k image r earlier es ≡ passed → AllApart earlier (entries_copies row S k image r es)
  unfolding entries_verdict entries_copies Quiet Each
  entries_apart earlier [] v = (Prim.tt {0}, Prim.tt {0})
  entries_apart earlier (e ∷ es) v =
      let a = first_passed (verdict (entry_refusal row S k image r e) k) _ v in
      let b = first_passed (verdict (cross_refusal earlier (entry_copy row S k image r e)) k) _ a.1 in
      let n = verdict_passed (entry_refusal row S k image r e) k a.0 in
      let m = verdict_passed (cross_refusal earlier (entry_copy row S k image r e)) k b.0 in
      let rest = entries_apart (earlier ++ entry_copy row S k image r e) es b.1 in
      let here = one earlier (entry_copy row S k image r e) m (entry_one e (row e.rtype) n) in
      apart_join earlier (entry_copy row S k image r e) (entries_copies row S k image r es) here rest
    where
      one : (earlier cs : List Copy) → cross_refusal earlier cs ≡ 0 → (cs ≡ []) ⊎ ((c : Copy) × (cs ≡ c ∷ []) × Own c) → AllApart earlier cs
      one earlier cs m (inl z) = rw z (Prim.tt {0}, Prim.tt {0})
      one earlier cs m (inr (c, z, own)) = rw z ((quiet_one earlier c (rw z at m), Prim.tt {0}), (own, Prim.tt {0}))

module _ (row : ℕ → Row) (S : Objs) (files : List File) where
  order_apart :
      (earlier : List Copy) (ks : List ℕ) → order_verdict row S files earlier ks ≡ passed → AllApart earlier (order_copies row S files ks)
  unfolding order_verdict object_verdict order_copies Quiet Each
  order_apart earlier [] v = (Prim.tt {0}, Prim.tt {0})
  order_apart earlier (k ∷ ks) v =
      let f : File = get_or files k no_file in
      let a = first_passed (object_verdict row S earlier k f) _ v in
      let b = first_passed (words_verdict k (file_record f) (named_words (file_image f) (file_record f))) _ a.0 in
      let here = entries_apart row S k (file_image f) (file_record f) earlier (relas_of (file_image f) (file_record f)) b.1 in
      let rest = order_apart (earlier ++ object_copies row S k f) ks a.1 in
      apart_join earlier (object_copies row S k f) (order_copies row S files ks) here rest

-- ---- byte by byte

bytes_apart : (at n other m b : ℕ) → meets at n other m ≡ false → In at n b → In other m b → ⊥
unfolding meets
bytes_apart at n other m b e x y =
    let t : meets at n other m ≡ true = rw (lt-ltb at (other + m) (omega arith), lt-ltb other (at + n) (omega arith)) in
    true≢false (sym t ∙ e)

-- a copy that does not cross another
record BytesApart (c d : Copy) : Type 0 where
  destinations : (b : ℕ) → In c.to c.size b → In d.to d.size b → ⊥
  own_source : (b : ℕ) → In c.source c.size b → In d.to d.size b → ⊥
  other_source : (b : ℕ) → In c.to c.size b → In d.source d.size b → ⊥

not_crossing : (c d : Copy) → crosses c d ≡ false → BytesApart c d
unfolding crosses
not_crossing c d e =
    let x = neither (meets c.to c.size d.to d.size) _ e in
    let y = neither (meets c.source c.size d.to d.size) (meets c.to c.size d.source d.size) x.1 in
    record {
      destinations = λ b. bytes_apart c.to c.size d.to d.size b x.0;
      own_source = λ b. bytes_apart c.source c.size d.to d.size b y.0;
      other_source = λ b. bytes_apart c.to c.size d.source d.size b y.1;
    }

-- ---- by number

-- none of those before copy `j` is crossed by it
quiet_at : (earlier cs : List Copy) (j : ℕ) → Quiet earlier cs → j < length cs → some (crosses (get_or cs j no_copy)) (earlier ++ take j cs) ≡ false
unfolding Quiet
quiet_at earlier [] j q l = absurd (omega arith)
quiet_at earlier (c ∷ cs) zero q l = rw (append-nil earlier) q.0
quiet_at earlier (c ∷ cs) (suc j) q l =
    subst (λ (x : List Copy). some (crosses (get_or cs j no_copy)) x ≡ false) (append_assoc earlier (c ∷ []) (take j cs))
    (quiet_at (earlier ++ (c ∷ [])) cs j q.1 (omega arith))

none_of : (c : Copy) (ds : List Copy) (i : ℕ) → i < length ds → some (crosses c) ds ≡ false → crosses c (get_or ds i no_copy) ≡ false
unfolding some
none_of c [] i l e = absurd (omega arith)
none_of c (d ∷ ds) zero l e = (neither (crosses c d) (some (crosses c) ds) e).0
none_of c (d ∷ ds) (suc i) l e = none_of c ds i (omega arith) (neither (crosses c d) (some (crosses c) ds) e).1

each_at : (cs : List Copy) (i : ℕ) → Each cs → i < length cs → Own (get_or cs i no_copy)
unfolding Each
each_at [] i e l = absurd (omega arith)
each_at (c ∷ cs) zero e l = e.0
each_at (c ∷ cs) (suc i) e l = each_at cs i e.1 (omega arith)

length-take : (cs : List Copy) (j : ℕ) → j ≤ length cs → length (take j cs) ≡ j
length-take cs zero l = refl
length-take [] (suc j) l = absurd (omega arith)
length-take (c ∷ cs) (suc j) l = let z = length-take cs j (omega arith) in omega arith

module _ (cs : List Copy) (q : Quiet [] cs) (e : Each cs) where
  -- copy `j` crosses no earlier copy `i`
  earlier_apart : (i j : ℕ) → i < j → j < length cs → BytesApart (get_or cs j no_copy) (get_or cs i no_copy)
  earlier_apart i j l h =
      let z = none_of (get_or cs j no_copy) (take j cs) i (omega (arith, length-take cs j (omega arith))) (quiet_at [] cs j q h) in
      not_crossing (get_or cs j no_copy) (get_or cs i no_copy) (rw (get_or-take j cs i no_copy l) at z)

  apart : Apart cs
  apart =
      record {
        one_destination = λ i j b li lj x y. once i j b li lj x y (dec_lt i j) (dec_lt j i);
        no_source = λ i j b li lj x y. unread i j b li lj x y (dec_lt i j) (dec_lt j i);
      }
    where
      once : (i j b : ℕ) → i < length cs → j < length cs → DestinationByte cs i b → DestinationByte cs j b → Dec (i < j) → Dec (j < i) → i ≡ j
      once i j b li lj x y (yes h) k = absurd ((earlier_apart i j h lj).destinations b y x)
      once i j b li lj x y (no h) (yes k) = absurd ((earlier_apart j i k li).destinations b x y)
      once i j b li lj x y (no h) (no k) = omega arith

      unread : (i j b : ℕ) → i < length cs → j < length cs → SourceByte cs i b → DestinationByte cs j b → Dec (i < j) → Dec (j < i) → ⊥
      unread i j b li lj x y (yes h) k = (earlier_apart i j h lj).other_source b y x
      unread i j b li lj x y (no h) (yes k) = (earlier_apart j i k li).own_source b x y
      unread i j b li lj x y (no h) (no k) =
          let z : j ≡ i = omega arith in
          each_at cs i e li b (subst (λ (n : ℕ). DestinationByte cs n b) z y) x

-- of an order that passed
passed_apart :
    (row : ℕ → Row) (S : Objs) (files : List File) (order : List ℕ) → order_verdict row S files [] order ≡ passed
    → Apart (order_copies row S files order)
passed_apart row S files order v =
    let x = order_apart row S files [] order v in
    apart (order_copies row S files order) x.0 x.1

pub copies_apart : CopiesApart
unfolding bind_in relocate_verdict
copies_apart =
    record {
      bound = λ setting sheet bytes size policy words arena report b.
          passed_apart _ _ _ _ (bound_passed setting sheet bytes size policy words arena report b).uncrossed;
      ordered = λ setting sheet bytes size policy words order arena report b.
          let files : List File = files_of (set_of sheet bytes) in
          let S : Objs = set_objects setting sheet bytes in
          let taken : Verdict = unless (may_take files (names_of (set_of sheet bytes)) order) 35 0 in
          let o = bound_outcome size words _ _ _ arena report (sym (ordered_one setting sheet bytes size policy words order) ∙ b) in
          let v = first_passed (first (sheet_verdict setting (types_verdict setting) sheet bytes size) taken) _ o.0 in
          passed_apart setting.row S files order (first_passed (order_verdict setting.row S files [] order) _ v.1).0;
    }
