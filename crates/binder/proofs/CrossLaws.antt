-- Refusal 28 in the chain of an order: where no copy crosses an earlier one the verdict is that without 28; where one does, it is what is met up
-- to that entry, or 28. Assumes nothing.
use Rattle.std.proofs.Common.{◌≡◌, ℕ, true, List, [], ◌∷◌, ◌++◌, get_or, sym, refl, ap, ◌∙◌, subst, append_assoc, append-nil, Err, Option, None, Some}
use Rattle.std.specs.List.{filter_map}
use Rattle.std.specs.Option.{option_to_list, IsSomeAnd}
use Rattle.binder.proofs.ApartLaws.{cons_is}
use Rattle.words.specs.Choice.{some}
use Rattle.model.specs.Objects.{Objs}
use Rattle.object.specs.RelocationTypes.{Row}
use Rattle.object.specs.Record.{Record}
use Rattle.object.specs.declared.relocate.Rela.{Rela}
use Rattle.binder.specs.Instance.{File, file_image, file_record, named_words, relas_of}
use Rattle.binder.specs.Copies.{crosses, crosses_one, entry_copy, entries_copies, object_copies}
use Rattle.binder.specs.Verdict.{Verdict, passed, refused, first, verdict, no_file, entry_refusal, cross_refusal, words_verdict, entries_verdict, object_verdict, order_verdict, order_copies}
use Rattle.binder.specs.Steps.PlainVerdict.{plain_entries, plain_object, plain_order}
use Rattle.binder.specs.Steps.Crossing.{EachApart, Quiet}
use Rattle.binder.specs.declared.crossing.Copy.{Copy}
use Rattle.binder.proofs.OutcomeLaws.{first_passed, verdict_passed}
use Rattle.binder.proofs.Runs.{first_assoc, verdict_none}

-- what comes after a refusal does not matter
pub first_same : (v w w' : Verdict) → (v ≡ passed → w ≡ w') → first v w ≡ first v w'
first_same passed w w' f = f refl
first_same (Err m) w w' f = refl

pub quiet_split : (earlier xs ys : List Copy) → Quiet earlier (xs ++ ys) → Quiet earlier xs × Quiet (earlier ++ xs) ys
unfolding EachApart
quiet_split earlier [] ys q = (Prim.tt {0}, subst (λ (l : List Copy). Quiet l ys) (sym (append-nil earlier)) q)
quiet_split earlier (x ∷ xs) ys q =
    let s = quiet_split (earlier ++ (x ∷ [])) xs ys q.1 in
    ((q.0, s.0), subst (λ (l : List Copy). Quiet l ys) (append_assoc earlier (x ∷ []) xs) s.1)

calm : (earlier : List Copy) (c : Option Copy) → Quiet earlier (option_to_list c) → cross_refusal earlier (option_to_list c) ≡ 0
unfolding crosses_one EachApart some
calm earlier None q = refl
calm earlier (Some c) q = rw q.0

loud : (earlier : List Copy) (c : Option Copy) → IsSomeAnd c (λ q. some (crosses q) earlier ≡ true) → cross_refusal earlier (option_to_list c) ≡ 28
unfolding crosses_one some
loud earlier None e = elim e [ ]
loud earlier (Some c) e = rw e

-- ---- the entries of an object

module _ (row : ℕ → Row) (S : Objs) (k : ℕ) (image : List ℕ) (r : Record) where
  pub entries_append :
      (earlier : List Copy) (xs ys : List Rela)
      → entries_verdict row S k image r earlier (xs ++ ys)
      ≡ first (entries_verdict row S k image r earlier xs) (entries_verdict row S k image r (earlier ++ entries_copies row S k image r xs) ys)
  unfolding entries_verdict entries_copies
  entries_append earlier [] ys = ap (λ (l : List Copy). entries_verdict row S k image r l ys) (sym (append-nil earlier))
  entries_append earlier (x ∷ xs) ys =
      let c : List Copy = entry_copy row S k image r x in
      let u : Verdict = verdict (entry_refusal row S k image r x) k in
      let v : Verdict = verdict (cross_refusal earlier c) k in
      let w : Verdict = entries_verdict row S k image r (earlier ++ c) xs in
      let z : Verdict = entries_verdict row S k image r (earlier ++ (c ++ entries_copies row S k image r xs)) ys in
      let step : entries_verdict row S k image r (earlier ++ c) (xs ++ ys) ≡ first w z =
      entries_append (earlier ++ c) xs ys
      ∙ ap (λ (l : List Copy). first w (entries_verdict row S k image r l ys)) (append_assoc earlier c (entries_copies row S k image r xs)) in
      ap (λ (x : Verdict). first u (first v x)) step
      ∙ (ap (first u) (sym (first_assoc v w z)) ∙ sym (first_assoc u (first v w) z))

  -- the code's copies `g` are those of the entries that no refusal meets
  abbrev pub Agrees : (Rela → Option Copy) → Type 0
  Agrees g = (e : Rela) → entry_refusal row S k image r e ≡ 0 → entry_copy row S k image r e ≡ option_to_list (g e)

  module _ (g : Rela → Option Copy) (agree : Agrees g) where
    pub entries_quiet :
        (earlier : List Copy) (es : List Rela) → Quiet earlier (filter_map g es) → entries_verdict row S k image r earlier es ≡ plain_entries row S k image r es
    unfolding entries_verdict plain_entries
    entries_quiet earlier [] q = refl
    entries_quiet earlier (e ∷ es) q =
        first_same (verdict (entry_refusal row S k image r e) k) _ _
        (λ v.
        let z = verdict_passed (entry_refusal row S k image r e) k v in
        let s = quiet_split earlier (option_to_list (g e)) (filter_map g es) (subst (Quiet earlier) (cons_is (g e) (filter_map g es)) q) in
        rw (agree e z, calm earlier (g e) s.0, verdict_none 0 k refl) (entries_quiet (earlier ++ option_to_list (g e)) es s.1))

    pub entries_copies_lem : (es : List Rela) → plain_entries row S k image r es ≡ passed → entries_copies row S k image r es ≡ filter_map g es
    unfolding plain_entries entries_copies
    entries_copies_lem [] v = refl
    entries_copies_lem (e ∷ es) v =
        let a = first_passed (verdict (entry_refusal row S k image r e) k) _ v in
        rw (agree e (verdict_passed (entry_refusal row S k image r e) k a.0), entries_copies_lem es a.1) (sym (cons_is (g e) (filter_map g es)))

    plain_append :
        (e : Rela) (xs : List Rela)
        → plain_entries row S k image r (xs ++ (e ∷ [])) ≡ first (plain_entries row S k image r xs) (plain_entries row S k image r (e ∷ []))
    unfolding plain_entries
    plain_append e [] = refl
    plain_append e (x ∷ xs) =
        ap (first (verdict (entry_refusal row S k image r x) k)) (plain_append e xs)
        ∙ sym (first_assoc (verdict (entry_refusal row S k image r x) k) (plain_entries row S k image r xs) (plain_entries row S k image r (e ∷ [])))

    refused_28 : (v : Verdict) → first (verdict 28 k) v ≡ refused 28 k
    unfolding verdict
    refused_28 v = refl

    last_crossed :
        (earlier : List Copy) (e : Rela) (post : List Rela) → IsSomeAnd (g e) (λ c. some (crosses c) earlier ≡ true)
        → entries_verdict row S k image r earlier (e ∷ post) ≡ first (plain_entries row S k image r (e ∷ [])) (refused 28 k)
    unfolding entries_verdict plain_entries
    last_crossed earlier e post x =
        first_same (verdict (entry_refusal row S k image r e) k) _ _
        (λ v.
        rw (agree e (verdict_passed (entry_refusal row S k image r e) k v), loud earlier (g e) x)
        (refused_28 (entries_verdict row S k image r (earlier ++ option_to_list (g e)) post)))
        ∙ sym (first_assoc (verdict (entry_refusal row S k image r e) k) passed (refused 28 k))

    -- an entry whose copy crosses one
    pub entry_crossed :
        (earlier : List Copy) (pre : List Rela) (e : Rela) (post : List Rela) → Quiet earlier (filter_map g pre)
        → IsSomeAnd (g e) (λ c. some (crosses c) (earlier ++ filter_map g pre) ≡ true)
        → entries_verdict row S k image r earlier (pre ++ (e ∷ post)) ≡ first (plain_entries row S k image r (pre ++ (e ∷ []))) (refused 28 k)
    entry_crossed earlier pre e post q x =
        entries_append earlier pre (e ∷ post)
        ∙ (ap (λ (v : Verdict). first v (entries_verdict row S k image r (earlier ++ entries_copies row S k image r pre) (e ∷ post))) (entries_quiet earlier pre q)
        ∙ (first_same (plain_entries row S k image r pre) _ _ (λ v. rw (entries_copies_lem pre v) (last_crossed (earlier ++ filter_map g pre) e post x))
        ∙ (sym (first_assoc (plain_entries row S k image r pre) (plain_entries row S k image r (e ∷ [])) (refused 28 k))
        ∙ ap (λ (v : Verdict). first v (refused 28 k)) (sym (plain_append e pre)))))

-- ---- the objects of an order

module _ (row : ℕ → Row) (S : Objs) (files : List File) (g : ℕ → Rela → Option Copy) where
  abbrev file : ℕ → File
  file k = get_or files k no_file

  abbrev image : ℕ → List ℕ
  image k = file_image (file k)

  abbrev record_of : ℕ → Record
  record_of k = file_record (file k)

  abbrev relas : ℕ → List Rela
  relas k = relas_of (image k) (record_of k)

  abbrev pub AgreesAt : ℕ → Type 0
  AgreesAt k = Agrees row S k (image k) (record_of k) (g k)

  unfoldable pub AgreesIn : List ℕ → Type 0
  AgreesIn [] = Unit {0}
  AgreesIn (k ∷ ks) = AgreesAt k × AgreesIn ks

  -- the code's copies of an order
  unfoldable pub gathered : List ℕ → List Copy
  gathered [] = []
  gathered (k ∷ ks) = filter_map (g k) (relas k) ++ gathered ks

  object_quiet :
      (earlier : List Copy) (k : ℕ) → AgreesAt k → Quiet earlier (filter_map (g k) (relas k)) → object_verdict row S earlier k (file k) ≡ plain_object row S k (file k)
  unfolding object_verdict plain_object
  object_quiet earlier k a q =
      ap (first (words_verdict k (record_of k) (named_words (image k) (record_of k)))) (entries_quiet row S k (image k) (record_of k) (g k) a earlier (relas k) q)

  object_copies_lem : (k : ℕ) → AgreesAt k → plain_object row S k (file k) ≡ passed → object_copies row S k (file k) ≡ filter_map (g k) (relas k)
  unfolding plain_object
  object_copies_lem k a v =
      entries_copies_lem row S k (image k) (record_of k) (g k) a (relas k)
      (first_passed (words_verdict k (record_of k) (named_words (image k) (record_of k))) _ v).1

  pub order_quiet :
      (earlier : List Copy) (ks : List ℕ) → AgreesIn ks → Quiet earlier (gathered ks) → order_verdict row S files earlier ks ≡ plain_order row S files ks
  unfolding order_verdict plain_order AgreesIn gathered
  order_quiet earlier [] a q = refl
  order_quiet earlier (k ∷ ks) a q =
      let s = quiet_split earlier (filter_map (g k) (relas k)) (gathered ks) q in
      ap (λ (v : Verdict). first v (order_verdict row S files (earlier ++ object_copies row S k (file k)) ks)) (object_quiet earlier k a.0 s.0)
      ∙ first_same (plain_object row S k (file k)) _ _
      (λ v. rw (object_copies_lem k a.0 v) (order_quiet (earlier ++ filter_map (g k) (relas k)) ks a.1 s.1))

  order_copies_lem : (ks : List ℕ) → AgreesIn ks → plain_order row S files ks ≡ passed → order_copies row S files ks ≡ gathered ks
  unfolding plain_order order_copies AgreesIn gathered
  order_copies_lem [] a v = refl
  order_copies_lem (k ∷ ks) a v =
      let p = first_passed (plain_object row S k (file k)) _ v in
      rw (object_copies_lem k a.0 p.0, order_copies_lem ks a.1 p.1)

  order_append :
      (earlier : List Copy) (xs ys : List ℕ)
      → order_verdict row S files earlier (xs ++ ys) ≡ first (order_verdict row S files earlier xs) (order_verdict row S files (earlier ++ order_copies row S files xs) ys)
  unfolding order_verdict order_copies
  order_append earlier [] ys = ap (λ (l : List Copy). order_verdict row S files l ys) (sym (append-nil earlier))
  order_append earlier (x ∷ xs) ys =
      let c : List Copy = object_copies row S x (file x) in
      let u : Verdict = object_verdict row S earlier x (file x) in
      let w : Verdict = order_verdict row S files (earlier ++ c) xs in
      let z : Verdict = order_verdict row S files (earlier ++ (c ++ order_copies row S files xs)) ys in
      let step : order_verdict row S files (earlier ++ c) (xs ++ ys) ≡ first w z =
      order_append (earlier ++ c) xs ys
      ∙ ap (λ (l : List Copy). first w (order_verdict row S files l ys)) (append_assoc earlier c (order_copies row S files xs)) in
      ap (first u) step ∙ sym (first_assoc u w z)

  -- what is met up to an entry of object `k`, after the objects `front`
  abbrev pub met_until : List ℕ → ℕ → List Rela → Verdict
  met_until front k es =
      first (plain_order row S files front)
      (first (words_verdict k (record_of k) (named_words (image k) (record_of k))) (plain_entries row S k (image k) (record_of k) es))

  -- nothing follows 28
  tail_28 : (k : ℕ) (u v z : Verdict) → first (first u (first v (refused 28 k))) z ≡ first (first u v) (refused 28 k)
  tail_28 k passed passed z = refl
  tail_28 k passed (Err m) z = refl
  tail_28 k (Err m) v z = refl

  object_crossed :
      (earlier : List Copy) (k : ℕ) (back : List ℕ) (pre : List Rela) (e : Rela) (post : List Rela) → relas k ≡ pre ++ (e ∷ post)
      → AgreesAt k → Quiet earlier (filter_map (g k) pre) → IsSomeAnd (g k e) (λ c. some (crosses c) (earlier ++ filter_map (g k) pre) ≡ true)
      → order_verdict row S files earlier (k ∷ back)
      ≡ first (first (words_verdict k (record_of k) (named_words (image k) (record_of k))) (plain_entries row S k (image k) (record_of k) (pre ++ (e ∷ [])))) (refused 28 k)
  unfolding order_verdict object_verdict
  object_crossed earlier k back pre e post is b q x =
      let m : entries_verdict row S k (image k) (record_of k) earlier (relas k)
      ≡ first (plain_entries row S k (image k) (record_of k) (pre ++ (e ∷ []))) (refused 28 k) =
      ap (entries_verdict row S k (image k) (record_of k) earlier) is
      ∙ entry_crossed row S k (image k) (record_of k) (g k) b earlier pre e post q x in
      let w : Verdict = words_verdict k (record_of k) (named_words (image k) (record_of k)) in
      let rest : Verdict = order_verdict row S files (earlier ++ object_copies row S k (file k)) back in
      ap (λ (v : Verdict). first (first w v) rest) m ∙ tail_28 k w (plain_entries row S k (image k) (record_of k) (pre ++ (e ∷ []))) rest

  pub order_crossed :
      (front : List ℕ) (k : ℕ) (back : List ℕ) (pre : List Rela) (e : Rela) (post : List Rela) → relas k ≡ pre ++ (e ∷ post)
      → AgreesIn front → AgreesAt k → Quiet [] (gathered front ++ filter_map (g k) pre)
      → IsSomeAnd (g k e) (λ c. some (crosses c) (gathered front ++ filter_map (g k) pre) ≡ true)
      → order_verdict row S files [] (front ++ (k ∷ back)) ≡ first (met_until front k (pre ++ (e ∷ []))) (refused 28 k)
  order_crossed front k back pre e post is a b q x =
      let t = quiet_split [] (gathered front) (filter_map (g k) pre) q in
      order_append [] front (k ∷ back)
      ∙ (ap (λ (v : Verdict). first v (order_verdict row S files (order_copies row S files front) (k ∷ back))) (order_quiet [] front a t.0)
      ∙ (first_same (plain_order row S files front) _ _ (λ v. rw (order_copies_lem front a v) (object_crossed (gathered front) k back pre e post is b t.1 x))
      ∙ sym (first_assoc (plain_order row S files front) _ (refused 28 k))))
