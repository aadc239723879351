-- Orders that have each object as often: what does not hang on which of them is used. Assumes nothing.
use mathlib.Core.Path.{◌≡◌, refl, sym, ap, subst, ◌∙◌}
use mathlib.Core.Bool.{Bool, true, false}
use mathlib.Core.Logic.{◌⊎◌, inl, inr, ⊎_elim}
use mathlib.Core.List.{List, [], ◌∷◌, ◌++◌, append_assoc}
use Prim.Native.Nat.{ℕ, zero, suc, ◌+◌, ◌*◌, ◌/◌, ◌^◌, ◌≤◌, ◌<◌}
use native.Mathlib.Omega.{arith}
use native.Mathlib.Decide.{dec_lt, dec_le}
use borrow.Author.Tests.{eqb-true, eqb-false, eq-eqb, ne_eqb}
use lib.Dec.{eqb}
use lib.ListN.{length, get_or, replicate, length-append}
use Rattle.words.specs.Choice.{pick}
use Rattle.model.specs.Objects.{Objs}
use Rattle.model.specs.Order.{times, OnceEach}
use Rattle.model.proofs.OrderLaws.{decide}
use Rattle.model.proofs.Orders.{times_head, times_tail}
use Rattle.object.specs.RelocationTypes.{Row}
use Rattle.object.specs.Record.{Record}
use Rattle.object.specs.declared.relocate.Rela.{Rela}
use Rattle.binder.specs.Instance.{File, file_image, file_record, relas_of}
use Rattle.binder.specs.declared.crossing.Copy.{Copy}
use Rattle.binder.specs.Copies.{object_copies}
use Rattle.binder.specs.Verdict.{Verdict, passed, first, no_file, object_verdict, order_verdict}
use Rattle.binder.specs.Report.{report_word, is_undefined, is_passed, entry_report, object_words, order_words, has_undefined, first_undefined}
use Rattle.binder.proofs.OutcomeLaws.{first_passed}
use Rattle.binder.proofs.RelocatedIs.{times_end}
use Rattle.demands.specs.OwnOrders.{words_of_object}

-- ---- orders of the same objects

pub once_times : (n : ℕ) (order order' : List ℕ) → OnceEach n order → OnceEach n order' → (k : ℕ) → times k order ≡ times k order'
once_times n order order' o o' k =
    is order o ∙ (ap (λ (m : ℕ). m + pick (eqb 1 k) 1 0) (fronts (dec_le 2 k) (dec_lt k n)) ∙ sym (is order' o'))
  where
    is : (xs : List ℕ) (x : OnceEach n xs) → times k xs ≡ times k x.front + pick (eqb 1 k) 1 0
    is xs x = ap (times k) x.split ∙ times_end k x.front

    none : (xs : List ℕ) (x : OnceEach n xs) → ((2 ≤ k) × (k < n) → ⊥) → times k x.front ≡ 0
    none xs x out = go (dec_lt 0 (times k x.front))
      where
        go : Dec (0 < times k x.front) → times k x.front ≡ 0
        go (yes l) = absurd (out (x.only k l))
        go (no l) = omega arith

    fronts : Dec (2 ≤ k) → Dec (k < n) → times k o.front ≡ times k o'.front
    fronts (yes a) (yes b) = o.once k a b ∙ sym (o'.once k a b)
    fronts (yes a) (no b) = none order o (λ x. b x.1) ∙ sym (none order' o' (λ x. b x.1))
    fronts (no a) d = none order o (λ x. a x.0) ∙ sym (none order' o' (λ x. a x.0))

-- an object of an order
pub once_among : (n : ℕ) (order : List ℕ) → 2 ≤ n → OnceEach n order → (k : ℕ) → 0 < times k order → (1 ≤ k) × (k < n)
once_among n order two o k h = go (decide (eqb 1 k)) (rw (ap (times k) o.split ∙ times_end k o.front) at h)
  where
    go : (eqb 1 k ≡ true) ⊎ (eqb 1 k ≡ false) → 0 < times k o.front + pick (eqb 1 k) 1 0 → (1 ≤ k) × (k < n)
    go (inl t) l = let e = eqb-true 1 k t in (omega arith, omega arith)
    go (inr t) l = let x = o.only k (omega (arith, rw t at l)) in (omega arith, omega arith)

-- ---- sums over a list

module _ (g : ℕ → ℕ) where
  unfoldable sum : List ℕ → ℕ
  sum [] = 0
  sum (x ∷ xs) = g x + sum xs

unfoldable without : ℕ → List ℕ → List ℕ
without x [] = []
without x (y ∷ ys) = pick (eqb y x) ys (y ∷ without x ys)

module _ (g : ℕ → ℕ) (x : ℕ) where
  sum_without : (ys : List ℕ) → 0 < times x ys → sum g ys ≡ g x + sum g (without x ys)
  unfolding sum without
  sum_without [] h = absurd (omega arith)
  sum_without (y ∷ ys) h =
      ⊎_elim
      (λ (t : eqb y x ≡ true). rw t (ap (λ (z : ℕ). g z + sum g ys) (eqb-true y x t)))
      (λ (t : eqb y x ≡ false). rw t (omega (arith, sum_without ys (rw t at h))))
      (decide (eqb y x))

times_without : (x : ℕ) (ys : List ℕ) → 0 < times x ys → (k : ℕ) → times k ys ≡ times k (x ∷ without x ys)
unfolding without
times_without x [] h k = absurd (omega arith)
times_without x (y ∷ ys) h k =
    ⊎_elim
    (λ (t : eqb y x ≡ true). rw t (ap (λ (z : ℕ). times k (z ∷ ys)) (eqb-true y x t)))
    (λ (t : eqb y x ≡ false). rw t (swap (eqb y k) (eqb x k) (times k ys) (times k (without x ys)) (times_without x ys (rw t at h) k)))
    (decide (eqb y x))
  where
    swap :
        (a b : Bool) (m n : ℕ) → m ≡ pick b (suc n) n
        → pick a (suc m) m ≡ pick b (suc (pick a (suc n) n)) (pick a (suc n) n)
    swap true true m n e = ap suc e
    swap true false m n e = ap suc e
    swap false true m n e = e
    swap false false m n e = e

times_more : (k x : ℕ) (xs ys : List ℕ) → times k (x ∷ xs) ≡ times k (x ∷ ys) → times k xs ≡ times k ys
times_more k x xs ys e = go (eqb x k) refl
  where
    go : (t : Bool) → eqb x k ≡ t → times k xs ≡ times k ys
    go true t = let s : suc (times k xs) ≡ suc (times k ys) = rw t at e in omega arith
    go false t = rw t at e

sums_same : (g : ℕ → ℕ) (xs ys : List ℕ) → ((k : ℕ) → times k xs ≡ times k ys) → sum g xs ≡ sum g ys
unfolding sum
sums_same g [] [] same = refl
sums_same g [] (y ∷ ys) same = absurd (omega (arith, same y, times_head y ys))
sums_same g (x ∷ xs) ys same =
    let h : 0 < times x ys = omega (arith, same x, times_head x xs) in
    ap (λ (n : ℕ). g x + n) (sums_same g xs (without x ys) (λ k. times_more k x xs (without x ys) (same k ∙ times_without x ys h k)))
    ∙ sym (sum_without g x ys h)

-- ---- refusals

module _ (row : ℕ → Row) (S : Objs) (files : List File) where
  -- 14 to 18, 22, 25 and 28 of each object by itself
  unfoldable singly : List ℕ → Verdict
  singly [] = passed
  singly (k ∷ ks) = first (object_verdict row S [] k (get_or files k no_file)) (singly ks)

  -- so it is where only the last object of an order has copies
  order_singly :
      (ks : List ℕ) (l : ℕ) → ((k : ℕ) → 0 < times k ks → object_copies row S k (get_or files k no_file) ≡ [])
      → order_verdict row S files [] (ks ++ (l ∷ [])) ≡ singly (ks ++ (l ∷ []))
  unfolding order_verdict singly
  order_singly [] l none = refl
  order_singly (k ∷ ks) l none =
      let v : Verdict = object_verdict row S [] k (get_or files k no_file) in
      ap (λ (cs : List Copy). first v (order_verdict row S files cs (ks ++ (l ∷ [])))) (none k (times_head k ks))
      ∙ ap (λ (w : Verdict). first v w) (order_singly ks l (λ j h. none j (omega (arith, times_tail j k ks))))

  singly_checked : (ks : List ℕ) → singly ks ≡ passed → (k : ℕ) → 0 < times k ks → object_verdict row S [] k (get_or files k no_file) ≡ passed
  unfolding singly
  singly_checked [] v k h = absurd (omega arith)
  singly_checked (j ∷ js) v k h =
      let a = first_passed (object_verdict row S [] j (get_or files j no_file)) (singly js) v in
      ⊎_elim
      (λ (t : eqb j k ≡ true). subst (λ (i : ℕ). object_verdict row S [] i (get_or files i no_file) ≡ passed) (eqb-true j k t) a.0)
      (λ (t : eqb j k ≡ false). singly_checked js a.1 k (rw t at h))
      (decide (eqb j k))

  all_checked : (ks : List ℕ) → ((k : ℕ) → 0 < times k ks → object_verdict row S [] k (get_or files k no_file) ≡ passed) → singly ks ≡ passed
  unfolding singly
  all_checked [] h = refl
  all_checked (k ∷ ks) h = rw (h k (times_head k ks)) (all_checked ks (λ j l. h j (omega (arith, times_tail j k ks))))

  -- of two orders, where no library has copies
  pub verdicts_same :
      (n : ℕ) (xs ys : List ℕ) → OnceEach n xs → OnceEach n ys → ((k : ℕ) → 2 ≤ k → k < n → object_copies row S k (get_or files k no_file) ≡ [])
      → order_verdict row S files [] xs ≡ passed → order_verdict row S files [] ys ≡ passed
  verdicts_same n xs ys o o' none v =
      by_itself ys o'
      ∙ all_checked ys (λ k h. singly_checked xs (sym (by_itself xs o) ∙ v) k (omega (arith, once_times n xs ys o o' k)))
    where
      by_itself : (zs : List ℕ) → OnceEach n zs → order_verdict row S files [] zs ≡ singly zs
      by_itself zs x =
          subst (λ (l : List ℕ). order_verdict row S files [] l ≡ singly l) (sym x.split)
          (order_singly x.front 1 (λ k h. let a = x.only k h in none k a.0 a.1))

  none_undefined :
      (ks : List ℕ) → ((k : ℕ) → 0 < times k ks → has_undefined row S k (get_or files k no_file) ≡ false) → first_undefined row S files ks ≡ 0
  unfolding first_undefined
  none_undefined [] h = refl
  none_undefined (k ∷ ks) h = rw (h k (times_head k ks)) (none_undefined ks (λ j l. h j (omega (arith, times_tail j k ks))))

  undefined_none :
      (ks : List ℕ) → ((k : ℕ) → 0 < times k ks → 1 ≤ k) → first_undefined row S files ks ≡ 0 → (k : ℕ) → 0 < times k ks
      → has_undefined row S k (get_or files k no_file) ≡ false
  unfolding first_undefined
  undefined_none [] pos e k h = absurd (omega arith)
  undefined_none (j ∷ js) pos e k h =
      ⊎_elim
      (λ (t : has_undefined row S j (get_or files j no_file) ≡ true).
      let z : j ≡ 0 = rw t at e in absurd (omega (arith, pos j (times_head j js))))
      (λ (t : has_undefined row S j (get_or files j no_file) ≡ false).
      ⊎_elim
      (λ (q : eqb j k ≡ true). subst (λ (i : ℕ). has_undefined row S i (get_or files i no_file) ≡ false) (eqb-true j k q) t)
      (λ (q : eqb j k ≡ false).
      undefined_none js (λ i l. pos i (omega (arith, times_tail i j js))) (rw t at e) k (rw q at h))
      (decide (eqb j k)))
      (decide (has_undefined row S j (get_or files j no_file)))

  -- 19
  pub undefined_same :
      (xs ys : List ℕ) → ((k : ℕ) → times k xs ≡ times k ys) → ((k : ℕ) → 0 < times k xs → 1 ≤ k) → first_undefined row S files xs ≡ 0
      → first_undefined row S files ys ≡ 0
  undefined_same xs ys same pos e = none_undefined ys (λ k h. undefined_none xs pos e k (omega (arith, same k)))

  words_sum : (ks : List ℕ) → length (order_words row S files ks) ≡ sum (λ k. length (object_words row S k (get_or files k no_file))) ks
  unfolding order_words sum
  words_sum [] = refl
  words_sum (k ∷ ks) =
      length-append (object_words row S k (get_or files k no_file)) (order_words row S files ks)
      ∙ ap (λ (n : ℕ). length (object_words row S k (get_or files k no_file)) + n) (words_sum ks)

  -- 20
  pub lengths_same :
      (xs ys : List ℕ) → ((k : ℕ) → times k xs ≡ times k ys) → length (order_words row S files xs) ≡ length (order_words row S files ys)
  lengths_same xs ys same =
      words_sum xs ∙ (sums_same (λ k. length (object_words row S k (get_or files k no_file))) xs ys same ∙ sym (words_sum ys))

-- ---- the words of one object in a report

-- a list `n` times
unfoldable pub again : ℕ → List ℕ → List ℕ
again zero ws = []
again (suc n) ws = ws ++ again n ws

module _ (k : ℕ) where
  -- a word of another kind than 5, which is not 0
  other_word :
      (here : Bool) (w : ℕ) (ws : List ℕ) → (w / 2 ^ 28 ≡ 5 → ⊥) → (w ≡ 0 → ⊥) → words_of_object k here (w ∷ ws) ≡ pick here (w ∷ []) [] ++ words_of_object k here ws
  unfolding words_of_object
  other_word true w ws ne nz = rw (ne_eqb _ _ ne, ne_eqb _ _ nz)
  other_word false w ws ne nz = rw (ne_eqb _ _ ne)

  entry_words :
      (here : Bool) (i : ℕ) (s t : Bool) (ws : List ℕ)
      → words_of_object k here (pick s (report_word 6 i ∷ []) (pick t (report_word 7 i ∷ []) []) ++ ws)
      ≡ pick here (pick s (report_word 6 i ∷ []) (pick t (report_word 7 i ∷ []) [])) [] ++ words_of_object k here ws
  entry_words here i true t ws = other_word here (report_word 6 i) ws (λ e. omega arith) (λ e. omega arith)
  entry_words here i false true ws = other_word here (report_word 7 i) ws (λ e. omega arith) (λ e. omega arith)
  entry_words true i false false ws = refl
  entry_words false i false false ws = refl

  joined : (here : Bool) (a b c : List ℕ) → pick here a [] ++ (pick here b [] ++ c) ≡ pick here (a ++ b) [] ++ c
  joined true a b c = sym (append_assoc a b c)
  joined false a b c = refl

  entries_words :
      (here : Bool) (row : ℕ → Row) (S : Objs) (j : ℕ) (image : List ℕ) (r : Record) (i : ℕ) (es : List Rela) (ws : List ℕ)
      → words_of_object k here (entry_report row S j image r i es ++ ws) ≡ pick here (entry_report row S j image r i es) [] ++ words_of_object k here ws
  unfolding entry_report
  entries_words true row S j image r i [] ws = refl
  entries_words false row S j image r i [] ws = refl
  entries_words here row S j image r i (e ∷ es) ws =
      let x : List ℕ = pick (is_undefined row S j image r e) (report_word 6 i ∷ []) (pick (is_passed (row e.rtype)) (report_word 7 i ∷ []) []) in
      ap (words_of_object k here) (append_assoc x (entry_report row S j image r (i + 1) es) ws)
      ∙ (entry_words here i (is_undefined row S j image r e) (is_passed (row e.rtype)) (entry_report row S j image r (i + 1) es ++ ws)
      ∙ (ap (λ (l : List ℕ). pick here x [] ++ l) (entries_words here row S j image r (i + 1) es ws)
      ∙ joined here x (entry_report row S j image r (i + 1) es) (words_of_object k here ws)))

  -- a word of kind 5
  first_word :
      (here : Bool) (j : ℕ) (ws : List ℕ) → j < 2 ^ 28
      → words_of_object k here (report_word 5 j ∷ ws) ≡ pick (eqb j k) (report_word 5 j ∷ words_of_object k true ws) (words_of_object k false ws)
  unfolding words_of_object
  first_word here j ws h =
      let d : (5 * 2 ^ 28 + j) / 2 ^ 28 ≡ 5 = omega arith in
      rw (eq-eqb _ _ d)
      (⊎_elim
      (λ (t : eqb j k ≡ true). rw (t, eq-eqb (5 * 2 ^ 28 + j) (5 * 2 ^ 28 + k) (omega (arith, eqb-true j k t))))
      (λ (t : eqb j k ≡ false). rw (t, ne_eqb (5 * 2 ^ 28 + j) (5 * 2 ^ 28 + k) (λ e. eqb-false j k t (omega arith))))
      (decide (eqb j k)))

  zero_words : (here : Bool) (n : ℕ) → words_of_object k here (replicate n 0) ≡ []
  unfolding words_of_object
  zero_words true zero = refl
  zero_words false zero = refl
  zero_words true (suc n) = zero_words true n
  zero_words false (suc n) = zero_words false n

  module _ (row : ℕ → Row) (S : Objs) (files : List File) where
    object_words_lem :
        (here : Bool) (j : ℕ) (f : File) (ws : List ℕ) → j < 2 ^ 28
        → words_of_object k here (object_words row S j f ++ ws) ≡ pick (eqb j k) (object_words row S j f ++ words_of_object k true ws) (words_of_object k false ws)
    unfolding object_words
    object_words_lem here j f ws h =
        first_word here j _ h
        ∙ ⊎_elim
        (λ (t : eqb j k ≡ true).
        rw t
        (ap (λ (l : List ℕ). report_word 5 j ∷ l)
        (entries_words true row S j (file_image f) (file_record f) 0 (relas_of (file_image f) (file_record f)) ws)))
        (λ (t : eqb j k ≡ false). rw t (entries_words false row S j (file_image f) (file_record f) 0 (relas_of (file_image f) (file_record f)) ws))
        (decide (eqb j k))

    -- of an order: its words, as often as it is there
    pub order_words_lem :
        (here : Bool) (order : List ℕ) (n : ℕ) → ((j : ℕ) → 0 < times j order → j < 2 ^ 28)
        → words_of_object k here (order_words row S files order ++ replicate n 0) ≡ again (times k order) (object_words row S k (get_or files k no_file))
    unfolding order_words again
    order_words_lem here [] n small = zero_words here n
    order_words_lem here (j ∷ js) n small =
        let f : File = get_or files j no_file in
        ap (words_of_object k here) (append_assoc (object_words row S j f) (order_words row S files js) (replicate n 0))
        ∙ (object_words_lem here j f (order_words row S files js ++ replicate n 0) (small j (times_head j js))
        ∙ ⊎_elim
        (λ (t : eqb j k ≡ true).
        rw t
        (ap (λ (l : List ℕ). object_words row S j f ++ l) (order_words_lem true js n (λ i l. small i (omega (arith, times_tail i j js))))
        ∙ ap (λ (i : ℕ). object_words row S i (get_or files i no_file) ++ again (times k js) (object_words row S k (get_or files k no_file))) (eqb-true j k t)))
        (λ (t : eqb j k ≡ false). rw t (order_words_lem false js n (λ i l. small i (omega (arith, times_tail i j js)))))
        (decide (eqb j k)))
