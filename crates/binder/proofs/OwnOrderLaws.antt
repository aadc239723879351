-- Orders that are handed in: what the loops over them have left to look at, and what an order that is one has. Assumes nothing.
use Rattle.std.proofs.Common.{◌≡◌, ℕ, zero, suc, ◌+◌, ◌-◌, ◌<◌, ◌≤◌, Bool, true, false, eqb, List, [], ◌∷◌, ◌++◌, length, get_or, take, drop, sym, refl, ap, ◌∙◌, subst, ⊎_elim, true≢false, add-one, arith, length-append, drop_of_length-le, eq-eqb, ne_eqb, eqb-true}
use native.Mathlib.Decide.{dec_lt}
use lib.Seq.{split_at, get_or-append_seam}
use Rattle.std.specs.Prelude.{IsTrue, ◌↔◌, cond, ◌&&◌, ◌||◌}
use Rattle.std.specs.List.{All, count_by, list_all, list_any, range_with_len}
use Rattle.std.proofs.lemmas.List.{take_at}
use Rattle.std.proofs.lemmas.List.Recursion.{is_count_by}
use Rattle.words.specs.Choice.{pick, both, either, every, some}
use Rattle.words.proofs.Choice.{both_true}
use lib.Pointwise.{pointwise}
use Rattle.words.specs.Names.{same_bytes}
use Rattle.model.specs.Order.{has, listed, up_from, times, Distinct, none, one_more, OnceEach}
use Rattle.model.proofs.OrderLaws.{decide, clash, has_head, has_cases, has_cons, listed_range, range_listed, room, covers}
use Rattle.model.proofs.Orders.{times_tail, times_head}
use Rattle.object.specs.Entries.{rela_at, relas_from}
use Rattle.object.specs.declared.relocate.Rela.{Rela}
use Rattle.object.specs.Record.{Record}
use Rattle.binder.specs.OwnOrder.{is_order}
use Rattle.binder.specs.Steps.Relocating.{again_refusal, again_record}
use Rattle.binder.specs.Steps.OrderTaken.{copy_in, copy_again}

-- ---- tests of all elements, and counts

all_every : (p : ℕ → Bool) (xs : List ℕ) → All (λ x. p x ≡ true) xs → every p xs ≡ true
unfolding every
all_every p [] a = refl
all_every p (x ∷ xs) a = rw (a 0 x (omega arith)) (all_every p xs (λ k d l. a (suc k) d (omega arith)))

every_all : (p : ℕ → Bool) (xs : List ℕ) → every p xs ≡ true → All (λ x. p x ≡ true) xs
unfolding every
every_all p [] e k d l = absurd (omega arith)
every_all p (x ∷ xs) e zero d l = (both_true (p x) (every p xs) e).0
every_all p (x ∷ xs) e (suc k) d l = every_all p xs (both_true (p x) (every p xs) e).1 k d (omega arith)

-- a test that is true where each element passes
pub every_is : {r : Bool} (p : ℕ → Bool) (xs : List ℕ) → (IsTrue r ↔ All (λ x. p x ≡ true) xs) → r ≡ every p xs
every_is {r} p xs f = go r refl (every p xs) refl
  where
    go : (b : Bool) → r ≡ b → (t : Bool) → every p xs ≡ t → r ≡ every p xs
    go true h t e = h ∙ sym (all_every p xs (f.0 h))
    go false h true e = f.1 (every_all p xs e) ∙ sym e
    go false h false e = h ∙ sym e

pub times_counted : (k : ℕ) (xs : List ℕ) → times k xs ≡ count_by (λ j. eqb j k) xs
times_counted k xs = is_count_by (times k) (λ j. eqb j k) refl (λ j js. one (eqb j k) (times k js)) xs
  where
    one : (t : Bool) (n : ℕ) → pick t (suc n) n ≡ cond t (1 + n) n
    one true n = omega arith
    one false n = refl

-- ---- what is left of the numbers below `n` from `k` on

up_next : (k n : ℕ) → k < n → up_from k (n - k) ≡ k ∷ up_from (k + 1) (n - (k + 1))
up_next k n h =
    let e : n - k ≡ suc (n - (k + 1)) = omega arith in
    let s : suc k ≡ k + 1 = omega arith in
    ap (up_from k) e ∙ ap (λ (j : ℕ). k ∷ up_from j (n - (k + 1))) s

up_none : (k n : ℕ) → n ≤ k → up_from k (n - k) ≡ []
up_none k n h = let e : n - k ≡ 0 = omega arith in ap (up_from k) e

module _ (p : ℕ → Bool) (k n : ℕ) where
  pub some_up : (t : Bool) → k < n → p k ≡ t → some p (up_from k (n - k)) ≡ either t (some p (up_from (k + 1) (n - (k + 1))))
  unfolding some
  some_up t h e = ap (some p) (up_next k n h) ∙ ap (λ (b : Bool). either b (some p (up_from (k + 1) (n - (k + 1))))) e

  pub some_up_none : n ≤ k → some p (up_from k (n - k)) ≡ false
  unfolding some
  some_up_none h = ap (some p) (up_none k n h)

-- ---- tests of each number, of some entry

pub every_range : (p : ℕ → Bool) (a n : ℕ) → list_all p (range_with_len a n) ≡ every p (up_from a n)
unfolding every
every_range p a zero = refl
every_range p a (suc n) = go (p a) (ap (λ (k : ℕ). list_all p (range_with_len k n)) (add-one a) ∙ every_range p (suc a) n)
  where
    go : (b : Bool) {x y : Bool} → x ≡ y → (b && x) ≡ both b y
    go true e = e
    go false e = refl

pub some_range : (image : List ℕ) (at : ℕ) (p : Rela → Bool) (i n : ℕ) → list_any (λ j. p (rela_at image at j)) (range_with_len i n) ≡ some p (relas_from image at i n)
unfolding some relas_from
some_range image at p i zero = refl
some_range image at p i (suc n) = go (p (rela_at image at i)) (some_range image at p (i + 1) n)
  where
    go : (b : Bool) {x y : Bool} → x ≡ y → (b || x) ≡ either b y
    go true e = refl
    go false e = e

-- ---- the entries of an object whose record is read again

module _ (image file : List ℕ) where
  pub copy_stops : {n : ℕ} → again_refusal image file ≡ n → (n ≡ 0 → ⊥) → false ≡ copy_again image file
  unfolding copy_again
  copy_stops h ne = rw (h, ne_eqb _ _ ne)

  pub copy_goes : {r : Record} {t : Bool} → again_refusal image file ≡ 0 → r ≡ again_record image file → t ≡ copy_in image r → t ≡ copy_again image file
  unfolding copy_again
  copy_goes h hr e = rw (h) (e ∙ ap (copy_in image) hr)

-- ---- the list that is held

-- two lists that compare equal, number by number
pub same_pointwise : (xs ys : List ℕ) → pointwise eqb xs ys ≡ same_bytes xs ys
unfolding same_bytes
same_pointwise [] [] = refl
same_pointwise [] (y ∷ ys) = refl
same_pointwise (x ∷ xs) [] = refl
same_pointwise (x ∷ xs) (y ∷ ys) = ⊎_elim
    (λ (t : eqb x y ≡ true). rw t (same_pointwise xs ys))
    (λ (t : eqb x y ≡ false). rw t)
    (decide (eqb x y))

-- ---- an order

pub count_has : (k : ℕ) (ys : List ℕ) → has k ys ≡ true → 0 < times k ys
count_has k [] t = absurd (true≢false (sym t))
count_has k (y ∷ ys) t =
    ⊎_elim
    (λ (e : k ≡ y). subst (λ (z : ℕ). 0 < times k (z ∷ ys)) e (times_head k ys))
    (λ (m : has k ys ≡ true). omega (arith, count_has k ys m, times_tail k y ys))
    (has_cases k y ys t)

-- a list in which no number is twice
distinct : (xs : List ℕ) → ((j : ℕ) → times j xs ≤ 1) → Distinct xs
distinct [] h = none
distinct (x ∷ xs) h =
    one_more (not_twice (has x xs) refl) (distinct xs (λ j. omega (arith, times_tail j x xs, h j)))
  where
    not_twice : (t : Bool) → has x xs ≡ t → has x xs ≡ false
    not_twice true t =
        let two : times x (x ∷ xs) ≡ suc (times x xs) = rw (eq-eqb x x refl) in
        absurd (omega (arith, count_has x xs t, h x))
    not_twice false t = t

pub has_times : (k : ℕ) (ys : List ℕ) → 0 < times k ys → has k ys ≡ true
has_times k [] h = absurd (omega arith)
has_times k (y ∷ ys) h =
    ⊎_elim
    (λ (e : eqb y k ≡ true). subst (λ (z : ℕ). has z (y ∷ ys) ≡ true) (eqb-true y k e) (has_head y ys))
    (λ (e : eqb y k ≡ false). has_cons k y ys (has_times k ys (rw e at h)))
    (decide (eqb y k))

every_has : (p : ℕ → Bool) (xs : List ℕ) (k : ℕ) → every p xs ≡ true → has k xs ≡ true → p k ≡ true
unfolding every
every_has p [] k e h = absurd (true≢false (sym h))
every_has p (x ∷ xs) k e h =
    let b = both_true (p x) (every p xs) e in
    ⊎_elim (λ (q : k ≡ x). rw q b.0) (λ (m : has k xs ≡ true). every_has p xs k b.1 m) (has_cases k x xs h)

has_every : (p : ℕ → Bool) (xs : List ℕ) → ((k : ℕ) → has k xs ≡ true → p k ≡ true) → every p xs ≡ true
unfolding every
has_every p [] h = refl
has_every p (x ∷ xs) h = rw (h x (has_head x xs), has_every p xs (λ k m. h k (has_cons k x xs m)))

up_has : (a n k : ℕ) → has k (up_from a n) ≡ true → (a ≤ k) × (k < a + n)
up_has a zero k h = absurd (true≢false (sym h))
up_has a (suc n) k h =
    ⊎_elim
    (λ (e : k ≡ a). (omega arith, omega arith))
    (λ (m : has k (up_from (suc a) n) ≡ true). let r = up_has (suc a) n k m in (omega arith, omega arith))
    (has_cases k a (up_from (suc a) n) h)

has_up : (a n k : ℕ) → a ≤ k → k < a + n → has k (up_from a n) ≡ true
has_up a zero k h l = absurd (omega arith)
has_up a (suc n) k h l =
    ⊎_elim
    (λ (e : eqb k a ≡ true). subst (λ (z : ℕ). has z (a ∷ up_from (suc a) n) ≡ true) (sym (eqb-true k a e)) (has_head a (up_from (suc a) n)))
    (λ (e : eqb k a ≡ false). has_cons k a (up_from (suc a) n) (has_up (suc a) n k (later e) (omega arith)))
    (decide (eqb k a))
  where
    later : eqb k a ≡ false → suc a ≤ k
    later e = let ne : k ≡ a → ⊥ = λ q. clash (eq-eqb k a q) e in omega arith

module _ (libraries : ℕ) (order : List ℕ) where
  abbrev front : List ℕ
  front = take (length order - 1) order

  -- the words of an order: each library once, the program last
  pub order_once : is_order libraries order ≡ true → OnceEach (libraries + 2) order
  unfolding is_order
  order_once e =
      let a = both_true (eqb (get_or order (length order - 1) 0) 1) _ e in
      let b = both_true (every (λ k. eqb (times k front) 1) (up_from 2 libraries)) _ a.1 in
      record {
        front = front;
        split = ends order (eqb-true _ _ a.0);
        only = λ j h. listed_range libraries j (every_has (listed libraries) front j b.1 (has_times j front h));
        once = λ j l h. eqb-true _ _ (every_has (λ k. eqb (times k front) 1) (up_from 2 libraries) j b.0 (has_up 2 libraries j l (omega arith)));
      }
    where
      ends : (xs : List ℕ) → get_or xs (length xs - 1) 0 ≡ 1 → xs ≡ take (length xs - 1) xs ++ (1 ∷ [])
      ends [] z = absurd (omega arith)
      ends (x ∷ xs) z =
          let n : length (x ∷ xs) - 1 ≡ length xs = omega arith in
          let d : drop (suc (length xs)) (x ∷ xs) ≡ [] = drop_of_length-le (x ∷ xs) {i = suc (length xs)} (omega arith) in
          let w : get_or (x ∷ xs) (length xs) 0 ≡ 1 = ap (λ (m : ℕ). get_or (x ∷ xs) m 0) (sym n) ∙ z in
          split_at (x ∷ xs) (length xs) 0 (omega arith)
          ∙ (ap (λ (v : ℕ). take (length xs) (x ∷ xs) ++ (v ∷ drop (suc (length xs)) (x ∷ xs))) w
          ∙ (ap (λ (r : List ℕ). take (length xs) (x ∷ xs) ++ (1 ∷ r)) d
          ∙ ap (λ (m : ℕ). take m (x ∷ xs) ++ (1 ∷ [])) (sym n)))

-- as many words as there are libraries, and one
pub once_length : (n : ℕ) (order : List ℕ) → OnceEach (n + 2) order → length order ≡ n + 1
once_length n order o =
    let d = distinct o.front at_most in
    let most = room n o.front d (λ x h. o.only x (count_has x o.front h)) in
    let least = covers n 2 o.front d (λ k a b. has_times k o.front (omega (arith, o.once k a (omega arith)))) in
    ap length o.split ∙ simp length-append (omega arith)
  where
    at_most : (j : ℕ) → times j o.front ≤ 1
    at_most j = go (dec_lt 0 (times j o.front))
      where
        go : Dec (0 < times j o.front) → times j o.front ≤ 1
        go (yes l) = let r = o.only j l in omega (arith, o.once j r.0 r.1)
        go (no l) = omega arith

-- what has each once is found to be an order
pub once_order : (n : ℕ) (order : List ℕ) → OnceEach (n + 2) order → is_order n order ≡ true
unfolding is_order
once_order n order o =
    let len : length order ≡ n + 1 = once_length n order o in
    let many : length o.front + 1 ≡ length order = sym (ap length o.split ∙ length-append o.front (1 ∷ [])) in
    let w : get_or order (length order - 1) 0 ≡ 1 = last o.front order o.split in
    let f : take (length order - 1) order ≡ o.front = firsts o.front order o.split in
    rw (
      eq-eqb _ _ w,
      f,
      has_every (λ k. eqb (times k o.front) 1) (up_from 2 n)
          (λ k h. let r = up_has 2 n k h in eq-eqb _ _ (o.once k r.0 (omega arith))),
    )
    (has_every (listed n) o.front (λ k h. let r = o.only k (count_has k o.front h) in range_listed n k r.0 r.1))
  where
    last : (xs ys : List ℕ) → ys ≡ xs ++ (1 ∷ []) → get_or ys (length ys - 1) 0 ≡ 1
    last xs ys e =
        let n : length ys - 1 ≡ length xs = omega (arith, ap length e, length-append xs (1 ∷ [])) in
        rw (n, e) (end xs)
      where
        end : (zs : List ℕ) → get_or (zs ++ (1 ∷ [])) (length zs) 0 ≡ 1
        end [] = refl
        end (z ∷ zs) = end zs

    firsts : (xs ys : List ℕ) → ys ≡ xs ++ (1 ∷ []) → take (length ys - 1) ys ≡ xs
    firsts xs ys e =
        let n : length ys - 1 ≡ length xs = omega (arith, ap length e, length-append xs (1 ∷ [])) in
        rw (n, e) (start xs)
      where
        start : (zs : List ℕ) → take (length zs) (zs ++ (1 ∷ [])) ≡ zs
        start [] = refl
        start (z ∷ zs) = ap (λ (r : List ℕ). z ∷ r) (start zs)

-- words of another number are none
pub other_length : (n : ℕ) (order : List ℕ) → (length order ≡ n + 1 → ⊥) → is_order n order ≡ false
other_length n order ne = go (is_order n order) refl
  where
    go : (t : Bool) → is_order n order ≡ t → is_order n order ≡ false
    go true e = absurd (ne (once_length n order (order_once n order e)))
    go false e = e

-- the tests of the code, of its last word and of those before it
pub order_tests : (n last : ℕ) (front : List ℕ) {order : List ℕ} → order ≡ front ++ (last ∷ []) → length front ≡ n
    → is_order n order ≡ both (eqb last 1) (both (every (λ k. eqb (times k front) 1) (up_from 2 n)) (every (listed n) front))
unfolding is_order
order_tests n last front {order} split many =
    let m : length (front ++ (last ∷ [])) - 1 ≡ n = omega (arith, length-append front (last ∷ [])) in
    let f : take n (front ++ (last ∷ [])) ≡ front = take_at front (last ∷ []) n many in
    let l : get_or (front ++ (last ∷ [])) n 0 ≡ last = ap (λ (i : ℕ). get_or (front ++ (last ∷ [])) i 0) (sym many) ∙ get_or-append_seam front last [] 0 in
    rw (split, m, f, l)
