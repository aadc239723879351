-- What the proofs of `unlisted` and `arrange` rest on. Assumes nothing.
use Rattle.std.proofs.Common.{◌≡◌, ℕ, zero, suc, ◌+◌, ◌-◌, ◌<◌, ◌≤◌, min, Bool, true, false, not, ltb, List, [], ◌∷◌, ◌++◌, length, get_or, replicate, sym, refl, ap, ◌∙◌, ⊎_elim, add-one, arith, take, drop, length-append, length-take-le, le-leb, ltb-true, ltb-false, lt-ltb, le-ltb}
use Rattle.std.proofs.lemmas.List.{drop-replicate, length-replicate}
use borrow.Rule.Slice.PartMut.{put_mid}
use Rattle.words.specs.Choice.{both}
use Rattle.model.specs.Order as order
use Rattle.model.specs.Order.{listed, first_first, up_from, visit, order_of}
use Rattle.model.proofs.OrderLaws.{decide, order_length}
use Rattle.binder.specs.Steps.Table.{needs_row, Ordered}
use Rattle.binder.specs.Steps.OrderState.{State, unmarked, used, Room, Marks, Visited, Unlisted}

all_true : (n i : ℕ) → get_or (replicate n true) i true ≡ true
all_true zero i = refl
all_true (suc n) zero = refl
all_true (suc n) (suc i) = all_true n i

none_unmarked : (n : ℕ) → unmarked (replicate n true) ≡ 0
none_unmarked zero = refl
none_unmarked (suc n) = none_unmarked n

unmarked_before : (n : ℕ) (s : List Bool) → unmarked (replicate n false ++ s) ≡ n + unmarked s
unmarked_before zero s = let z : unmarked s ≡ 0 + unmarked s = omega arith in z
unmarked_before (suc n) s =
    let ih = unmarked_before n s in
    let z : suc (unmarked (replicate n false ++ s)) ≡ suc n + unmarked s = omega (arith, ih) in z

more : (i n k j m : ℕ) → j ≡ k + i → m ≡ k + n → ltb i n ≡ ltb j m
more i n k j m p q = ⊎_elim
    (λ (t : ltb i n ≡ true). let h = ltb-true i n t in t ∙ sym (lt-ltb j m (omega arith)))
    (λ (t : ltb i n ≡ false). let h = ltb-false i n t in t ∙ sym (le-ltb j m (omega arith)))
    (decide (ltb i n))

false_before : (n m i : ℕ) → get_or (replicate n false ++ replicate m true) i true ≡ not (ltb i n)
false_before zero m i = all_true m i ∙ sym (ap not (le-ltb i 0 (omega arith)))
false_before (suc n) m zero = sym (ap not (lt-ltb 0 (suc n) (omega arith)))
false_before (suc n) m (suc i) = false_before n m i ∙ ap not (more i n 1 (suc i) (suc n) (omega arith) (omega arith))

-- the numbers from 2 up to libs + 2 are filled with false
pub unlisted_filled : (libs k : ℕ) {ys : List Bool} → libs ≤ 62 → k ≡ libs → ys ≡ replicate (length (take k (drop 2 (replicate 64 true)))) false
    → Unlisted libs (put_mid 2 k (replicate 64 true) ys)
unlisted_filled libs k {ys} h q e =
    let n : length (take libs (replicate 62 true)) ≡ libs = length-take-le libs (replicate 62 true) (omega (arith, length-replicate 62 true)) in
    let z : ys ≡ replicate libs false = rw (q, n) at e in
    let p : put_mid 2 k (replicate 64 true) ys ≡ true ∷ true ∷ (replicate libs false ++ replicate (62 - libs) true) =
    rw (z, q, drop-replicate libs 62 true) refl in
    rw p (record {
      marks = rw (length-append (replicate libs false) (replicate (62 - libs) true), length-replicate libs false, length-replicate (62 - libs) true) (omega arith);
      left = omega (arith, unmarked_before libs (replicate (62 - libs) true), none_unmarked (62 - libs));
      at = at_one;
    })
  where
    at_one : (i : ℕ) → get_or (true ∷ true ∷ (replicate libs false ++ replicate (62 - libs) true)) i true ≡ not (listed libs i)
    at_one zero = refl
    at_one (suc zero) = refl
    at_one (suc (suc i)) =
        false_before libs (62 - libs) i ∙ ap not (more i libs 2 (suc (suc i)) (libs + 2) (omega arith) (omega arith))
        ∙ sym (ap (λ (b : Bool). not (both b (ltb (suc (suc i)) (libs + 2)))) (le-leb 2 (suc (suc i)) (omega arith)))

-- the libraries before k are visited
pub record Visiting (table : List ℕ) (libs : ℕ) (o : State) (k : ℕ) : Type 0 where
  pub room : Room o
  pub within : used o ≤ libs
  pub low : 2 ≤ k
  pub high : k ≤ libs + 2
  pub marks : Marks libs [] o
  pub same : first_first (visit (needs_row table) libs libs []) (up_from k (libs + 2 - k)) o.list ≡ first_first (visit (needs_row table) libs libs []) (up_from 2 libs) []

both_yes : (b : Bool) → both b true ≡ b
both_yes true = refl
both_yes false = refl

pub visit_none : {table : List ℕ} {libs : ℕ} {s : List Bool} → libs ≤ 62 → Unlisted libs s → Visiting table libs (record { list = []; seen = s }) 2
visit_none {table} {libs} {s} h u =
    let e : libs + 2 - 2 ≡ libs = omega arith in
    record {
      room = record { fits = omega (arith, u.left); marks = u.marks };
      within = omega (arith, u.left);
      low = omega arith;
      high = omega arith;
      marks = λ j. u.at j ∙ sym (ap not (both_yes (listed libs j)));
      same = ap (λ (n : ℕ). first_first (visit (needs_row table) libs libs []) (up_from 2 n) []) e;
    }

pub visit_one : {table : List ℕ} {libs k : ℕ} {o o' : State} → k < libs + 2 → Visiting table libs o k → Visited table libs k o o' → Visiting table libs o' (k + 1)
visit_one {table} {libs} {k} {o} {o'} h t v =
    let f : ℕ → List ℕ → List ℕ = visit (needs_row table) libs libs [] in
    let one : libs + 2 - k ≡ suc (libs + 2 - suc k) = omega arith in
    record {
      room = v.room;
      within = omega (arith, v.within, t.within);
      low = omega (arith, t.low);
      high = omega arith;
      marks = v.marked libs [] t.marks;
      same =
          rw add-one (ap (λ (l : List ℕ). first_first f (up_from (suc k) (libs + 2 - suc k)) l) (v.same libs [] t.marks))
          ∙ sym (ap (λ (n : ℕ). first_first f (up_from k n) o.list) one)
          ∙ t.same;
    }

-- all are visited, and the program is put at the end
pub visit_all : {table : List ℕ} {libraries libs k : ℕ} {o : State} → libs ≡ min libraries 62 → libs + 2 ≤ k → Visiting table libs o k
    → Ordered table libraries (o.list ++ (1 ∷ []))
unfolding order.order_of
visit_all {table} {libraries} {libs} {k} {o} hl h t =
    let f : ℕ → List ℕ → List ℕ = visit (needs_row table) libs libs [] in
    let z : libs + 2 - k ≡ 0 = omega arith in
    let is : o.list ++ (1 ∷ []) ≡ order_of (needs_row table) libs =
    ap (λ (l : List ℕ). l ++ (1 ∷ [])) (sym (ap (λ (n : ℕ). first_first f (up_from k n) o.list) z) ∙ t.same) in
    record {
      list = is ∙ ap (λ (n : ℕ). order_of (needs_row table) n) hl;
      count = omega (arith, ap (λ (l : List ℕ). length l) is ∙ order_length (needs_row table) libs);
    }
