-- The list of names of `query_all`, name by name from the front, and the words that a loop over it fills. Assumes nothing.
use Rattle.std.proofs.Common.{◌≡◌, ℕ, zero, suc, ◌+◌, ◌<◌, ◌≤◌, true, false, eqb, List, [], ◌∷◌, ◌++◌, map, length, get_or, take, drop, set, sym, refl, ap, ◌∙◌, ⊎_elim, append-nil, add-one, arith, length-set, take_all, take-suc-set, eqb-true}
use Rattle.std.specs.List.{count_by}
use Rattle.std.specs.Prelude.{Bool, cond}
use Rattle.std.proofs.lemmas.List.Recursion.{is_count_by}
use lib.Seq.{append_snoc}
use Rattle.words.specs.Choice.{pick}
use Rattle.words.specs.Names.{until_zero, name_at}
use Rattle.words.proofs.Choice.{both_true}
use Rattle.model.proofs.OrderLaws.{decide}
use Rattle.binder.specs.QueryAll.{beginning, names_in, ends_in_zero, zero_bytes, list_ok}

-- ---- the first name of a list that ends in a zero byte

-- what is left of a list after a name and its zero byte
abbrev pub past : List ℕ → List ℕ → List ℕ
past name xs = drop (suc (length name)) xs

pub record FirstName (xs : List ℕ) : Type 0 where
  pub inside : length (until_zero xs) < length xs
  pub names : names_in xs ≡ until_zero xs ∷ names_in (past (until_zero xs) xs)
  pub ends : ends_in_zero (past (until_zero xs) xs) ≡ true
  pub zeros : zero_bytes xs ≡ suc (zero_bytes (past (until_zero xs) xs))

-- a zero byte ends it
name_ends : (b : ℕ) (bs : List ℕ) → eqb b 0 ≡ true → ends_in_zero bs ≡ true → FirstName (b ∷ bs)
unfolding until_zero names_in zero_bytes
name_ends b bs z e = record { inside = rw z (omega arith); names = rw z refl; ends = rw z e; zeros = rw z (omega arith) }

-- another byte is its first
name_begins : (b c : ℕ) (bs : List ℕ) → eqb b 0 ≡ false → FirstName (c ∷ bs) → FirstName (b ∷ (c ∷ bs))
unfolding until_zero names_in zero_bytes
name_begins b c bs z rest =
    record {
      inside = rw z (omega (arith, rest.inside));
      names = rw z (ap (beginning b) rest.names);
      ends = rw z rest.ends;
      zeros = rw z (omega (arith, rest.zeros));
    }

first_name : (b : ℕ) (bs : List ℕ) → ends_in_zero (b ∷ bs) ≡ true → FirstName (b ∷ bs)
unfolding ends_in_zero
first_name b [] e = name_ends b [] e refl
first_name b (c ∷ bs) e =
    ⊎_elim
    (λ (z : eqb b 0 ≡ true). name_ends b (c ∷ bs) z e)
    (λ (z : eqb b 0 ≡ false). name_begins b c bs z (first_name c bs e))
    (decide (eqb b 0))

some_name : (xs : List ℕ) → 0 < length xs → ends_in_zero xs ≡ true → FirstName xs
some_name [] l e = absurd (omega arith)
some_name (b ∷ bs) l e = first_name b bs e

-- ---- 23

-- no byte
pub ends_none : (xs : List ℕ) → length xs ≡ 0 → ends_in_zero xs ≡ true
unfolding ends_in_zero
ends_none [] l = refl
ends_none (b ∷ bs) l = absurd (omega arith)

-- the last byte
pub ends_last : (xs : List ℕ) (n : ℕ) → length xs ≡ suc n → ends_in_zero xs ≡ eqb (get_or xs n 0) 0
unfolding ends_in_zero
ends_last [] n l = absurd (omega arith)
ends_last (b ∷ []) zero l = refl
ends_last (b ∷ []) (suc n) l = absurd (omega arith)
ends_last (b ∷ (c ∷ bs)) zero l = absurd (omega arith)
ends_last (b ∷ (c ∷ bs)) (suc n) l = ends_last (c ∷ bs) n (omega arith)

-- the count of zero bytes
pub zeros_counted : (xs : List ℕ) → count_by (λ b. eqb b 0) xs ≡ zero_bytes xs
unfolding zero_bytes
zeros_counted xs = sym (is_count_by zero_bytes (λ b. eqb b 0) refl (λ b bs. one (eqb b 0) (zero_bytes bs)) xs)
  where
    one : (t : Bool) (n : ℕ) → pick t 1 0 + n ≡ cond t (1 + n) n
    one true n = refl
    one false n = omega arith

-- ---- the words

-- the words before `i` are those of the names before what is left of the list
pub record Filling (f : List ℕ → ℕ) (list rest ws : List ℕ) (i : ℕ) : Type 0 where
  pub ends : ends_in_zero rest ≡ true
  pub left : i + zero_bytes rest ≡ length ws
  pub done : take i ws ++ map f (names_in rest) ≡ map f (names_in list)

pub fill_begin : (f : List ℕ → ℕ) (list ws : List ℕ) → list_ok list (length ws) ≡ true → Filling f list list ws 0
unfolding list_ok
fill_begin f list ws ok =
    let b = both_true (ends_in_zero list) (eqb (zero_bytes list) (length ws)) ok in
    let n : zero_bytes list ≡ length ws = eqb-true _ _ b.1 in
    record { ends = b.0; left = omega arith; done = refl }

-- a list without zero bytes that ends in one is empty
none_left : (xs : List ℕ) → ends_in_zero xs ≡ true → zero_bytes xs ≡ 0 → xs ≡ []
none_left [] e z = refl
none_left (b ∷ bs) e z = absurd (omega (arith, (first_name b bs e).zeros, z))

some_left : (xs : List ℕ) → 0 < zero_bytes xs → 0 < length xs
unfolding zero_bytes
some_left [] h = absurd (omega (arith, h))
some_left (b ∷ bs) h = omega arith

module _ (f : List ℕ → ℕ) (list rest ws : List ℕ) (i : ℕ) (l : Filling f list rest ws i) where
  pub fill_end : length ws ≤ i → ws ≡ map f (names_in list)
  unfolding names_in
  fill_end h =
      let none : rest ≡ [] = none_left rest l.ends (omega (arith, l.left)) in
      sym (take_all i ws h) ∙ (sym (append-nil (take i ws)) ∙ rw none at l.done)

  module _ (h : i < length ws) (name : List ℕ) (is : name ≡ name_at rest 0) where
    named : FirstName rest
    named = some_name rest (some_left rest (omega (arith, l.left, h))) l.ends

    pub fill_inside : length name < length rest
    fill_inside = rw is named.inside

    pub fill_turn : (v : ℕ) → v ≡ f name → Filling f list (drop (length name + 1) rest) (set ws i v) (i + 1)
    fill_turn v e =
        let k : List ℕ = drop (length name + 1) rest in
        let past_is : past (until_zero rest) rest ≡ k = rw (add-one (length name), is) refl in
        let zs : zero_bytes rest ≡ suc (zero_bytes k) = rw past_is at named.zeros in
        let ns : names_in rest ≡ name ∷ names_in k = (rw past_is at named.names) ∙ ap (λ (x : List ℕ). x ∷ names_in k) (sym is) in
        let all : take i ws ++ map f (name ∷ names_in k) ≡ map f (names_in list) = rw ns at l.done in
        record {
          ends = rw past_is at named.ends;
          left = omega (arith, length-set ws i v, zs, l.left);
          done = rw (add-one i, take-suc-set ws i v h, append_snoc (take i ws) v (map f (names_in k)), e) all;
        }
