-- Tests of every element, and of some element, of a list: in the words of std's iterators, and by a loop, what is left to test from `i` on.
-- Assumes nothing.
use mathlib.Core.Path.{◌≡◌, refl, ap, ◌∙◌}
use mathlib.Core.Bool.{Bool, true, false}
use mathlib.Core.List.{List, [], ◌∷◌}
use Prim.Native.Nat.{ℕ, zero, suc, ◌+◌, ◌≤◌, ◌<◌}
use native.Mathlib.Omega.{arith}
use native.Mathlib.Numerals.{add-one}
use lib.ListN.{length, drop, get_or, drop_of_length-le}
use lib.Seq.{drop-cons}
use Rattle.std.specs.Prelude.{◌&&◌, ◌||◌}
use Rattle.std.specs.List.{list_all, list_any}
use Rattle.words.specs.Choice.{both, either, every, some}
use Rattle.words.proofs.Choice.{both_true}

-- a test of every element is one of each
pub every_at :
    {A : Type 0} (p : A → Bool) (xs : List A) (i : ℕ) (d : A) → every p xs ≡ true → i < length xs → p (get_or xs i d) ≡ true
unfolding every
every_at p [] i d e h = absurd (omega arith)
every_at p (x ∷ xs) zero d e h = (both_true (p x) (every p xs) e).0
every_at p (x ∷ xs) (suc i) d e h = every_at p xs i d (both_true (p x) (every p xs) e).1 (omega arith)

-- the same tests in the words of std's iterators
pub every_all : {A : Type 0} (p : A → Bool) (xs : List A) → every p xs ≡ list_all p xs
unfolding every
every_all p [] = refl
every_all p (x ∷ xs) = go (p x) (every_all p xs)
  where
    go : (b : Bool) → every p xs ≡ list_all p xs → both b (every p xs) ≡ (b && list_all p xs)
    go true e = e
    go false e = refl

pub some_any : {A : Type 0} (p : A → Bool) (xs : List A) → some p xs ≡ list_any p xs
unfolding some
some_any p [] = refl
some_any p (x ∷ xs) = go (p x) (some_any p xs)
  where
    go : (b : Bool) → some p xs ≡ list_any p xs → either b (some p xs) ≡ (b || list_any p xs)
    go true e = refl
    go false e = e

-- what is left of a list from `i` on: its first element is tested, then the others
pub every_step : {A : Type 0} (l : List A) (i : ℕ) (d : A) → i < length l
    → (p : A → Bool) (t : Bool) → p (get_or l i d) ≡ t → every p (drop i l) ≡ both t (every p (drop (i + 1) l))
unfolding every
every_step l i d h p t e =
    let f : drop i l ≡ get_or l i d ∷ drop (i + 1) l = rw (add-one i) (drop-cons l i d h) in
    ap (every p) f ∙ ap (λ (b : Bool). both b (every p (drop (i + 1) l))) e

pub every_none : {A : Type 0} (p : A → Bool) (l : List A) (i : ℕ) → length l ≤ i → every p (drop i l) ≡ true
unfolding every
every_none p l i h = rw (drop_of_length-le l {i = i} h)

pub every_drop : {A : Type 0} (p : A → Bool) (l : List A) (i : ℕ) → every p l ≡ true → every p (drop i l) ≡ true
unfolding every
every_drop p [] zero e = e
every_drop p [] (suc i) e = e
every_drop p (x ∷ l) zero e = e
every_drop p (x ∷ l) (suc i) e = every_drop p l i (both_true (p x) (every p l) e).1
