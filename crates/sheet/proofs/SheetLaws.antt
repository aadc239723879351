-- What the loop of `sheet_ok` over the sheet's words cites, and what a sheet that is not refused tells. Assumes nothing.
use Prim.Native.Nat.{ℕ, ◌+◌, ◌-◌, ◌%◌, ◌≤◌, ◌<◌}
use mathlib.Core.Bool.{Bool, true, false}
use mathlib.Core.Path.{◌≡◌, refl, sym, ap, ◌∙◌}
use mathlib.Core.List.{List, [], ◌∷◌, ◌++◌}
use native.Mathlib.Omega.{arith}
use native.Mathlib.Numerals.{add-one}
use lib.Dec.{leb, eqb}
use lib.ListN.{length, take, drop, get_or, length-append}
use lib.Seq.{drop-cons, take_all}
use borrow.Author.Tests.{leb-true, eqb-true}
use Rattle.std.specs.Prelude.{◌&&◌}
use Rattle.std.specs.List.{list_all, sum_by}
use Rattle.std.specs.Iterator.{AlwaysYields}
use Rattle.std.specs.Slice.Iter.{chunks_exact_rest, chunks_exact_size, chunks_exact_steps}
use Rattle.std.specs.declared.slice.ChunksExact.{ChunksExact}
use Rattle.std.proofs.lemmas.List.Sums.{sum_by-cons}
use Rattle.words.specs.Choice.{both}
use Rattle.words.proofs.Choice.{both_true}
use Rattle.sheet.specs.Sheet.{kind_of, length_in, pair_ok, lib_words, total, sheet_ok}

pub drop_next {ℓ} : {A : Type ℓ} (l : List A) (i : ℕ) (d : A) → i < length l → drop i l ≡ get_or l i d ∷ drop (i + 1) l
drop_next l i d h = rw (add-one, drop-cons l i d)

pub sheet_short : (xs : List ℕ) (n : ℕ) → length xs < 2 → sheet_ok xs n ≡ false
unfolding sheet_ok
sheet_short [] n h = refl
sheet_short (x ∷ []) n h = refl
sheet_short (x ∷ (y ∷ xs)) n h = absurd (omega arith)

-- what follows the first two words
abbrev pub after_two : List ℕ → List ℕ
after_two xs = take (length xs - 2) (drop 2 xs)

pub after_two_is : (x y : ℕ) (ws : List ℕ) → after_two (x ∷ (y ∷ ws)) ≡ ws
after_two_is x y ws = take_all (length (x ∷ (y ∷ ws)) - 2) ws (omega arith)

-- a sheet of two words or more
pub sheet_is : (xs : List ℕ) (n : ℕ) → 2 ≤ length xs
    → sheet_ok xs n ≡ both (eqb (kind_of (get_or xs 0 0)) 1) (both (eqb (kind_of (get_or xs 1 0)) 2) (both (leb (length (after_two xs)) 124)
    (both (lib_words (after_two xs)) (eqb (total xs) n))))
unfolding sheet_ok
sheet_is [] n h = absurd (omega arith)
sheet_is (x ∷ []) n h = absurd (omega arith)
sheet_is (x ∷ (y ∷ xs)) n h = rw (after_two_is x y xs)

-- the words two by two, as `chunks_exact` gives them
unfoldable pub pairs : List ℕ → List (List ℕ)
pairs [] = []
pairs (x ∷ []) = []
pairs (x ∷ (y ∷ xs)) = (x ∷ (y ∷ [])) ∷ pairs xs

first_two : (c r xs : List ℕ) (x y : ℕ) → length c ≡ 2 → x ∷ (y ∷ xs) ≡ c ++ r → (c ≡ x ∷ (y ∷ [])) × (r ≡ xs)
first_two [] r xs x y h e = absurd (omega (arith, h))
first_two (a ∷ []) r xs x y h e = absurd (omega (arith, h))
first_two (a ∷ (b ∷ [])) r xs x y h e =
    let f : x ≡ a = ap (λ (l : List ℕ). get_or l 0 0) e in
    let g : y ≡ b = ap (λ (l : List ℕ). get_or l 1 0) e in
    (rw (f, g) refl, sym (ap (λ (l : List ℕ). drop 2 l) e))
first_two (a ∷ (b ∷ (d ∷ c))) r xs x y h e = absurd (omega (arith, h))

pub chunks_yield : (xs : List ℕ) (s : ChunksExact ℕ) → chunks_exact_rest s ≡ xs → chunks_exact_size s ≡ 2
    → AlwaysYields chunks_exact_steps (λ x. x.now) s (pairs xs)
unfolding pairs
chunks_yield [] s e z = λ c j p. absurd (omega (arith, z, p.1.1, sym (ap length e) ∙ (ap length p.1.0 ∙ length-append c.now (chunks_exact_rest j))))
chunks_yield (x ∷ []) s e z = λ c j p. absurd (omega (arith, z, p.1.1, sym (ap length e) ∙ (ap length p.1.0 ∙ length-append c.now (chunks_exact_rest j))))
chunks_yield (x ∷ (y ∷ xs)) s e z = (
  (λ j p. absurd (omega (arith, z, p.1.0, ap length e))),
  λ c j p.
      let t = first_two c.now (chunks_exact_rest j) xs x y (p.1.1 ∙ z) (sym e ∙ p.1.0) in
      (t.0, chunks_yield xs j t.1 (p.0 ∙ z)),
)

pub libs_pairs : (xs : List ℕ) → length xs % 2 ≡ 0 → list_all (λ p. pair_ok (get_or p 0 0) (get_or p 1 0)) (pairs xs) ≡ lib_words xs
unfolding pairs lib_words
libs_pairs [] h = refl
libs_pairs (x ∷ []) h = absurd (omega arith)
libs_pairs (x ∷ (y ∷ xs)) h = go (pair_ok x y) (libs_pairs xs (omega arith))
  where
    go : (b : Bool) → list_all (λ p. pair_ok (get_or p 0 0) (get_or p 1 0)) (pairs xs) ≡ lib_words xs
        → (b && list_all (λ p. pair_ok (get_or p 0 0) (get_or p 1 0)) (pairs xs)) ≡ both b (lib_words xs)
    go true e = e
    go false e = refl

pub libs_odd : (xs : List ℕ) → (length xs % 2 ≡ 0 → ⊥) → lib_words xs ≡ false
unfolding lib_words
libs_odd [] h = absurd (h (omega arith))
libs_odd (x ∷ []) h = refl
libs_odd (x ∷ (y ∷ xs)) h = go (pair_ok x y) (libs_odd xs (λ e. h (omega (arith, e))))
  where
    go : (b : Bool) → lib_words xs ≡ false → both b (lib_words xs) ≡ false
    go true e = e
    go false e = refl

pub total_is : (xs : List ℕ) → sum_by length_in xs ≡ total xs
unfolding total
total_is [] = refl
total_is (x ∷ xs) = sum_by-cons length_in x xs ∙ ap (λ (n : ℕ). length_in x + n) (total_is xs)

-- what a sheet that is not refused tells
pub record Told (xs : List ℕ) (n : ℕ) : Type 0 where
  pub low : 2 ≤ length xs
  pub high : length xs ≤ 126
  pub sum : total xs ≡ n

pub told : (xs : List ℕ) (n : ℕ) → sheet_ok xs n ≡ true → Told xs n
unfolding sheet_ok
told [] n h = absurd (let z : ◌≡◌ {A = ℕ} 0 1 = cc in omega arith)
told (x ∷ []) n h = absurd (let z : ◌≡◌ {A = ℕ} 0 1 = cc in omega arith)
told (x ∷ (y ∷ xs)) n h =
    let e = eqb (total (x ∷ (y ∷ xs))) n in
    let b = both (lib_words xs) e in
    let d = both (leb (length xs) 124) b in
    let a = both_true (leb (length xs) 124) b (both_true (eqb (kind_of y) 2) d (both_true (eqb (kind_of x) 1) (both (eqb (kind_of y) 2) d) h).1).1 in
    let l = leb-true (length xs) 124 a.0 in
    let s = (both_true (lib_words xs) e a.1).1 in
    record { low = omega arith; high = omega arith; sum = eqb-true (total (x ∷ (y ∷ xs))) n s }
