-- The largest bucket word and the last symbol of a walk, turn by turn. No contract cites this file. Assumes nothing.
use Rattle.std.specs.Prelude.{Some, fold}
use Rattle.std.specs.List.{range_with_len}
use mathlib.Core.Path.{◌≡◌, refl, sym, ap, ◌∙◌, subst}
use mathlib.Core.Logic.{⊎_elim}
use mathlib.Core.Bool.{true, false}
use mathlib.Core.List.{List}
use Prim.Native.Nat.{ℕ, zero, suc, ◌+◌, ◌-◌, ◌*◌, ◌/◌, ◌≤◌, ◌<◌, max, min}
use native.Mathlib.Nat.{not-suc-le-zero, add-zero, add-suc}
use native.Mathlib.Numerals.{add-one}
use native.Mathlib.Omega.{arith}
use Rattle.words.specs.Memory.{mem}
use Rattle.words.specs.Words.{le_at}
use Rattle.words.proofs.Words.{le_at_past}
use lib.ListN.{length}
use Rattle.object.specs.declared.hash_tables.HashTable.{HashTable}
use Rattle.object.specs.declared.hash_tables.HashTable.TheVariants.{Without, SysV, Gnu}
use Rattle.object.specs.HashTable.{bucket_count, bucket_at, chain_at, is_last, next_symbol, walk}
use Rattle.object.specs.SymbolCount.{highest, last_reached, count_of}
use Rattle.object.proofs.Ranges.{split}

highest_more : (m : List ℕ) (t : HashTable) (i b w r : ℕ) → b ≡ highest m t i → w ≡ le_at 4 (mem m) (bucket_at t i) → r ≡ max b w
    → r ≡ highest m t (i + 1)
unfolding highest
highest_more m t i b w r e f g = g ∙ rw (e, f, add-one)

-- buckets past the image's end have the word 0, and do not count
highest_past : (m : List ℕ) (t : HashTable) (n k : ℕ) → ((i : ℕ) → n ≤ i → le_at 4 (mem m) (bucket_at t i) ≡ 0) → highest m t (n + k) ≡ highest m t n
unfolding highest
highest_past m t n zero past = rw add-zero
highest_past m t n (suc k) past =
    let z : max (highest m t (n + k)) 0 ≡ highest m t (n + k) = omega arith in
    rw (add-suc n k, past (n + k) (omega arith)) (z ∙ highest_past m t n k past)

cut : (m : List ℕ) (t : HashTable) (n k : ℕ) → ((i : ℕ) → 4 * i ≤ bucket_at t i) → k ≡ min n (length m / 4 + 1) → highest m t k ≡ highest m t n
cut m t n k far e =
    let s : k + (n - k) ≡ n = omega arith in
    ⊎_elim
    (λ (l : length m / 4 + 1 < n).
    sym (ap (highest m t) (sym s)
    ∙ highest_past m t k (n - k) (λ i g. let h = far i in le_at_past 4 m (bucket_at t i) (omega arith))))
    (λ (l : n ≤ length m / 4 + 1). let q : k ≡ n = omega arith in ap (highest m t) q)
    (split (length m / 4 + 1) n)

pub highest_cut : (m : List ℕ) (t : HashTable) (k : ℕ) → k ≡ min (bucket_count t) (length m / 4 + 1) → highest m t k ≡ highest m t (bucket_count t)
highest_cut m Without k e = let q : k ≡ 0 = omega arith in ap (highest m Without) q
highest_cut m (SysV at n c) k e = cut m (SysV at n c) n k (λ i. omega arith) e
highest_cut m (Gnu at n symoffset b shift) k e = cut m (Gnu at n symoffset b shift) n k (λ i. omega arith) e

-- a fold over the first buckets
highest_from : (m : List ℕ) (t : HashTable) (i k : ℕ)
    → fold (λ (b : ℕ) (j : ℕ). max b (le_at 4 (mem m) (bucket_at t j))) (highest m t i) (range_with_len i k) ≡ highest m t (i + k)
unfolding highest
highest_from m t i zero = ap (highest m t) (sym (add-zero i))
highest_from m t i (suc k) =
    let s : i + suc k ≡ (i + 1) + k = omega arith in
    let w = le_at 4 (mem m) (bucket_at t i) in
    ap (λ (c : ℕ). fold (λ (b : ℕ) (j : ℕ). max b (le_at 4 (mem m) (bucket_at t j))) c (range_with_len (i + 1) k)) (highest_more m t i (highest m t i) w (max (highest m t i) w) refl refl refl)
    ∙ highest_from m t (i + 1) k ∙ ap (highest m t) (sym s)

pub highest_fold : (m : List ℕ) (t : HashTable) (k : ℕ)
    → fold (λ (b : ℕ) (j : ℕ). max b (le_at 4 (mem m) (bucket_at t j))) 0 (range_with_len 0 k) ≡ highest m t k
unfolding highest
highest_fold m t k =
    let z : 0 + k ≡ k = omega arith in
    highest_from m t 0 k ∙ ap (highest m t) z

-- what holds of 0 and of the word of each bucket holds of the largest
pub highest_of : (m : List ℕ) (t : HashTable) (P : ℕ → Type 0) → P 0 → (n : ℕ)
    → ((i : ℕ) → i < n → P (le_at 4 (mem m) (bucket_at t i))) → P (highest m t n)
unfolding highest
highest_of m t P z zero h = z
highest_of m t P z (suc n) h = larger (highest m t n) (le_at 4 (mem m) (bucket_at t n)) (highest_of m t P z n (λ i l. h i (omega arith))) (h n (omega arith))
  where
    larger : (a b : ℕ) → P a → P b → P (max a b)
    larger a b x y =
        ⊎_elim
        (λ (l : a < b). let e : max a b ≡ b = omega arith in subst P (sym e) y)
        (λ (l : b ≤ a). let e : max a b ≡ a = omega arith in subst P (sym e) x)
        (split a b)

module _ (m : List ℕ) (t : HashTable) (s d : ℕ) where
  pub last_stop : (n w : ℕ) → 0 < n → w ≡ le_at 4 (mem m) (chain_at t s) → is_last t w ≡ true → last_reached (walk m t n s) d ≡ s
  unfolding walk last_reached
  last_stop zero w l e la = absurd (not-suc-le-zero l)
  last_stop (suc n) w l e la = rw (← e, la)

  pub last_on : (n w k : ℕ) → n ≡ suc k → w ≡ le_at 4 (mem m) (chain_at t s) → is_last t w ≡ false
      → last_reached (walk m t n s) d ≡ last_reached (walk m t k (next_symbol t s w)) s
  unfolding walk last_reached
  last_on n w k q e la = rw (q, ← e, la)

  pub last_out : (n : ℕ) → n ≤ 0 → last_reached (walk m t n s) d ≡ d
  unfolding walk last_reached
  last_out zero l = refl
  last_out (suc n) l = absurd (not-suc-le-zero l)

-- document 01, "Proved cases": strings 0x400, symbols 0x2B0: 14 symbols
pub count_case : (image : List ℕ) (t : HashTable) → count_of image (record { symbols = 0x2b0; strings = 0x400; table = t }) ≡ Some 14
unfolding count_of
count_case image t = refl
