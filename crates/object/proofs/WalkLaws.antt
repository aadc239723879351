-- The turns of a check of a walk, and the check of a bucket. No contract cites this file. Assumes nothing.
use mathlib.Core.Path.{◌≡◌, refl, sym}
use mathlib.Core.Bool.{Bool, true, false}
use mathlib.Core.List.{List}
use Prim.Native.Nat.{ℕ, zero, suc, ◌+◌, ◌≤◌, ◌<◌}
use native.Mathlib.Nat.{not-suc-le-zero}
use native.Mathlib.Omega.{arith}
use borrow.Author.Tests.{ne_eqb, le-leb, lt-leb}
use lib.Dec.{leb, leb-zero}
use lib.ListN.{length}
use Rattle.words.specs.Choice.{both, every}
use Rattle.words.specs.Memory.{mem}
use Rattle.words.specs.Words.{le_at}
use Rattle.words.proofs.Choice.{both_false}
use Rattle.object.specs.declared.hash_tables.HashTable.{HashTable}
use Rattle.object.specs.declared.hash_tables.HashTable.TheVariants.{Without, SysV, Gnu}
use Rattle.object.specs.HashTable.{bucket_at, chain_at, is_last, next_symbol, fuel, walk, walk_from}
use Rattle.object.specs.HashCheck.{bucket_ok, length_ok, step_ok, walk_ok}
use Rattle.object.specs.Steps.Marks.{Passes, word_ok, lowest}
use Rattle.object.proofs.WalkLengths.{length_fits}

module _ (m : List ℕ) (t : HashTable) (p : ℕ → Bool) (s : ℕ) where
  pub every_no : (n : ℕ) → 0 < n → p s ≡ false → every p (walk m t n s) ≡ false
  unfolding walk every
  every_no zero l e = absurd (not-suc-le-zero l)
  every_no (suc n) l e = rw e

  pub every_on : (n w k : ℕ) → n ≡ suc k → w ≡ le_at 4 (mem m) (chain_at t s) → p s ≡ true → is_last t w ≡ false
      → every p (walk m t n s) ≡ every p (walk m t k (next_symbol t s w))
  unfolding walk every
  every_on n w k q we e la = rw (q, e, ← we, la)

  pub length_on : (n w k : ℕ) → n ≡ suc k → w ≡ le_at 4 (mem m) (chain_at t s) → is_last t w ≡ false
      → length (walk m t n s) ≡ suc (length (walk m t k (next_symbol t s w)))
  unfolding walk
  length_on n w k q we la = rw (q, ← we, la)

  pub none_left : (n : ℕ) → n ≤ 0 → (every p (walk m t n s) ≡ true) × (length (walk m t n s) ≡ 0)
  unfolding walk every
  none_left zero l = (refl, refl)
  none_left (suc n) l = absurd (not-suc-le-zero l)

-- ---- the check of a bucket by its word

module _ (is_t : ℕ → Bool) (m : List ℕ) (symbols strings : ℕ) (t : HashTable) (i : ℕ) where
  pub bucket_empty : le_at 4 (mem m) (bucket_at t i) ≡ 0 → walk_ok is_t m symbols strings t i ≡ true
  unfolding walk_ok walk_from every bucket_ok length_ok
  bucket_empty e = rw (e, (none_ok t).0, (none_ok t).1)
    where
      none_ok : (t : HashTable) → (bucket_ok t 0 ≡ true) × (length_ok t 0 ≡ true)
      none_ok Without = (refl, refl)
      none_ok (SysV at n c) = (refl, leb-zero c)
      none_ok (Gnu at n symoffset b shift) = (refl, refl)

  pub bucket_word_lem : (w : ℕ) → w ≡ le_at 4 (mem m) (bucket_at t i) → (w ≡ 0 → ⊥)
      → walk_ok is_t m symbols strings t i ≡ word_ok m t (step_ok is_t m symbols strings t) w
  unfolding walk_ok walk_from word_ok
  bucket_word_lem w e nz = rw (← e, ne_eqb w 0 nz)

-- a System V walk may have no more symbols than the chain count
pub over : (c : ℕ) → false ≡ leb (c + 1) c
over c = sym (lt-leb (c + 1) c (omega arith))

both_right : (b : Bool) → both b true ≡ b
both_right true = refl
both_right false = refl

fits : (t : HashTable) (w : ℕ) → 0 < w → lowest t ≤ w → bucket_ok t w ≡ true
unfolding bucket_ok
fits Without w nz l = refl
fits (SysV at n c) w nz l = refl
fits (Gnu at n symoffset b shift) w nz l = rw (ne_eqb w 0 (λ e. omega arith), le-leb symoffset w l)

module _ (m : List ℕ) (t : HashTable) (p : ℕ → Bool) (w : ℕ) where
  pub word_low : 0 < w → w < lowest t → word_ok m t p w ≡ false
  unfolding word_ok bucket_ok
  word_low nz l = rw (low t l)
    where
      low : (t : HashTable) → w < lowest t → bucket_ok t w ≡ false
      low Without l = absurd (not-suc-le-zero l)
      low (SysV at n c) l = absurd (not-suc-le-zero l)
      low (Gnu at n symoffset b shift) l = rw (ne_eqb w 0 (λ e. omega arith), lt-leb symoffset w l)

  pub word_failed : every p (walk m t (fuel m t) w) ≡ false → word_ok m t p w ≡ false
  unfolding word_ok
  word_failed e =
      let k = length_ok t (length (walk m t (fuel m t) w)) in
      both_false (bucket_ok t w) (both k (every p (walk m t (fuel m t) w))) (both_false k (every p (walk m t (fuel m t) w)) e)

  pub word_cut : 0 < w → lowest t ≤ w → every p (walk m t (fuel m t) w) ≡ true → length (walk m t (fuel m t) w) ≡ fuel m t
      → word_ok m t p w ≡ length_ok t (fuel m t)
  unfolding word_ok
  word_cut nz l e k = rw (fits t w nz l, e, k) (both_right (length_ok t (fuel m t)))

pub word_ended : (is_t : ℕ → Bool) (m : List ℕ) (symbols strings : ℕ) (t : HashTable) (w : ℕ) → 0 < w → lowest t ≤ w
    → Passes m t (step_ok is_t m symbols strings t) w → word_ok m t (step_ok is_t m symbols strings t) w ≡ true
unfolding word_ok
word_ended is_t m symbols strings t w nz l h =
    rw (fits t w nz l, length_fits is_t m symbols strings t w h) (h.1 (fuel m t)).1
