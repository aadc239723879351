-- The turns of a lookup, for any table. No contract cites this file. Assumes nothing.
use Rattle.std.specs.Prelude.{Some, None}
use mathlib.Core.Path.{◌≡◌, refl, sym}
use mathlib.Core.Bool.{Bool, true, false, not, true≢false}
use mathlib.Core.List.{List}
use Prim.Native.Nat.{ℕ, zero, suc, ◌/◌, ◌^◌, ◌≤◌, ◌<◌}
use native.Mathlib.Nat.{not-suc-le-zero, pow-le-pow_right, div-eq_of_lt}
use native.Mathlib.Omega.{arith}
use borrow.Author.Tests.{ne_eqb, eqb-false, not-true}
use lib.Dec.{eqb, lit<}
use Rattle.words.specs.Memory.{mem}
use Rattle.words.specs.Choice.{both}
use Rattle.words.specs.Words.{le_at}
use Rattle.words.proofs.Choice.{both_true}
use Rattle.object.specs.declared.hash_tables.HashTable.{HashTable}
use Rattle.object.specs.declared.hash_tables.HashTable.TheVariants.{Without, SysV, Gnu}
use Rattle.object.specs.HashTable.{bucket_count, bucket_at, chain_at, is_last, next_symbol, fuel, walk, walk_from, bloom_at, has_bits, may_hold, bucket_of, is_exported_hit, first_in, find_by}

-- a shift by 32 or more leaves nothing of a 32-bit number
pub shifted_out : (h k : ℕ) → h < 2 ^ 32 → 32 ≤ k → h / 2 ^ k ≡ 0
shifted_out h k l le =
    let p : 2 ^ 32 ≤ 2 ^ k = pow-le-pow_right (lit< tt) le in
    let q : h < 2 ^ k = omega arith in
    div-eq_of_lt q

some : (n : ℕ) → not (eqb n 0) ≡ true → 0 < n
some n h = let z = eqb-false n 0 (not-true _ h) in omega arith

module _ (m : List ℕ) (t : HashTable) (p : ℕ → Bool) (s : ℕ) where
  pub find_here : (n : ℕ) → 0 < n → p s ≡ true → first_in p (walk m t n s) ≡ Some s
  unfolding walk first_in
  find_here zero l e = absurd (not-suc-le-zero l)
  find_here (suc n) l e = rw e

  pub find_last : (n w : ℕ) → 0 < n → w ≡ le_at 4 (mem m) (chain_at t s) → p s ≡ false → is_last t w ≡ true
      → first_in p (walk m t n s) ≡ None
  unfolding walk first_in
  find_last zero w l we e la = absurd (not-suc-le-zero l)
  find_last (suc n) w l we e la = rw (e, ← we, la)

  pub find_on : (n w k : ℕ) → n ≡ suc k → w ≡ le_at 4 (mem m) (chain_at t s) → p s ≡ false → is_last t w ≡ false
      → first_in p (walk m t n s) ≡ first_in p (walk m t k (next_symbol t s w))
  unfolding walk first_in
  find_on n w k q we e la = rw (q, e, ← we, la)

  pub find_out : (n : ℕ) → n ≤ 0 → first_in p (walk m t n s) ≡ None
  unfolding walk first_in
  find_out zero l = refl
  find_out (suc n) l = absurd (not-suc-le-zero l)

-- a table that may hold a name has buckets
pub held_buckets : (m : List ℕ) (t : HashTable) (g : ℕ) → may_hold m t g ≡ true → 0 < bucket_count t
unfolding may_hold
held_buckets m Without g h = absurd (true≢false (sym h))
held_buckets m (SysV at n c) g h = some n h
held_buckets m (Gnu at n symoffset b shift) g h =
    some n (both_true (not (eqb n 0)) (both (not (eqb b 0)) (has_bits (le_at 8 (mem m) (bloom_at at b g)) shift g)) h).0

module _ (m : List ℕ) (symbols strings : ℕ) (t : HashTable) (name : List ℕ) (g e : ℕ) where
  -- the filter says no
  pub find_not : may_hold m t g ≡ false → find_by m symbols strings t name g e ≡ None
  unfolding find_by
  find_not h = rw h

  -- the bucket is empty
  pub find_empty : may_hold m t g ≡ true → le_at 4 (mem m) (bucket_at t (bucket_of t g e)) ≡ 0 → find_by m symbols strings t name g e ≡ None
  unfolding find_by walk_from first_in
  find_empty h z = rw (h, z)

  -- the walk begins
  pub find_start : (b f : ℕ) → f ≡ fuel m t → may_hold m t g ≡ true → b ≡ le_at 4 (mem m) (bucket_at t (bucket_of t g e)) → (b ≡ 0 → ⊥)
      → find_by m symbols strings t name g e ≡ first_in (is_exported_hit m symbols strings t name g) (walk m t f b)
  unfolding find_by walk_from
  find_start b f q h z nz = rw (q, h, ← z, ne_eqb b 0 nz)
