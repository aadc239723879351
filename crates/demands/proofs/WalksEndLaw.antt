-- The walks of a table that is not refused end by themselves: more fuel gives the same list. So `walk` cuts off no walk of such a table.
-- `walks_end` is the theorem. Assumes nothing.
use mathlib.Core.Path.{◌≡◌, refl}
use mathlib.Core.Bool.{Bool, true, false}
use mathlib.Core.List.{List, []}
use Prim.Native.Nat.{ℕ, zero, suc, ◌+◌, ◌-◌, ◌*◌, ◌^◌, ◌≤◌, ◌<◌}
use native.Mathlib.Nat.{not-suc-le-zero}
use native.Mathlib.Omega.{arith}
use borrow.Author.Tests.{leb-true}
use lib.Dec.{eqb, leb}
use lib.ListN.{length}
use Rattle.words.specs.Choice.{pick, every}
use Rattle.words.specs.Memory.{mem}
use Rattle.words.specs.Words.{le_at}
use Rattle.words.proofs.Choice.{both_true}
use Rattle.object.specs.declared.hash_tables.HashTable.{HashTable}
use Rattle.object.specs.declared.hash_tables.HashTable.TheVariants.{Without, SysV, Gnu}
use Rattle.object.specs.HashCheck.{bucket_ok, length_ok, chain_ok, symbol_ok, step_ok}
use Rattle.object.specs.HashTable.{bucket_at, chain_at, is_last, fuel, walk, walk_from}
use Rattle.object.specs.TableBytes.{table_bytes}
use Rattle.object.proofs.Ranges.{below_at}
use Rattle.object.proofs.CheckLaws.{clauses, walk_clauses}
use Rattle.object.proofs.WalkLengths.{walk_ended}
use Rattle.demands.specs.WalksEnd.{WalksEnd}

module _ (is_t : ℕ → Bool) (m : List ℕ) (inside : (i : ℕ) → is_t i ≡ true → i < length m) (symbols strings at n symoffset b shift : ℕ) where
  -- the chain word of a symbol that passes lies in the image
  word_in : (s : ℕ) → step_ok is_t m symbols strings (Gnu at n symoffset b shift) s ≡ true
      → at + (16 + 8 * b + 4 * n + 4 * (s - symoffset)) + 4 ≤ length m
  unfolding chain_ok table_bytes
  word_in s ok =
      let h = both_true (chain_ok is_t (Gnu at n symoffset b shift) s) (symbol_ok is_t m symbols strings s) ok in
      let p = at + (16 + 8 * b + 4 * n + 4 * (s - symoffset)) in
      let l : p + 3 < length m = inside (p + 3) (below_at (λ k. is_t (p + k)) 4 3 h.0 (omega arith)) in
      omega arith

  room : (k s : ℕ) → symoffset ≤ s → at + (16 + 8 * b + 4 * n + 4 * (s - symoffset)) ≤ length m
      → every (step_ok is_t m symbols strings (Gnu at n symoffset b shift)) (walk m (Gnu at n symoffset b shift) k s) ≡ true
      → at + (16 + 8 * b + 4 * n + 4 * (s - symoffset)) + 4 * length (walk m (Gnu at n symoffset b shift) k s) ≤ length m
  unfolding walk every
  room zero s f l e = omega arith
  room (suc k) s f l e =
      let w = le_at 4 (mem m) (chain_at (Gnu at n symoffset b shift) s) in
      let tail = walk m (Gnu at n symoffset b shift) k (s + 1) in
      let p = step_ok is_t m symbols strings (Gnu at n symoffset b shift) in
      let h = both_true (p s) (every p (pick (is_last (Gnu at n symoffset b shift) w) [] tail)) e in
      let i = word_in s h.0 in
      go (is_last (Gnu at n symoffset b shift) w) tail h.1 i
      (λ e'. let r = room k (s + 1) (omega arith) (omega arith) e' in omega arith)
    where
      go : (z : Bool) (l : List ℕ) → every (step_ok is_t m symbols strings (Gnu at n symoffset b shift)) (pick z [] l) ≡ true
          → at + (16 + 8 * b + 4 * n + 4 * (s - symoffset)) + 4 ≤ length m
          → (every (step_ok is_t m symbols strings (Gnu at n symoffset b shift)) l ≡ true
          → at + (16 + 8 * b + 4 * n + 4 * (s - symoffset)) + 4 + 4 * length l ≤ length m)
          → at + (16 + 8 * b + 4 * n + 4 * (s - symoffset)) + 4 * suc (length (pick z [] l)) ≤ length m
      go true l e i ih = omega arith
      go false l e i ih = let r = ih e in omega arith

  first_in : (f s : ℕ) → 0 < f → every (step_ok is_t m symbols strings (Gnu at n symoffset b shift)) (walk m (Gnu at n symoffset b shift) f s) ≡ true
      → at + (16 + 8 * b + 4 * n + 4 * (s - symoffset)) + 4 ≤ length m
  unfolding walk every
  first_in zero s l e = absurd (not-suc-le-zero l)
  first_in (suc f) s l e = word_in s (both_true _ _ e).0

  -- of an image of at most 2^28 bytes
  pub gnu_ends : length m ≤ 2 ^ 28 → (s k : ℕ) → symoffset ≤ s → 0 < length m
      → every (step_ok is_t m symbols strings (Gnu at n symoffset b shift)) (walk m (Gnu at n symoffset b shift) (fuel m (Gnu at n symoffset b shift)) s) ≡ true
      → walk m (Gnu at n symoffset b shift) (fuel m (Gnu at n symoffset b shift) + k) s ≡ walk m (Gnu at n symoffset b shift) (fuel m (Gnu at n symoffset b shift)) s
  gnu_ends small s k f pos e =
      let i = first_in (fuel m (Gnu at n symoffset b shift)) s (omega arith) e in
      let r = room (fuel m (Gnu at n symoffset b shift)) s f (omega arith) e in
      walk_ended m (Gnu at n symoffset b shift) k (fuel m (Gnu at n symoffset b shift)) s (omega arith)

pub sysv_ends : (m : List ℕ) (at n c s k : ℕ) → leb (length (walk m (SysV at n c) (c + 1) s)) c ≡ true
    → walk m (SysV at n c) (c + 1 + k) s ≡ walk m (SysV at n c) (c + 1) s
sysv_ends m at n c s k e =
    let l = leb-true (length (walk m (SysV at n c) (c + 1) s)) c e in
    walk_ended m (SysV at n c) k (c + 1) s (omega arith)

pub walks_end : WalksEnd
unfolding walk_from bucket_ok length_ok table_bytes
walks_end is_t m inside small symbols strings Without ok i l k = absurd (not-suc-le-zero l)
walks_end is_t m inside small symbols strings (SysV at n c) ok i l k = go (eqb w 0) refl
  where
    w : ℕ
    w = le_at 4 (mem m) (bucket_at (SysV at n c) i)

    go : (z : Bool) → eqb w 0 ≡ z
        → pick (eqb w 0) [] (walk m (SysV at n c) (c + 1 + k) w) ≡ pick (eqb w 0) [] (walk m (SysV at n c) (c + 1) w)
    go true e = rw e
    go false e =
        rw e (sysv_ends m at n c w k (rw e at (walk_clauses is_t m symbols strings (SysV at n c) ok i l).1))
walks_end is_t m inside small symbols strings (Gnu at n symoffset b shift) ok i l k = go (eqb w 0) refl
  where
    t : HashTable
    t = Gnu at n symoffset b shift

    w : ℕ
    w = le_at 4 (mem m) (bucket_at t i)

    start : at + 0 < length m
    start = inside (at + 0) (below_at (λ j. is_t (at + j)) (16 + 8 * b + 4 * n) 0 (clauses is_t m symbols strings t ok).1 (omega arith))

    go : (z : Bool) → eqb w 0 ≡ z → pick (eqb w 0) [] (walk m t (fuel m t + k) w) ≡ pick (eqb w 0) [] (walk m t (fuel m t) w)
    go true e = rw e
    go false e =
        let c = walk_clauses is_t m symbols strings t ok i l in
        let f : symoffset ≤ w = leb-true symoffset w (rw e at c.0) in
        rw e (gnu_ends is_t m inside symbols strings at n symoffset b shift small w k f (omega (arith, start)) (rw e at c.2))
