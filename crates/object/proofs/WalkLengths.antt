-- A walk that ends meets no symbol twice, so one that meets symbols below `c` only has at most `c` of them. `length_fits` is what the check
-- of a hash table uses: a System V walk that ends and passes is not too long. No contract cites this file. Assumes nothing.
use mathlib.Core.Path.{◌≡◌, refl, sym, ap, ◌∙◌}
use mathlib.Core.Bool.{Bool, true, false}
use mathlib.Core.List.{List, [], ◌∷◌}
use Prim.Native.Nat.{ℕ, zero, suc, ◌+◌, ◌≤◌, ◌<◌}
use native.Mathlib.Nat.{not-suc-le-zero}
use native.Mathlib.Omega.{arith}
use borrow.Author.Tests.{le-leb, lt-ltb, ltb-true, eqb-true, eqb-false}
use lib.Dec.{eqb, ltb}
use lib.ListN.{length}
use Rattle.words.specs.Choice.{pick, both, every}
use Rattle.words.specs.Memory.{mem}
use Rattle.words.specs.Words.{le_at}
use Rattle.words.proofs.Choice.{both_true}
use Rattle.object.specs.declared.hash_tables.HashTable.{HashTable}
use Rattle.object.specs.declared.hash_tables.HashTable.TheVariants.{Without, SysV, Gnu}
use Rattle.object.specs.HashTable.{chain_at, is_last, next_symbol, fuel, walk}
use Rattle.object.specs.HashCheck.{length_ok, chain_ok, symbol_ok, step_ok}
use Rattle.object.specs.Steps.Marks.{Passes}

-- a walk that is shorter than its fuel has ended
pub walk_ended : (m : List ℕ) (t : HashTable) (k n s : ℕ) → length (walk m t n s) < n → walk m t (n + k) s ≡ walk m t n s
unfolding walk
walk_ended m t k zero s h = absurd (not-suc-le-zero h)
walk_ended m t k (suc n) s h =
    let w = le_at 4 (mem m) (chain_at t s) in
    let q : suc n + k ≡ suc (n + k) = omega arith in
    rw q
    (ap (λ (l : List ℕ). s ∷ l) (go (is_last t w) (walk m t n (next_symbol t s w)) (walk m t (n + k) (next_symbol t s w)) h
    (λ h'. walk_ended m t k n (next_symbol t s w) h')))
  where
    go : (b : Bool) (l l' : List ℕ) → suc (length (pick b [] l)) < suc n → (length l < n → l' ≡ l) → pick b [] l' ≡ pick b [] l
    go true l l' h ih = refl
    go false l l' h ih = ih (omega arith)

-- ---- a list whose elements have falling ranks has each of them once

abbrev without : ℕ → List ℕ → List ℕ
without c [] = []
without c (x ∷ l) = pick (eqb x c) (without c l) (x ∷ without c l)

module _ (rank : ℕ → ℕ) where
  -- the ranks fall from below `b`
  abbrev Falls : ℕ → List ℕ → Type 0
  Falls b [] = Unit {0}
  Falls b (x ∷ l) = (rank x < b) × Falls (rank x) l

  falls_more : (b b' : ℕ) (l : List ℕ) → b ≤ b' → Falls b l → Falls b' l
  falls_more b b' [] h f = tt
  falls_more b b' (x ∷ l) h f = let g = f.0 in (omega arith, f.1)

  falls_without : (c b : ℕ) (l : List ℕ) → Falls b l → Falls b (without c l)
  falls_without c b [] f = tt
  falls_without c b (x ∷ l) f = go (eqb x c) (falls_without c (rank x) l f.1)
    where
      go : (z : Bool) → Falls (rank x) (without c l) → Falls b (pick z (without c l) (x ∷ without c l))
      go true g = let h = f.0 in falls_more (rank x) b (without c l) (omega arith) g
      go false g = (f.0, g)

  -- where all ranks are below that of `c`, it is not there
  keeps : (c b : ℕ) (l : List ℕ) → b ≤ rank c → Falls b l → length (without c l) ≡ length l
  keeps c b [] h f = refl
  keeps c b (x ∷ l) h f = let g = f.0 in go (eqb x c) refl (keeps c (rank x) l (omega arith) f.1)
    where
      go : (z : Bool) → eqb x c ≡ z → length (without c l) ≡ length l → length (pick z (without c l) (x ∷ without c l)) ≡ suc (length l)
      go true e k = let q : rank x ≡ rank c = ap rank (eqb-true x c e) in let g = f.0 in absurd (omega arith)
      go false e k = ap suc k

  loses_one : (c b : ℕ) (l : List ℕ) → Falls b l → length l ≤ suc (length (without c l))
  loses_one c b [] f = omega arith
  loses_one c b (x ∷ l) f = go (eqb x c) refl (loses_one c (rank x) l f.1)
    where
      go : (z : Bool) → eqb x c ≡ z → length l ≤ suc (length (without c l)) → suc (length l) ≤ suc (length (pick z (without c l) (x ∷ without c l)))
      go true e k =
          let q : rank x ≡ rank c = ap rank (eqb-true x c e) in
          let n = keeps c (rank x) l (omega arith) f.1 in
          omega arith
      go false e k = omega arith

  below_without : (c : ℕ) (l : List ℕ) → every (λ x. ltb x (suc c)) l ≡ true → every (λ x. ltb x c) (without c l) ≡ true
  unfolding every
  below_without c [] e = refl
  below_without c (x ∷ l) e =
      let h = both_true (ltb x (suc c)) (every (λ y. ltb y (suc c)) l) e in
      go (eqb x c) refl (ltb-true x (suc c) h.0) (below_without c l h.1)
    where
      go : (z : Bool) → eqb x c ≡ z → x < suc c → every (λ y. ltb y c) (without c l) ≡ true
          → every (λ y. ltb y c) (pick z (without c l) (x ∷ without c l)) ≡ true
      go true q lt g = g
      go false q lt g = let ne = eqb-false x c q in rw (lt-ltb x c (omega arith)) g

  room : (c b : ℕ) (l : List ℕ) → Falls b l → every (λ x. ltb x c) l ≡ true → length l ≤ c
  unfolding every
  room zero b [] f e = omega arith
  room zero b (x ∷ l) f e = let lt = ltb-true x 0 (both_true (ltb x 0) (every (λ y. ltb y 0) l) e).0 in absurd (omega arith)
  room (suc c) b l f e =
      let k = loses_one c b l f in
      let r = room c b (without c l) (falls_without c b l f) (below_without c l e) in
      omega arith

-- ---- a walk of at most `n` symbols, however far it is followed: how many there are from a symbol on is its rank

module _ (m : List ℕ) (t : HashTable) (n : ℕ) where
  abbrev Short : ℕ → Type 0
  Short s = (k : ℕ) → length (walk m t k s) ≤ n

  abbrev rank_of : ℕ → ℕ
  rank_of s = length (walk m t (suc n) s)

  rank_falls : (s : ℕ) → Short s → is_last t (le_at 4 (mem m) (chain_at t s)) ≡ false
      → rank_of s ≡ suc (rank_of (next_symbol t s (le_at 4 (mem m) (chain_at t s))))
  unfolding walk
  rank_falls s h la =
      let l = h (suc n) in
      let e : suc n + 1 ≡ suc (suc n) = omega arith in
      let w = walk_ended m t 1 (suc n) s (omega arith) in
      ap length (sym (rw e at w)) ∙ rw la

  short_next : (s : ℕ) → Short s → is_last t (le_at 4 (mem m) (chain_at t s)) ≡ false → Short (next_symbol t s (le_at 4 (mem m) (chain_at t s)))
  unfolding walk
  short_next s h la k = let l = rw la at (h (suc k)) in omega arith

  walk_falls : (k s b : ℕ) → Short s → rank_of s < b → Falls rank_of b (walk m t k s)
  unfolding walk
  walk_falls zero s b h l = tt
  walk_falls (suc k) s b h l =
      let w = le_at 4 (mem m) (chain_at t s) in (
        l,
        go (is_last t w) (walk m t k (next_symbol t s w)) (λ e.
            let r = rank_falls s h e in
            walk_falls k (next_symbol t s w) (rank_of s) (short_next s h e) (omega arith)),
      )
    where
      go : (z : Bool) (r : List ℕ) → (z ≡ false → Falls rank_of (rank_of s) r) → Falls rank_of (rank_of s) (pick z [] r)
      go true r f = tt
      go false r f = f refl

  short_below : (k s c : ℕ) → Short s → every (λ x. ltb x c) (walk m t k s) ≡ true → length (walk m t k s) ≤ c
  short_below k s c h e = room rank_of c (suc (rank_of s)) (walk m t k s) (walk_falls k s (suc (rank_of s)) h (omega arith)) e

every_left : (f g : ℕ → Bool) (l : List ℕ) → every (λ x. both (f x) (g x)) l ≡ true → every f l ≡ true
unfolding every
every_left f g [] e = refl
every_left f g (x ∷ l) e =
    let h = both_true (both (f x) (g x)) (every (λ y. both (f y) (g y)) l) e in
    rw (both_true (f x) (g x) h.0).0 (every_left f g l h.1)

pub length_fits : (is_t : ℕ → Bool) (m : List ℕ) (symbols strings : ℕ) (t : HashTable) (s : ℕ) → Passes m t (step_ok is_t m symbols strings t) s
    → length_ok t (length (walk m t (fuel m t) s)) ≡ true
unfolding length_ok chain_ok
length_fits is_t m symbols strings Without s (n, h) = refl
length_fits is_t m symbols strings (SysV at b c) s (n, h) =
    le-leb (length (walk m (SysV at b c) (c + 1) s)) c
    (short_below m (SysV at b c) n (c + 1) s c (λ k. (h k).0)
    (every_left (λ x. ltb x c) (symbol_ok is_t m symbols strings) (walk m (SysV at b c) (c + 1) s) (h (c + 1)).1))
length_fits is_t m symbols strings (Gnu at b symoffset bloomwords shift) s (n, h) = refl
