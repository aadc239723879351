-- Marks of symbols whose walk passes, and the turns of a walk that ends at one. No contract cites this file. Assumes nothing.
use mathlib.Core.Path.{◌≡◌, refl, sym, ap, ◌∙◌}
use mathlib.Core.Bool.{Bool, true, false}
use mathlib.Core.List.{List, [], ◌∷◌}
use mathlib.Core.Logic.{◌⊎◌, inl, inr, ⊎_elim}
use Prim.Native.Nat.{ℕ, zero, suc, ◌+◌, ◌-◌, ◌*◌, ◌/◌, ◌%◌, ◌^◌, ◌≤◌, ◌<◌, max}
use native.Mathlib.Nat.{pow-suc, pow-le-pow_right, div-eq_of_lt, mul-div-mul_right, zero-div}
use native.Mathlib.Omega.{arith}
use borrow.Author.Tests.{eqb-true, eqb-false}
use lib.Bits.{bit_or, or_shr, or_step}
use lib.Dec.{eqb, lit<}
use lib.ListN.{length, get_or, set, replicate}
use lib.Seq.{get_or-set_other}
use Rattle.words.specs.Choice.{every}
use Rattle.words.specs.Memory.{mem}
use Rattle.words.specs.Words.{le_at}
use Rattle.words.proofs.Choice.{both_true}
use Rattle.object.specs.declared.hash_tables.HashTable.{HashTable}
use Rattle.object.specs.HashTable.{chain_at, is_last, next_symbol, fuel, walk}
use Rattle.object.specs.Steps.Marks.{mark_bit, MarkAt, NewMark, Marked, Passes}
use Rattle.object.proofs.Ranges.{split}
use Rattle.object.proofs.WalkLaws.{every_no, every_on, length_on, none_left}

pub never : {A : Type 0} → false ≡ true → A
never e = let z : ◌≡◌ {A = ℕ} 0 1 = cc in absurd (omega arith)

-- ---- marks

module _ (low step : ℕ) (P : ℕ → Type 0) (s : ℕ) where
  pub marked_use : (seen : List ℕ) → Marked seen low step P → MarkAt seen low step s → P s
  marked_use seen mk (j, (g, e)) = rw e (mk j g)

  pub marked_from : (seen : List ℕ) → MarkAt seen low step s → low ≤ s
  marked_from seen (j, (g, e)) = omega arith

  pub marked_more : (old new : List ℕ) → Marked old low step P → NewMark old new low step s → P s → Marked new low step P
  marked_more old new mk nm h j g = ⊎_elim (λ (o : mark_bit old j ≡ 1). mk j o) (λ (e : s ≡ low + j * step). rw e at h) (nm j g)

pow_bit : (k i : ℕ) → 2 ^ k / 2 ^ i % 2 ≡ 1 → k ≡ i
pow_bit zero zero e = refl
pow_bit (suc k) zero e = let f : 2 ^ k * 2 / 1 % 2 ≡ 1 = rw (pow-suc 2 k) at e in absurd (omega arith)
pow_bit zero (suc i) e =
    let b : 0 ≤ i = omega arith in
    let p : 2 ^ 0 ≤ 2 ^ i = pow-le-pow_right (lit< tt) b in
    let l : 1 < 2 ^ i * 2 = omega arith in
    let z : 1 / (2 ^ i * 2) ≡ 0 = div-eq_of_lt l in
    let f : 1 / (2 ^ i * 2) % 2 ≡ 1 = rw (pow-suc 2 i) at e in
    absurd (omega arith)
pow_bit (suc k) (suc i) e =
    let f : 2 ^ k * 2 / (2 ^ i * 2) % 2 ≡ 1 = rw (pow-suc 2 k, pow-suc 2 i) at e in
    let g : 2 ^ k * 2 / (2 ^ i * 2) ≡ 2 ^ k / 2 ^ i = mul-div-mul_right (2 ^ k) (2 ^ i) (lit< tt) in
    ap suc (pow_bit k i (rw g at f))

or_bit : (x k i : ℕ) → bit_or x (2 ^ k) / 2 ^ i % 2 ≡ 1 → (x / 2 ^ i % 2 ≡ 1) ⊎ (k ≡ i)
or_bit x k i e =
    let f : bit_or (x / 2 ^ i) (2 ^ k / 2 ^ i) % 2 ≡ 1 = rw (or_shr x (2 ^ k) i) at e in
    let g : max (x / 2 ^ i % 2) (2 ^ k / 2 ^ i % 2) ≡ 1 = low_bit (x / 2 ^ i) (2 ^ k / 2 ^ i) (bit_or (x / 2 ^ i) (2 ^ k / 2 ^ i)) _ (or_step (x / 2 ^ i) (2 ^ k / 2 ^ i)) f in
    ⊎_elim (λ (l : x / 2 ^ i % 2 < 1). inr (pow_bit k i (omega arith))) (λ (l : 1 ≤ x / 2 ^ i % 2). inl (omega arith)) (split (x / 2 ^ i % 2) 1)
  where
    low_bit : (a b o h : ℕ) → o ≡ h * 2 + max (a % 2) (b % 2) → o % 2 ≡ 1 → max (a % 2) (b % 2) ≡ 1
    low_bit a b o h p q = omega arith

set_at : (l : List ℕ) (k v : ℕ) → (get_or (set l k v) k 0 ≡ v) ⊎ (get_or (set l k v) k 0 ≡ get_or l k 0)
set_at [] k v = inr refl
set_at (x ∷ l) zero v = inl refl
set_at (x ∷ l) (suc k) v = set_at l k v

pub mark_set : (old : List ℕ) (i low step s : ℕ) → s ≡ low + i * step
    → NewMark old (set old (i / 64) (bit_or (get_or old (i / 64) 0) (2 ^ (i % 64)))) low step s
mark_set old i low step s e j g = go (eqb (j / 64) (i / 64)) refl
  where
    v : ℕ
    v = bit_or (get_or old (i / 64) 0) (2 ^ (i % 64))

    kept : get_or (set old (i / 64) v) (j / 64) 0 ≡ get_or old (j / 64) 0 → (mark_bit old j ≡ 1) ⊎ (s ≡ low + j * step)
    kept q = inl (ap (λ (x : ℕ). x / 2 ^ (j % 64) % 2) (sym q) ∙ g)

    new : j / 64 ≡ i / 64 → get_or (set old (i / 64) v) (j / 64) 0 ≡ v → (mark_bit old j ≡ 1) ⊎ (s ≡ low + j * step)
    new d q =
        ⊎_elim (λ (h : get_or old (i / 64) 0 / 2 ^ (j % 64) % 2 ≡ 1). inl (rw d h))
        (λ (h : i % 64 ≡ j % 64). let f : i ≡ j = omega arith in inr (rw f at e))
        (or_bit (get_or old (i / 64) 0) (i % 64) (j % 64) (ap (λ (x : ℕ). x / 2 ^ (j % 64) % 2) (sym q) ∙ g))

    go : (b : Bool) → eqb (j / 64) (i / 64) ≡ b → (mark_bit old j ≡ 1) ⊎ (s ≡ low + j * step)
    go false q = kept (get_or-set_other old (i / 64) (j / 64) v 0 (eqb-false (j / 64) (i / 64) q))
    go true q =
        let d = eqb-true (j / 64) (i / 64) q in
        ⊎_elim (λ (h : get_or (set old (i / 64) v) (i / 64) 0 ≡ v). new d (rw d h))
        (λ (h : get_or (set old (i / 64) v) (i / 64) 0 ≡ get_or old (i / 64) 0). kept (rw d h))
        (set_at old (i / 64) v)

-- words without marks
pub unmarked : (n j : ℕ) → mark_bit (replicate n 0) j ≡ 1 → ⊥
unmarked n j e =
    let z : ◌≡◌ {A = ℕ} (get_or (replicate n 0) (j / 64) 0) 0 = zeros n (j / 64) in
    let f = rw z at e in
    let d : 0 / 2 ^ (j % 64) ≡ 0 = zero-div (2 ^ (j % 64)) in
    let h : 0 / 2 ^ (j % 64) % 2 ≡ 1 = f in
    absurd (omega arith)
  where
    zeros : (n k : ℕ) → ◌≡◌ {A = ℕ} (get_or (replicate n 0) k 0) 0
    zeros zero k = refl
    zeros (suc n) zero = refl
    zeros (suc n) (suc k) = zeros n k

-- ---- a walk that passes, from a symbol and from the next

module _ (m : List ℕ) (t : HashTable) (p : ℕ → Bool) (s w : ℕ) (we : w ≡ le_at 4 (mem m) (chain_at t s)) where
  one_symbol : p s ≡ true → is_last t w ≡ true → (k : ℕ) → (length (walk m t k s) ≤ 1) × (every p (walk m t k s) ≡ true)
  unfolding walk every
  one_symbol e la zero = (omega arith, refl)
  one_symbol e la (suc k) = rw (e, ← we, la) (omega arith, refl)

  pub passes_last : p s ≡ true → is_last t w ≡ true → Passes m t p s
  passes_last e la = (1, one_symbol e la)

  one_more : p s ≡ true → is_last t w ≡ false → (n : ℕ) → ((k : ℕ) → (length (walk m t k (next_symbol t s w)) ≤ n) × (every p (walk m t k (next_symbol t s w)) ≡ true))
      → (k : ℕ) → (length (walk m t k s) ≤ suc n) × (every p (walk m t k s) ≡ true)
  unfolding walk every
  one_more e la n h zero = (omega arith, refl)
  one_more e la n h (suc k) = let x = (h k).0 in rw (e, ← we, la) (omega arith, (h k).1)

  pub passes_on : p s ≡ true → is_last t w ≡ false → Passes m t p (next_symbol t s w) → Passes m t p s
  passes_on e la (n, h) = (suc n, one_more e la n h)

  pub passes_next : is_last t w ≡ false → Passes m t p s → Passes m t p (next_symbol t s w)
  unfolding walk every
  passes_next la (n, h) = (
    n,
    λ k.
        let x = rw (← we, la) at (h (suc k)) in
        let l = x.0 in
        (omega arith, (both_true (p s) (every p (walk m t k (next_symbol t s w))) x.1).1),
  )

-- ---- the turns of a walk from `word`, of which `left` symbols are left at `s`

pub record WalkAt (m : List ℕ) (t : HashTable) (p : ℕ → Bool) (word s left : ℕ) : Type 0 where
  pub same : every p (walk m t (fuel m t) word) ≡ every p (walk m t left s)
  pub long : length (walk m t (fuel m t) word) + left ≡ fuel m t + length (walk m t left s)
  pub on : Passes m t p s → Passes m t p word

module _ (m : List ℕ) (t : HashTable) (p : ℕ → Bool) (word : ℕ) where
  pub walk_start : (f : ℕ) → f ≡ fuel m t → WalkAt m t p word word f
  walk_start f e = rw e (record { same = refl; long = omega arith; on = λ h. h })

  module _ (s left : ℕ) (r : WalkAt m t p word s left) where
    -- the symbol does not pass
    pub walk_fails : 0 < left → p s ≡ false → every p (walk m t (fuel m t) word) ≡ false
    walk_fails l e = r.same ∙ every_no m t p s left l e

    -- no symbol is left
    pub walk_cut : left ≤ 0 → (every p (walk m t (fuel m t) word) ≡ true) × (length (walk m t (fuel m t) word) ≡ fuel m t)
    walk_cut l =
        let n = none_left m t p s left l in
        let k = n.1 in
        let g = r.long in
        (r.same ∙ n.0, omega arith)

    pub walk_turn : (w x : ℕ) → 0 < left → w ≡ le_at 4 (mem m) (chain_at t s) → p s ≡ true → is_last t w ≡ false → x ≡ next_symbol t s w
        → WalkAt m t p word x (left - 1)
    walk_turn w x more we e la xe =
        let q : left ≡ suc (left - 1) = omega arith in
        let k = length_on m t p s left w (left - 1) q we la in
        let g = r.long in
        rw xe (record {
          same = r.same ∙ every_on m t p s left w (left - 1) q we e la;
          long = omega arith;
          on = λ h. r.on (passes_on m t p s w we e la h);
        })
