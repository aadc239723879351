-- Alignments: the powers of two up to 2^21 are the divisors of 2^21; the largest alignment. Assumes nothing.
use mathlib.Core.Path.{◌≡◌, refl, sym, ap, ◌∙◌}
use mathlib.Core.Bool.{Bool, true, false}
use mathlib.Core.Logic.{◌⊎◌, inl, inr, ⊎_elim}
use mathlib.Core.List.{List, [], ◌∷◌}
use Prim.Native.Nat.{ℕ, zero, suc, ◌+◌, ◌*◌, ◌/◌, ◌%◌, ◌^◌, ◌≤◌, ◌<◌, max}
use native.Mathlib.Omega.{arith}
use native.Mathlib.Decide.{dec_le}
use native.Mathlib.Nat.{two-pow-succ, mul-add, add-mul, mul-one, div-add-mod, mod-eq_of_lt, mul-mod_right}
use borrow.Author.Tests.{eq-eqb, ne_eqb, eqb-true, le-leb, leb-true}
use lib.Dec.{eqb, leb}
use Rattle.std.specs.Prelude.{fold}
use lib.Pow.{pow-lt}
use Rattle.words.specs.Choice.{both, either, every}
use Rattle.words.proofs.Choice.{both_true, either_true}
use Rattle.object.specs.Alignment.{power_up_to, power_of_two, align_ok, align_of}
use Rattle.object.specs.declared.program_header.Segment.{Segment}

-- ---- powers of two

either_right : (s t : Bool) → t ≡ true → either s t ≡ true
either_right true t e = refl
either_right false t e = e

twice_power : (k b : ℕ) → power_up_to k b ≡ true → power_up_to (suc k) (b + b) ≡ true
unfolding power_up_to
twice_power zero b e =
    let o : b ≡ 1 = eqb-true b 1 e in
    let t : b + b ≡ 2 ^ 1 = omega arith in
    rw (eq-eqb (b + b) (2 ^ 1) t)
twice_power (suc k) b e =
    ⊎_elim
    (λ (t : eqb b (2 ^ suc k) ≡ true).
    let o : b ≡ 2 ^ suc k = eqb-true b (2 ^ suc k) t in
    let d : b + b ≡ 2 ^ suc (suc k) = omega (arith, o, two-pow-succ (suc k)) in
    rw (eq-eqb (b + b) (2 ^ suc (suc k)) d))
    (λ (t : power_up_to k b ≡ true).
    either_right (eqb (b + b) (2 ^ suc (suc k))) (power_up_to (suc k) (b + b)) (twice_power k b t))
    (either_true (eqb b (2 ^ suc k)) (power_up_to k b) e)

one_factor : (n q : ℕ) → n * q ≡ 1 → n ≡ 1
one_factor zero q e = absurd (omega arith)
one_factor (suc zero) q e = refl
one_factor (suc (suc n)) zero e = absurd (omega (arith, e))
one_factor (suc (suc n)) (suc q) e = absurd (omega (arith, e))

-- the half of an even number, and of an odd one
halves : (n : ℕ) → (n ≡ n / 2 + n / 2) ⊎ (n ≡ n / 2 + n / 2 + 1)
halves n = go (dec_le 1 (n % 2))
  where
    go : Dec (1 ≤ n % 2) → (n ≡ n / 2 + n / 2) ⊎ (n ≡ n / 2 + n / 2 + 1)
    go (yes h) = inr (omega arith)
    go (no h) = inl (omega arith)

-- a divisor of 2 ^ k is a power of two
divisor_power : (k n q : ℕ) → n * q ≡ 2 ^ k → power_up_to k n ≡ true
unfolding power_up_to
divisor_power zero n q e = eq-eqb n 1 (one_factor n q e)
divisor_power (suc k) n q e =
    ⊎_elim
    (λ (h : q ≡ q / 2 + q / 2).
    let d : n * q ≡ n * (q / 2) + n * (q / 2) = ap (λ (x : ℕ). n * x) h ∙ mul-add n (q / 2) (q / 2) in
    let p : n * (q / 2) ≡ 2 ^ k = omega (arith, d, e, two-pow-succ k) in
    either_right (eqb n (2 ^ suc k)) (power_up_to k n) (divisor_power k n (q / 2) p))
    (λ (h : q ≡ q / 2 + q / 2 + 1).
    let d : n * q ≡ n * (q / 2) + n * (q / 2) + n =
    ap (λ (x : ℕ). n * x) h
    ∙ (mul-add n (q / 2 + q / 2) 1 ∙ rw (mul-add n (q / 2) (q / 2), mul-one n)) in
    let b : n ≡ n / 2 + n / 2 = omega (arith, d, e, two-pow-succ k) in
    let f : n * q ≡ n / 2 * q + n / 2 * q = ap (λ (x : ℕ). x * q) b ∙ add-mul (n / 2) (n / 2) q in
    let p : n / 2 * q ≡ 2 ^ k = omega (arith, f, e, two-pow-succ k) in
    ap (power_up_to (suc k)) b ∙ twice_power k (n / 2) (divisor_power k (n / 2) q p))
    (halves q)

-- a power of two up to 2 ^ k divides it
power_divides : (k n : ℕ) → power_up_to k n ≡ true → (q : ℕ) × (n * q ≡ 2 ^ k)
unfolding power_up_to
power_divides zero n e = (1, mul-one n ∙ eqb-true n 1 e)
power_divides (suc k) n e =
    ⊎_elim
    (λ (t : eqb n (2 ^ suc k) ≡ true). (1, mul-one n ∙ eqb-true n (2 ^ suc k) t))
    (λ (t : power_up_to k n ≡ true).
    let r = power_divides k n t in
    let d : n * (r.0 + r.0) ≡ 2 ^ suc k = omega (arith, mul-add n r.0 r.0, r.1, two-pow-succ k) in
    (r.0 + r.0, d))
    (either_true (eqb n (2 ^ suc k)) (power_up_to k n) e)

-- 21 and as many more
abbrev above : ℕ → ℕ
above zero = 21
above (suc d) = suc (above d)

above_low : (d : ℕ) → 21 ≤ above d
above_low zero = omega arith
above_low (suc d) = omega (arith, above_low d)

-- a larger bound adds larger powers only
raise : (d n : ℕ) → power_up_to 21 n ≡ true → power_up_to (above d) n ≡ true
unfolding power_up_to
raise zero n e = e
raise (suc d) n e = either_right (eqb n (2 ^ suc (above d))) (power_up_to (above d) n) (raise d n e)

lower : (d n : ℕ) → power_up_to (above d) n ≡ true → n ≤ 2097152 → power_up_to 21 n ≡ true
unfolding power_up_to
lower zero n e h = e
lower (suc d) n e h =
    ⊎_elim
    (λ (t : eqb n (2 ^ suc (above d)) ≡ true).
    let more : 21 < suc (above d) = omega (arith, above_low d) in
    let big : 2 ^ 21 < 2 ^ suc (above d) = pow-lt more in
    absurd (omega (arith, big, h, eqb-true n (2 ^ suc (above d)) t)))
    (λ (t : power_up_to (above d) n ≡ true). lower d n t h)
    (either_true (eqb n (2 ^ suc (above d))) (power_up_to (above d) n) e)

-- ---- refusal 21 of a segment

module _ (s : Segment) where
  pub align_none : s.align ≡ 0 → align_ok s ≡ true
  unfolding align_ok
  align_none e = rw (eq-eqb s.align 0 e)

  module _ (ne : s.align ≡ 0 → ⊥) where
    pub align_divides : 2097152 % s.align ≡ 0 → align_ok s ≡ true
    unfolding align_ok
    align_divides e =
        let d : s.align * (2097152 / s.align) ≡ 2 ^ 21 = omega (arith, div-add-mod 2097152 s.align, e) in
        let p : power_of_two s.align ≡ true = raise 42 s.align (divisor_power 21 s.align (2097152 / s.align) d) in
        rw (ne_eqb s.align 0 ne, p) (le-leb s.align 2097152 (fits (dec_le s.align 2097152)))
      where
        fits : Dec (s.align ≤ 2097152) → s.align ≤ 2097152
        fits (yes h) = h
        fits (no h) =
            let z : 2097152 % s.align ≡ 2097152 = mod-eq_of_lt (omega arith) in
            absurd (omega (arith, z, e))

    pub align_other : (2097152 % s.align ≡ 0 → ⊥) → align_ok s ≡ false
    unfolding align_ok
    align_other no-mod = rw (ne_eqb s.align 0 ne) (go (both (power_of_two s.align) (leb s.align 2097152)) refl)
      where
        go : (b : Bool) → both (power_of_two s.align) (leb s.align 2097152) ≡ b → b ≡ false
        go true e =
            let t = both_true (power_of_two s.align) (leb s.align 2097152) e in
            let q = power_divides 21 s.align (lower 42 s.align t.0 (leb-true s.align 2097152 t.1)) in
            let z : 2097152 % s.align ≡ 0 = ap (λ (x : ℕ). x % s.align) (sym q.1) ∙ mul-mod_right s.align q.0 in
            absurd (no-mod z)
        go false e = refl

    align_most : align_ok s ≡ true → s.align ≤ 2097152
    unfolding align_ok
    align_most e =
        let t : both (power_of_two s.align) (leb s.align 2097152) ≡ true = rw (ne_eqb s.align 0 ne) at e in
        leb-true s.align 2097152 (both_true (power_of_two s.align) (leb s.align 2097152) t).1

  align_small : align_ok s ≡ true → s.align ≤ 2097152
  align_small e = go (dec_le 1 s.align)
    where
      go : Dec (1 ≤ s.align) → s.align ≤ 2097152
      go (yes h) = align_most (λ z. absurd (omega arith)) e
      go (no h) = omega arith

-- ---- the alignment of a list of segments

pub align_least : (ss : List Segment) → 4096 ≤ align_of ss
unfolding align_of
align_least [] = omega arith
align_least (s ∷ ss) = omega (arith, align_least ss)

pub align_largest : (ss : List Segment) → every align_ok ss ≡ true → align_of ss ≤ 2097152
unfolding align_of every
align_largest [] e = omega arith
align_largest (s ∷ ss) e =
    let t = both_true (align_ok s) (every align_ok ss) e in
    omega (arith, align_small s t.0, align_largest ss t.1)

-- the same as the fold of the code
fold_from : (ss : List Segment) (a : ℕ) → 4096 ≤ a → fold (λ (a : ℕ) (s : Segment). max s.align a) a ss ≡ max a (align_of ss)
unfolding align_of
fold_from [] a h = omega arith
fold_from (s ∷ ss) a h = omega (arith, fold_from ss (max s.align a) (omega arith))

pub align_fold : (ss : List Segment) → fold (λ (a : ℕ) (s : Segment). max s.align a) 4096 ss ≡ align_of ss
align_fold ss = fold_from ss 4096 (omega arith) ∙ omega (arith, align_least ss)
