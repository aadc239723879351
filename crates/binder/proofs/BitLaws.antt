-- The words of a bitmap, one bit after the other. Assumes nothing.
use Rattle.std.proofs.Common.{◌≡◌, ℕ, zero, suc, ◌+◌, ◌-◌, ◌/◌, ◌%◌, ◌^◌, ◌<◌, ◌≤◌, true, false, List, refl, ap, ◌∙◌, arith, eq-eqb, ne_eqb}
use Rattle.object.specs.TableBytes.{in_writable}
use Rattle.object.specs.declared.program_header.Segment.{Segment}
use Rattle.binder.specs.Steps.Relocating.{summed, word_added, add_bits}

-- one turn: the bit is 0; it is 1, and its word may be written, or not
module _ (base : ℕ) (ss : List Segment) where
  pub bit_0 : (n p bits : ℕ) (a : List ℕ) → 0 < n → ¬ (bits % 2 ≡ 1) → add_bits base ss n p bits a ≡ add_bits base ss (n - 1) (p + 8) (bits / 2) a
  unfolding add_bits
  bit_0 zero p bits a h e = absurd (omega arith)
  bit_0 (suc n) p bits a h e =
      let z : suc n - 1 ≡ n = omega arith in
      rw (z, ne_eqb _ _ e) refl

  pub bit_1 :
      (n p bits : ℕ) (a : List ℕ) → 0 < n → bits % 2 ≡ 1 → in_writable ss p 8 ≡ true
      → add_bits base ss n p bits a ≡ add_bits base ss (n - 1) (p + 8) (bits / 2) (word_added base p a)
  unfolding add_bits
  bit_1 zero p bits a h e w = absurd (omega arith)
  bit_1 (suc n) p bits a h e w =
      let z : suc n - 1 ≡ n = omega arith in
      rw (z, eq-eqb _ _ e, w) refl

  pub refused : (n p bits : ℕ) (a : List ℕ) → 0 < n → bits % 2 ≡ 1 → in_writable ss p 8 ≡ false → add_bits base ss n p bits a ≡ summed 17 a
  unfolding add_bits
  refused zero p bits a h e w = absurd (omega arith)
  refused (suc n) p bits a h e w = rw (eq-eqb _ _ e, w) refl

  pub none : (n p bits : ℕ) (a : List ℕ) → n ≤ 0 → add_bits base ss n p bits a ≡ summed 0 a
  unfolding add_bits
  none zero p bits a h = refl
  none (suc n) p bits a h = absurd (omega arith)

  power_some : (n : ℕ) → 0 < 2 ^ n
  power_some zero = omega arith
  power_some (suc n) = omega (arith, power_some n)

  -- the lowest of `n` bits that are all set
  pub bit_of_all :
      (n p : ℕ) (a : List ℕ) → 0 < n → in_writable ss p 8 ≡ true
      → add_bits base ss n p (2 ^ n - 1) a ≡ add_bits base ss (n - 1) (p + 8) (2 ^ (n - 1) - 1) (word_added base p a)
  bit_of_all zero p a h w = absurd (omega arith)
  bit_of_all (suc n) p a h w =
      let z : suc n - 1 ≡ n = omega arith in
      let odd : (2 ^ suc n - 1) % 2 ≡ 1 = omega (arith, power_some n) in
      let half : (2 ^ suc n - 1) / 2 ≡ 2 ^ (suc n - 1) - 1 = rw z (omega (arith, power_some n)) in
      bit_1 (suc n) p (2 ^ suc n - 1) a h odd w ∙ ap (λ (bits : ℕ). add_bits base ss (suc n - 1) (p + 8) bits (word_added base p a)) half
