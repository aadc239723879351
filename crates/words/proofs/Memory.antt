-- A write, byte by byte: inside its range, outside it, two writes side by side, two that do not meet. Assumes nothing.
use Rattle.std.proofs.Common.{◌≡◌, ℕ, ◌+◌, ◌-◌, ◌<◌, ◌≤◌, Bool, true, false, ltb, leb, ◌⊎◌, sym, refl, ap, ◌∙◌, inl, inr, ⊎_elim, arith, le-ltb, lt-ltb, le-leb}
use mathlib.Core.Path.{fun_ext}
use native.Mathlib.Decide.{dec_le, dec_lt}
use borrow.Author.Tests.{lt-leb}
use Rattle.words.specs.Choice.{pick, both}
use Rattle.words.specs.Memory.{Mem, In, write, from}

abbrev pub Out : ℕ → ℕ → ℕ → Type 0
Out at n i = (i < at) ⊎ (at + n ≤ i)

pub in_or_out : (at n i : ℕ) → In at n i ⊎ Out at n i
in_or_out at n i = go (dec_le at i) (dec_lt i (at + n))
  where
    go : Dec (at ≤ i) → Dec (i < at + n) → In at n i ⊎ Out at n i
    go (yes a) (yes b) = inl (a, b)
    go (yes a) (no b) = inr (inr (omega arith))
    go (no a) b = inr (inl (omega arith))

-- outside a range, outside each part of it
pub out_part : (at n p k : ℕ) → p + k ≤ n → (i : ℕ) → Out at n i → Out (at + p) k i
out_part at n p k l i (inl h) = inl (omega arith)
out_part at n p k l i (inr h) = inr (omega arith)

-- every offset is outside an empty range
pub out_empty : (at n i : ℕ) → ¬ (0 < n) → Out at n i
out_empty at n i z = ⊎_elim (λ w. inl (absurd (omega arith))) (λ w. w) (in_or_out at n i)

module _ (m : Mem) (at n : ℕ) (f : ℕ → ℕ) (i : ℕ) where
  pub write_in : In at n i → write m at n f i ≡ f (i - at)
  unfolding write
  write_in h = rw (le-leb at i h.0, lt-ltb i (at + n) h.1)

  pub write_out : Out at n i → write m at n f i ≡ m i
  unfolding write
  write_out (inl h) = rw (lt-leb at i h)
  write_out (inr h) = go (leb at i)
    where
      go : (b : Bool) → pick (both b (ltb i (at + n))) (f (i - at)) (m i) ≡ m i
      go true = rw (le-ltb i (at + n) h)
      go false = refl

-- two writes to one range, where E is a reason for the bytes to differ
pub write_both :
    {E : Type 0} (m m' : Mem) (at n : ℕ) (f f' : ℕ → ℕ) (i : ℕ)
    → (In at n i → E ⊎ (f (i - at) ≡ f' (i - at)))
    → E ⊎ (m i ≡ m' i)
    → E ⊎ (write m at n f i ≡ write m' at n f' i)
write_both {E} m m' at n f f' i h old = go (in_or_out at n i)
  where
    go : In at n i ⊎ Out at n i → E ⊎ (write m at n f i ≡ write m' at n f' i)
    go (inl w) = ⊎_elim inl (λ e. inr (write_in m at n f i w ∙ (e ∙ sym (write_in m' at n f' i w)))) (h w)
    go (inr w) = ⊎_elim inl (λ e. inr (write_out m at n f i w ∙ (e ∙ sym (write_out m' at n f' i w)))) old

-- two writes to any ranges, where every byte of either has such a reason
pub write_off :
    {E : Type 0} (m m' : Mem) (at n : ℕ) (f : ℕ → ℕ) (at' n' : ℕ) (f' : ℕ → ℕ) (i : ℕ)
    → (In at n i → E)
    → (In at' n' i → E)
    → E ⊎ (m i ≡ m' i)
    → E ⊎ (write m at n f i ≡ write m' at' n' f' i)
write_off {E} m m' at n f at' n' f' i h h' old = go (in_or_out at n i) (in_or_out at' n' i)
  where
    go : In at n i ⊎ Out at n i → In at' n' i ⊎ Out at' n' i → E ⊎ (write m at n f i ≡ write m' at' n' f' i)
    go (inl w) v = inl (h w)
    go (inr w) (inl v) = inl (h' v)
    go (inr w) (inr v) = ⊎_elim inl (λ e. inr (write_out m at n f i w ∙ (e ∙ sym (write_out m' at' n' f' i v)))) old

-- two bytes of two writes are equal where the bytes written and the bytes before are
pub write_cong :
    (m m' : Mem) (at n : ℕ) (f f' : ℕ → ℕ) → ((k : ℕ) → k < n → f k ≡ f' k) → m ≡ m' → write m at n f ≡ write m' at n f'
write_cong m m' at n f f' same e = fun_ext (λ i. go i (in_or_out at n i))
  where
    go : (i : ℕ) → In at n i ⊎ Out at n i → write m at n f i ≡ write m' at n f' i
    go i (inl w) = write_in m at n f i w ∙ (same (i - at) (omega arith) ∙ sym (write_in m' at n f' i w))
    go i (inr w) = write_out m at n f i w ∙ (ap (λ (h : Mem). h i) e ∙ sym (write_out m' at n f' i w))

-- a write of no byte
pub write_none : (m : Mem) (at : ℕ) (f : ℕ → ℕ) → write m at 0 f ≡ m
write_none m at f = fun_ext (λ i. write_out m at 0 f i (out_empty at 0 i (λ h. omega arith)))

-- writes to ranges that do not meet, in either order
pub write_comm :
    (m : Mem) (at n : ℕ) (f : ℕ → ℕ) (at' n' : ℕ) (f' : ℕ → ℕ) → (at + n ≤ at') ⊎ (at' + n' ≤ at)
    → write (write m at n f) at' n' f' ≡ write (write m at' n' f') at n f
write_comm m at n f at' n' f' apart = fun_ext (λ i. go i (in_or_out at n i) (in_or_out at' n' i))
  where
    meet : (i : ℕ) → In at n i → In at' n' i → (at + n ≤ at') ⊎ (at' + n' ≤ at) → ⊥
    meet i w v (inl h) = omega arith
    meet i w v (inr h) = omega arith

    go :
        (i : ℕ) → In at n i ⊎ Out at n i → In at' n' i ⊎ Out at' n' i
        → write (write m at n f) at' n' f' i ≡ write (write m at' n' f') at n f i
    go i (inl w) (inl v) = absurd (meet i w v apart)
    go i (inl w) (inr v) =
        write_out (write m at n f) at' n' f' i v ∙ (write_in m at n f i w ∙ sym (write_in (write m at' n' f') at n f i w))
    go i (inr w) (inl v) =
        write_in (write m at n f) at' n' f' i v ∙ (sym (write_in m at' n' f' i v) ∙ sym (write_out (write m at' n' f') at n f i w))
    go i (inr w) (inr v) =
        write_out (write m at n f) at' n' f' i v
        ∙ (write_out m at n f i w ∙ (sym (write_out m at' n' f' i v) ∙ sym (write_out (write m at' n' f') at n f i w)))

-- a write that goes on where another ended is one write
pub write_join :
    (m : Mem) (at a b : ℕ) (f g h : ℕ → ℕ) → ((k : ℕ) → k < a → f k ≡ h k) → ((k : ℕ) → k < b → g k ≡ h (a + k))
    → write (write m at a f) (at + a) b g ≡ write m at (a + b) h
write_join m at a b f g h ef eg = fun_ext (λ i. go i (in_or_out at a i) (in_or_out (at + a) b i))
  where
    go :
        (i : ℕ) → In at a i ⊎ Out at a i → In (at + a) b i ⊎ Out (at + a) b i
        → write (write m at a f) (at + a) b g i ≡ write m at (a + b) h i
    go i w (inl v) =
        let k : i - (at + a) < b = omega arith in
        let e : a + (i - (at + a)) ≡ i - at = omega arith in
        write_in (write m at a f) (at + a) b g i v
        ∙ (eg (i - (at + a)) k ∙ (ap h e ∙ sym (write_in m at (a + b) h i (omega arith))))
    go i (inl w) (inr v) =
        write_out (write m at a f) (at + a) b g i v
        ∙ (write_in m at a f i w ∙ (ef (i - at) (omega arith) ∙ sym (write_in m at (a + b) h i (omega arith))))
    go i (inr (inl w)) (inr v) =
        write_out (write m at a f) (at + a) b g i v
        ∙ (write_out m at a f i (inl w) ∙ sym (write_out m at (a + b) h i (inl w)))
    go i (inr (inr w)) (inr (inl v)) = absurd (omega arith)
    go i (inr (inr w)) (inr (inr v)) =
        write_out (write m at a f) (at + a) b g i (inr v)
        ∙ (write_out m at a f i (inr w) ∙ sym (write_out m at (a + b) h i (inr (omega arith))))

-- a write, seen from an offset on
pub write_from :
    (m : Mem) (off at n : ℕ) (f : ℕ → ℕ) → from off (write m (off + at) n f) ≡ write (from off m) at n f
write_from m off at n f = fun_ext (λ i. go i (in_or_out at n i))
  where
    go : (i : ℕ) → In at n i ⊎ Out at n i → write m (off + at) n f (off + i) ≡ write (from off m) at n f i
    go i (inl w) =
        write_in m (off + at) n f (off + i) (omega arith) ∙ (ap f (omega arith) ∙ sym (write_in (from off m) at n f i w))
    go i (inr (inl w)) = write_out m (off + at) n f (off + i) (inl (omega arith)) ∙ sym (write_out (from off m) at n f i (inl w))
    go i (inr (inr w)) = write_out m (off + at) n f (off + i) (inr (omega arith)) ∙ sym (write_out (from off m) at n f i (inr w))
