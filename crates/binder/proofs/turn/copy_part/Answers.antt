-- `binder::turn::copy_part` meets its contract: the bytes that are read are not among those that are written. Assumes nothing.
use Rattle.std.proofs.Common.{◌≡◌, ℕ, ◌+◌, ◌-◌, ◌≤◌, ◌⊎◌, List, length, sym, ap, ◌∙◌, inl, inr, arith}
use Rattle.std.specs.List.{CopiedTo, SameBelow, SameFrom}
use Rattle.words.specs.Memory.{In, mem, from, write, patch}
use Rattle.words.proofs.Memory.{Out, in_or_out, write_in, write_out}
use Rattle.words.proofs.Slices.{mem_ext, mem_patch, length_patch}
use Rattle.binder.proofs.turn.copy_part.Goals as goal

module _ (xs ys : List ℕ) (start to n m : ℕ) (e : m ≡ n) (copied : CopiedTo xs ys start to m) (below : SameBelow xs ys to) (behind : SameFrom xs ys (to + m)) where
  byte : (i : ℕ) → In to n i ⊎ Out to n i → mem ys i ≡ write (mem xs) to n (from start (mem xs)) i
  unfolding mem
  byte i (inl h) = copied i 0 h.0 (omega arith) ∙ sym (write_in (mem xs) to n (from start (mem xs)) i h)
  byte i (inr (inl h)) = below i 0 h ∙ sym (write_out (mem xs) to n (from start (mem xs)) i (inl h))
  byte i (inr (inr h)) = behind i 0 (omega arith) ∙ sym (write_out (mem xs) to n (from start (mem xs)) i (inr h))

  patched : length ys ≡ length xs → to + n ≤ length xs → ys ≡ patch xs to n (from start (mem xs))
  patched len room =
      mem_ext ys (patch xs to n (from start (mem xs))) (len ∙ sym (length_patch xs to n (from start (mem xs))))
      (λ i l. byte i (in_or_out to n i) ∙ sym (ap (λ (b : ℕ → ℕ). b i) (mem_patch xs to n (from start (mem xs)) room)))

pub returns : goal.returns
returns c =
    let a = c.args in
    let r = c.copy_within.ensures in
    patched a.arena.now c.copy_within.new.self a.start (a.off + a.to) a.n (a.start + a.n - a.start) (omega arith) r.by_index.0 r.by_index.1 r.by_index.2 r.len c.requires.0
