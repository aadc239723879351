-- A symbol past the image's end is all 0, wherever it stands. No contract cites this file. Assumes nothing.
use mathlib.Core.Path.{◌≡◌, sym, ap, ◌∙◌}
use mathlib.Core.List.{List}
use Prim.Native.Nat.{ℕ, ◌+◌, ◌≤◌, ◌<◌, min}
use native.Mathlib.Omega.{arith}
use native.Mathlib.Decide.{dec_lt}
use lib.ListN.{length}
use Rattle.words.proofs.Slices.{mem_past}
use Rattle.words.specs.Memory.{mem}
use Rattle.words.specs.Words.{le_at}
use Rattle.words.proofs.Words.{le_at_past, le_at_same}
use Rattle.object.specs.Symbol.{symbol_from}

past_end : (xs : List ℕ) (at : ℕ) → length xs ≤ at
    → symbol_from xs at ≡ record { name = 0; info = 0; other = 0; section = 0; value = 0; size = 0 }
unfolding symbol_from
past_end xs at l =
    rw (
      le_at_past 4 xs (at + 0) (omega arith),
      mem_past xs (at + 4) (omega arith),
      mem_past xs (at + 5) (omega arith),
      le_at_past 2 xs (at + 6) (omega arith),
      le_at_past 8 xs (at + 8) (omega arith),
      le_at_past 8 xs (at + 16) (omega arith),
    )

-- a place past the end may as well be the end
pub symbol_end_at : (xs : List ℕ) (at p : ℕ) → p ≡ min at (length xs) → symbol_from xs p ≡ symbol_from xs at
symbol_end_at xs at p e = go (dec_lt at (length xs))
  where
    go : Dec (at < length xs) → symbol_from xs p ≡ symbol_from xs at
    go (yes h) = ap (symbol_from xs) (omega arith)
    go (no h) = past_end xs p (omega arith) ∙ sym (past_end xs at (omega arith))

-- a symbol of a copy of its 24 bytes
pub symbol_copied : (xs ys : List ℕ) (p : ℕ) → ((i : ℕ) → i < 24 → mem xs i ≡ mem ys (p + i)) → symbol_from xs 0 ≡ symbol_from ys p
unfolding symbol_from
symbol_copied xs ys p same = rw (word 4 0 (omega arith), same 4 (omega arith), same 5 (omega arith), word 2 6 (omega arith), word 8 8 (omega arith), word 8 16 (omega arith))
  where
    word : (n k : ℕ) → k + n ≤ 24 → le_at n (mem xs) k ≡ le_at n (mem ys) (p + k)
    word n k fits = le_at_same n (mem xs) (mem ys) k (p + k) (λ j h. same (k + j) (omega arith) ∙ ap (mem ys) (omega arith))
