-- When the input is refused before it is bound, and when it is bound. Assumes nothing.
use mathlib.Core.Path.{◌≡◌, ◌∙◌, ap}
use mathlib.Core.List.{List}
use Prim.Native.Nat.{ℕ, ◌≤◌, ◌<◌}
use borrow.Author.Tests.{le-leb, lt-leb}
use native.Mathlib.Omega.{arith}
use lib.Dec.{leb}
use lib.ListN.{length, take, drop, replicate}
use Rattle.words.specs.Memory.{Mem, tab, patch}
use Rattle.words.proofs.Choice.{both_false}
use Rattle.words.proofs.Slices.{length_patch, take_patch}
use Rattle.binder.specs.declared.Policy.TheVariants.{Lenient}
use Rattle.binder.specs.Setting.{supplied_at}
use Rattle.binder.specs.Bind.{outcome, bind_of}
use Rattle.program.specs.Program.{arena_address, input_limit, count_in, word_in, start_in, answer_to}
use Rattle.binder.specs.Verdict.{refused}

module _ (input : List ℕ) (size words : ℕ) where
  pub short_refused : length input < start_in input → answer_to input size words ≡ outcome (refused 1 0) (replicate size 0) (replicate words 0)
  unfolding answer_to
  short_refused h = rw (lt-leb (start_in input) (length input) h)

  pub long_refused : input_limit < length input → answer_to input size words ≡ outcome (refused 1 0) (replicate size 0) (replicate words 0)
  unfolding answer_to
  long_refused h = rw (both_false (leb (start_in input) (length input)) (leb (length input) input_limit) (lt-leb (length input) input_limit h))

  pub whole_bound :
      start_in input ≤ length input → length input ≤ input_limit
      → answer_to input size words ≡ bind_of (supplied_at arena_address) (tab (count_in input) (word_in input)) (drop (start_in input) input) size Lenient words
  unfolding answer_to
  whole_bound h g = rw (le-leb (start_in input) (length input) h, le-leb (length input) input_limit g)

-- words that are written from the start, as a list
pub written_part : (xs : List ℕ) {ys : List ℕ} (n : ℕ) (f : Mem) → ys ≡ patch xs 0 n f → n ≤ length ys → take n ys ≡ tab n f
written_part xs {ys} n f e fits = ap (take n) e ∙ take_patch xs n f (omega (arith, ap length e, length_patch xs 0 n f))
