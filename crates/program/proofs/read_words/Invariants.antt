-- `program::read_words` meets its contract. Assumes nothing.
use Rattle.program.specs.Program.{word_in}
use Rattle.words.specs.Memory.{patch}
use lib.ListN.{length}
use mathlib.Core.Path.{◌≡◌}
use Rattle.program.proofs.read_words.Given as goal

abbrev pub invariant-loop-i : goal.invariant-loop-i
invariant-loop-i l =
    (length l.sheet ≡ length l.initial.sheet) × (l.sheet ≡ patch l.initial.sheet 0 l.i (word_in l.input))
