-- `sheet::sheet::cut` meets its contract. The invariant: the objects that are kept, then those of the words and bytes that are left, are
-- the set. Assumes nothing.
use Rattle.std.proofs.Common.{◌≡◌, ◌≤◌, length, ◌+◌, ◌*◌, ◌++◌, map}
use Rattle.sheet.specs.Sheet.{cut, libs_of, set_of, total}
use Rattle.sheet.specs.Steps.Objects.{input_of}
use Rattle.sheet.proofs.sheet.cut.Given as goal

abbrev pub invariant-loop-words : goal.invariant-loop-words
invariant-loop-words l =
    (2 ≤ length l.objects.items) × (2 * length l.objects.items + length l.words ≤ 128) × (total l.words ≡ length l.rest)
    × (map input_of l.objects.items ++ libs_of (cut l.words l.rest) ≡ set_of l.fn.sheet l.bytes)

abbrev pub decreases-loop-words : goal.decreases-loop-words
decreases-loop-words l = length l.words
