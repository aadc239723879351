-- `sheet::sheet::Set::duplicate` meets its contract. The invariant: the search from object `k` on gives what the whole one gives. Assumes nothing.
use Rattle.std.proofs.Common.{◌≡◌, ◌≤◌, length, ◌-◌, map}
use Rattle.sheet.specs.Sheet.{duplicate_from, duplicate_of}
use Rattle.sheet.specs.Steps.Objects.{input_of}
use Rattle.sheet.proofs.sheet.Set.duplicate.Given as goal

abbrev pub invariant-loop-k : goal.invariant-loop-k
invariant-loop-k l =
    (2 ≤ l.k) × (duplicate_from (map input_of l.objects) (length l.objects - l.k) l.k ≡ duplicate_of (map input_of l.objects))
