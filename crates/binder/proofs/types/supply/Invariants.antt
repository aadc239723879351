-- `binder::types::supply` meets its contract. The invariant: the words before `i` are written. Assumes nothing.
use Rattle.std.proofs.Common.{◌≡◌, length}
use Rattle.words.specs.Memory.{mem, patch}
use Rattle.object.specs.RelocationTypes.{supplied_types}
use Rattle.binder.proofs.types.supply.Given as goal

abbrev pub invariant-loop-i : goal.invariant-loop-i
invariant-loop-i l =
    (length l.types ≡ length l.initial.types) × (l.types ≡ patch l.initial.types 0 l.i (mem supplied_types))
