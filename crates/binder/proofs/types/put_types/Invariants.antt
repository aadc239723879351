-- `binder::types::put_types` meets its contract. The invariant: the words before `i` are in the table. Assumes nothing.
use Rattle.std.proofs.Common.{◌≡◌, length}
use Rattle.words.specs.Memory.{mem, patch}
use Rattle.binder.proofs.types.put_types.Given as goal

abbrev pub invariant-loop-i : goal.invariant-loop-i
invariant-loop-i l =
    (length l.table ≡ length l.initial.table) × (l.table ≡ patch l.initial.table 1026 l.i (mem l.types))
