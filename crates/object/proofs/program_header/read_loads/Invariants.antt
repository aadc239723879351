-- `object::program_header::read_loads` meets its contract. The invariant: the table holds the PT_LOAD headers among the first `i`.
-- Assumes nothing.
use mathlib.Core.Path.{◌≡◌}
use Prim.Native.Nat.{◌≤◌}
use lib.ListN.{length}
use Rattle.object.specs.ProgramHeader.{loads_in}
use Rattle.object.proofs.program_header.read_loads.Given as goal

abbrev pub invariant-loop-i : goal.invariant-loop-i
invariant-loop-i l = (length l.found.items ≤ 16) × (l.found.items ≡ loads_in l.file l.i)
