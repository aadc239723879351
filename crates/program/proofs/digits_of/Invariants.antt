-- `program::digits_of` meets its contract: the digits from `i` on are made, and the rest of the number is what they leave. Assumes nothing.
use Rattle.program.specs.Program.{digits}
use lib.ListN.{length, drop}
use mathlib.Core.Path.{◌≡◌}
use Prim.Native.Nat.{◌-◌, ◌^◌, ◌/◌, ◌≤◌}
use Rattle.program.proofs.digits_of.Given as goal

abbrev pub invariant-loop-i : goal.invariant-loop-i
invariant-loop-i g l =
    (l.i ≤ g.row.N) × (length l.digits ≡ g.row.N) × (l.rest ≡ l.v / l.base ^ (g.row.N - l.i)) × (drop l.i l.digits ≡ digits l.base (g.row.N - l.i) l.v)
