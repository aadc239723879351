use Rattle.std.proofs.Common.{◌≡◌, length}
use Rattle.start_stop.specs.Steps.Rows.{RowsRead}
use Rattle.start_stop.proofs.rows.read_rows.Given as goal

abbrev pub invariant-loop-k : goal.invariant-loop-k
invariant-loop-k l =
    (length l.rows ≡ 64) × RowsRead l.set l.k l.arena l.links l.rows
