-- `object::table_bytes::run_from` meets its contract. The invariant: the segments from the one at `s-index` on decide of the bytes before the end. Assumes nothing.
use Prim.Native.Nat.{◌≤◌}
use Rattle.object.proofs.LastZeroLaws.{RestAt}
use Rattle.object.proofs.table_bytes.run_from.Given as goal

abbrev pub invariant-loop-s : goal.invariant-loop-s
invariant-loop-s l =
    (l.p ≤ l.run.end) × (l.run.end ≤ l.b.span) × RestAt l.b.span l.b.segments.now l.s-index l.p l.run.end
