-- `binder::crossing::scan_order` meets its contract. Assumes nothing.
use Rattle.std.proofs.Common.{◌≡◌, ◌*◌, ◌^◌, ◌≤◌}
use Rattle.binder.specs.Steps.Crossing.{Readable}
use Rattle.binder.proofs.WalkLaws.{Scanning}
use Rattle.binder.proofs.crossing.scan_order.Given as goal

abbrev pub invariant-loop-i : goal.invariant-loop-i
invariant-loop-i l =
    (l.walk.first ≡ l.initial.walk.first) × (l.walk.seen ≤ 2 ^ 33 * l.i)
    × (Readable l.links l.set l.arena l.order → Scanning l.links l.set l.arena l.order l.i l.walk)
