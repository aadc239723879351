-- `binder::crossing::first_crossing` meets its contract. Assumes nothing.
use Rattle.std.proofs.Common.{◌-◌, ◌^◌, ◌≤◌, length, IfSome}
use Rattle.binder.specs.Steps.Crossing.{Readable, Bounded}
use Rattle.binder.proofs.WalkLaws.{Searching}
use Rattle.binder.proofs.crossing.first_crossing.Given as goal

abbrev pub invariant-loop-first : goal.invariant-loop-first
invariant-loop-first l =
    IfSome l.met (Bounded (length l.order)) × (l.many ≤ 2 ^ 62)
    × (Readable l.links l.set l.arena l.order → Searching l.links l.set l.arena l.order l.first l.many l.met)

abbrev pub decreases-loop-first : goal.decreases-loop-first
decreases-loop-first l =
    l.many - l.first
