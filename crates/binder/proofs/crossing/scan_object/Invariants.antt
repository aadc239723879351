-- `binder::crossing::scan_object` meets its contract. Assumes nothing.
use Rattle.std.proofs.Common.{◌≡◌, ◌+◌, ◌≤◌}
use Rattle.object.specs.Record.{held_by}
use Rattle.binder.specs.Steps.Relocating.{image_in}
use Rattle.binder.specs.Steps.Crossing.{seen_of, entries_by}
use Rattle.binder.proofs.WalkLaws.{Walking}
use Rattle.binder.proofs.crossing.scan_object.Given as goal

abbrev pub invariant-loop-i : goal.invariant-loop-i
invariant-loop-i l =
    (l.walk.first ≡ l.initial.walk.first) × (l.walk.seen ≤ l.initial.walk.seen + l.i)
    × Walking l.initial.walk (seen_of l.links l.arena l.t (held_by l.o)) (entries_by (image_in l.arena l.t) l.r) l.i l.walk
