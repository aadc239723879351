-- `object::check::Walks::follow` meets its contract. The invariant: what is left of the walk decides, and if it passes the walk from `word` does. Assumes nothing.
use Prim.Native.Nat.{◌+◌, ◌-◌, ◌^◌, ◌≤◌}
use Rattle.object.proofs.MarkLaws.{WalkAt}
use Rattle.object.specs.Steps.Checked.{step_by}
use Rattle.object.proofs.walks.Walks.follow.Given as goal

abbrev pub invariant-loop : goal.invariant-loop
invariant-loop l =
    (l.end ≤ 2 ^ 32) × (l.s + (l.end - l.counter) ≤ 2 ^ 33)
    × WalkAt l.self.zeros.image.now l.self.view.table (step_by l.self) l.word l.s (l.end - l.counter)
