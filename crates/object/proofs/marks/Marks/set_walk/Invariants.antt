-- `object::marks::Marks::set_walk` meets its contract. The invariant: the walk from `s` passes too, and the marks so far are right. Assumes nothing.
use Prim.Native.Nat.{ℕ, ◌+◌, ◌-◌, ◌^◌, ◌≤◌}
use Rattle.object.specs.Steps.Marks.{Marked, Passes}
use mathlib.Core.Bool.{Bool}
use mathlib.Core.Path.{◌≡◌}
use Rattle.object.proofs.marks.Marks.set_walk.Given as goal

abbrev pub invariant-loop : goal.invariant-loop
invariant-loop l =
    let m = l.initial.self in
    (l.end ≤ 2 ^ 32) × (l.s + (l.end - l.counter) ≤ 2 ^ 33) × (l.self.low ≡ m.low) × (l.self.step ≡ m.step)
    × ((p : ℕ → Bool) → Passes l.image l.t p l.word → Marked m.words m.low m.step (Passes l.image l.t p)
    → Passes l.image l.t p l.s × Marked l.self.words m.low m.step (Passes l.image l.t p))
