-- `binder::relr::add_relrs` meets its contract. Assumes nothing.
use Rattle.std.proofs.Common.{◌≡◌, ◌-◌, ◌≤◌, length}
use Rattle.object.specs.Record.{Record}
use Rattle.binder.specs.Steps.Relocating.{far, add_relrs}
use Rattle.binder.proofs.relr.add_relrs.Given as goal

abbrev pub invariant-loop-i : goal.invariant-loop-i
invariant-loop-i l =
    (length l.part ≡ length l.initial.part) × (l.location ≤ far)
    × ((r : Record) → r.segments ≡ l.b.segments.now → r.relr ≡ l.table
    → add_relrs l.t r (l.i-end - l.i) l.i l.location l.part ≡ add_relrs l.t r l.i-end 0 far l.initial.part)
