-- `binder::relr::add_bits` meets its contract. Assumes nothing.
use Rattle.std.proofs.Common.{◌≡◌, ◌+◌, ◌-◌, ◌*◌, ◌≤◌, length}
use Rattle.binder.specs.Steps.Relocating.{far, add_bits}
use Rattle.binder.proofs.relr.add_bits.Given as goal

abbrev pub invariant-loop : goal.invariant-loop
invariant-loop l =
    (length l.part ≡ length l.initial.part) × (l.p + 8 * (63 - l.counter) ≤ far + 504)
    × (add_bits l.base (l.b.segments.now) (63 - l.counter) l.p l.left l.part ≡ add_bits l.base (l.b.segments.now) 63 l.location l.bits l.initial.part)
