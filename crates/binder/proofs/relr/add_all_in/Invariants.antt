-- `binder::relr::add_all_in` meets its contract. Assumes nothing.
use Rattle.std.proofs.Common.{◌≡◌, ◌+◌, ◌-◌, ◌*◌, ◌^◌, ◌≤◌, List, length}
use Rattle.object.specs.Steps.WritableRange.{WritableRange}
use Rattle.object.specs.declared.program_header.Segment.{Segment}
use Rattle.binder.specs.Steps.Relocating.{add_bits}
use Rattle.binder.proofs.relr.add_all_in.Given as goal

abbrev pub invariant-loop : goal.invariant-loop
invariant-loop l =
    (length l.part ≡ length l.initial.part) × (l.counter ≤ 63) × (l.p + 8 * (63 - l.counter) ≡ l.location + 504) × (l.location + 504 ≤ length l.initial.part)
    × ((ss : List Segment) → WritableRange ss l.location (l.location + 504) → add_bits l.base ss (63 - l.counter) l.p (2 ^ (63 - l.counter) - 1) l.part ≡ add_bits l.base ss 63 l.location (2 ^ 63 - 1) l.initial.part)
