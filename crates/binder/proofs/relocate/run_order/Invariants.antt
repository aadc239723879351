-- `binder::relocate::run_order` meets its contract. The invariant: what is left of the order comes to what the whole does. Assumes nothing.
use Rattle.std.proofs.Common.{◌≡◌, length}
use Rattle.binder.specs.Steps.Relocating.{run_order}
use Rattle.binder.proofs.RunLaws.{objects_left}
use Rattle.binder.proofs.relocate.run_order.Given as goal

abbrev pub invariant-loop-k : goal.invariant-loop-k
invariant-loop-k l =
    (length l.arena ≡ length l.initial.arena) × (length l.report ≡ length l.initial.report) × (objects_left l.links l.set l.order l.k-index l.p l.arena l.report ≡ run_order l.links l.set l.order l.initial.p l.initial.arena l.initial.report)
