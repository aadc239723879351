use Rattle.std.proofs.Common.{length, ◌≡◌, ◌-◌}
use Rattle.binder.specs.Steps.OrderTaken.{copy_at}
use Rattle.model.specs.Order.{up_from}
use Rattle.words.specs.Choice.{some}
use Rattle.binder.proofs.own_order.library_copies.Given as goal

abbrev pub invariant-loop-k : goal.invariant-loop-k
invariant-loop-k l =
    some (copy_at l.set l.arena l.links) (up_from l.k ((length l.set) - l.k)) ≡ some (copy_at l.set l.arena l.links) (up_from 2 ((length l.set) - 2))
