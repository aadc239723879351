-- `binder::order::visit` meets its contract: the depth falls with each call, and the invariant says what the turns of the loop have visited.
-- Assumes nothing.
use Rattle.binder.specs.Steps.OrderState.{state_of}
use Rattle.binder.proofs.VisitSteps.{Turn}
use Rattle.binder.proofs.order.+visit.Given as goal

-- what is left of the depth
abbrev pub decreases-visit : goal.decreases-visit
decreases-visit l = l.depth

abbrev pub invariant-loop-i : goal.invariant-loop-i
invariant-loop-i l = Turn l.needs l.depth l.k (state_of l.initial.order.items l.initial.seen) (state_of l.order.items l.seen) l.i
