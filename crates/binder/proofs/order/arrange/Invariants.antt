use Rattle.binder.specs.Steps.OrderState.{state_of}
use Rattle.binder.proofs.ArrangeSteps.{Visiting}
use Rattle.binder.proofs.order.arrange.Given as goal

abbrev pub invariant-loop-k : goal.invariant-loop-k
invariant-loop-k l = Visiting l.needs l.libs (state_of l.order.items l.seen) l.k
