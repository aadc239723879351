use Rattle.std.proofs.Common.{arith}
use Rattle.binder.proofs.ArrangeSteps.{visit_none, visit_one, visit_all}
use Rattle.binder.proofs.order.arrange.Goals as goal

pub loop-k-init : goal.loop-k-init
loop-k-init c = rw c.new-order.ensures (visit_none (omega arith) c.unlisted-seen.ensures)

pub visit-requires : goal.visit-requires
visit-requires c = c.loop-k.invariant.room

pub loop-k-preserved : goal.loop-k-preserved
loop-k-preserved c = visit_one c.loop-k-test.true c.loop-k.invariant c.visit.ensures

pub returns : goal.returns
returns c = rw c.push.ensures.items (visit_all c.min-libs.ensures c.loop-k-test.false c.loop-k.invariant)
