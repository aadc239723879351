use Rattle.std.proofs.Common.{arith}
use Rattle.binder.proofs.ArrangeSteps.{unlisted_filled}
use Rattle.binder.proofs.order.unlisted.Goals as goal

pub returns : goal.returns
returns c = unlisted_filled c.args.libs _ c.requires (omega arith) (c.fill.ensures.after (λ y e. e))
