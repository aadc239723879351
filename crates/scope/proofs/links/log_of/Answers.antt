-- `scope::links::log_of` meets its contract. Assumes nothing.
use Rattle.std.proofs.Common.{◌∙◌, sym}
use Rattle.scope.proofs.LinkLaws.{bit, log_is, log_none, log_zero}
use Rattle.scope.proofs.links.log_of.Goals as goal

pub returns-then-n-eq0 : goal.returns-then-n-eq0
returns-then-n-eq0 c = rw c.if-n-eq0.true log_zero

pub returns-then-n-k : goal.returns-then-n-k
returns-then-n-k c =
    let b = c.ilog2-k.ensures.bound in
    log_is c.ilog2-k.result c.args.n b (c.if-n-k.true ∙ bit c.ilog2-k.result 32 b)

pub returns-else-n-k : goal.returns-else-n-k
returns-else-n-k c =
    let f = c.ilog2-k.ensures in
    log_none c.ilog2-k.result c.args.n f.power_le f.next_power_gt (λ is. c.if-n-k.false (is ∙ sym (bit c.ilog2-k.result 32 f.bound)))
