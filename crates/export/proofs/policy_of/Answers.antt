-- `export::policy_of` meets its contract. Assumes nothing.
use Rattle.export.specs.Calls.{policy_of}
use borrow.Author.Tests.{eq-eqb, ne_eqb}
use Rattle.export.proofs.policy_of.Goals as goal

pub returns-then-strict-eq0 : goal.returns-then-strict-eq0
unfolding policy_of
returns-then-strict-eq0 c =
    rw (eq-eqb _ _ c.if-strict-eq0.true)

pub returns-else-strict-eq0 : goal.returns-else-strict-eq0
unfolding policy_of
returns-else-strict-eq0 c =
    rw (ne_eqb _ _ c.if-strict-eq0.false)
