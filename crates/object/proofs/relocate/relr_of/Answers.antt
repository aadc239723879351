use Rattle.object.specs.Entries.{relr_of}
use borrow.Author.Tests.{eq-eqb, ne_eqb}
use Rattle.object.proofs.relocate.relr_of.Goals as goal

pub returns-then-entry-eq0 : goal.returns-then-entry-eq0
unfolding relr_of
returns-then-entry-eq0 c =
    rw (eq-eqb _ _ c.if-entry-eq0.true)

pub returns : goal.returns
unfolding relr_of
returns c =
    rw (ne_eqb _ _ c.if-entry-eq0.false)
