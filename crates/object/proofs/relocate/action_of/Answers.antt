-- `object::relocate::action_of` meets its contract. Assumes nothing.
use native.Mathlib.Omega.{arith}
use borrow.Author.Tests.{eq-eqb, ne_eqb, lt-ltb, le-ltb}
use Rattle.object.specs.RelocationTypes.{row_under}
use Rattle.object.proofs.relocate.action_of.Goals as goal

pub returns-then-rtype-gt63 : goal.returns-then-rtype-gt63
unfolding row_under
returns-then-rtype-gt63 c = rw (le-ltb c.args.rtype 64 (omega (arith, c.if-rtype-gt63.true)))

pub returns-then-word-rtype : goal.returns-then-word-rtype
unfolding row_under
returns-then-word-rtype c =
    rw (lt-ltb c.args.rtype 64 (omega (arith, c.if-rtype-gt63.false)), eq-eqb _ _ c.if-word-rtype.true)
    c.applied_of.ensures

pub returns-then-word-rtype-2 : goal.returns-then-word-rtype-2
unfolding row_under
returns-then-word-rtype-2 c =
    rw (
      lt-ltb c.args.rtype 64 (omega (arith, c.if-rtype-gt63.false)),
      ne_eqb _ _ c.if-word-rtype.false,
      eq-eqb _ _ c.if-word-rtype-2.true,
    )
    c.passed_of.ensures

pub returns : goal.returns
unfolding row_under
returns c =
    rw (
      lt-ltb c.args.rtype 64 (omega (arith, c.if-rtype-gt63.false)),
      ne_eqb _ _ c.if-word-rtype.false,
      ne_eqb _ _ c.if-word-rtype-2.false,
    )
    c.refused_of.ensures
