use Rattle.std.proofs.Common.{true, false, sym, ap, ◌∙◌, arith}
use Rattle.words.specs.Names.{same_bytes}
use Rattle.binder.proofs.NeedsLaws.{number_next, number_none, number_whole}
use Rattle.binder.proofs.needs.library_named.Goals as goal

pub returns-then-same-clause-is : goal.returns-then-same-clause-is
returns-then-same-clause-is c =
    let a = c.args in
    let is = ap (same_bytes a.name.now) (sym c.name.ensures) ∙ (sym c.same.ensures ∙ c.if-same.true) in
    sym (number_next a.name.now a.set.now c.loop-j.j true (omega (arith, c.len-j-end.ensures.is, c.loop-j-test.true)) is)
    ∙ (c.loop-j.invariant.1 ∙ number_whole a.name.now a.set.now)

pub loop-j-preserved : goal.loop-j-preserved
loop-j-preserved c =
    let a = c.args in
    let is = ap (same_bytes a.name.now) (sym c.name.ensures) ∙ (sym c.same.ensures ∙ c.if-same.false) in (
      omega (arith, c.loop-j.invariant.0),
      sym (number_next a.name.now a.set.now c.loop-j.j false (omega (arith, c.len-j-end.ensures.is, c.loop-j-test.true)) is)
          ∙ c.loop-j.invariant.1,
    )

pub returns-clause-is : goal.returns-clause-is
returns-clause-is c =
    let a = c.args in
    sym (number_none a.name.now a.set.now c.loop-j.j (omega (arith, c.len-j-end.ensures.is, c.loop-j-test.false)))
    ∙ (c.loop-j.invariant.1 ∙ number_whole a.name.now a.set.now)
