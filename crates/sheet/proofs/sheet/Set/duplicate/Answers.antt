use Rattle.std.proofs.Common.{length, sym, ap, ◌∙◌, arith, map, true, false}
use Rattle.sheet.specs.Steps.Objects.{input_of, duplicate_in}
use Rattle.sheet.proofs.ObjectLaws.{duplicate_step, duplicate_end, found, none_found}
use Rattle.sheet.proofs.sheet.Set.duplicate.Goals as goal

pub returns-then-has_name-clause-is : goal.returns-then-has_name-clause-is
returns-then-has_name-clause-is c =
    let kept = c.as_slice-objects.result.now in
    let next = duplicate_step kept c.loop-k.k _ true c.loop-k.invariant.0 c.loop-k-test.true (sym c.if-has_name.true ∙ c.has_name.ensures) in
    found _ _ c.loop-k.invariant.0 (sym c.loop-k.invariant.1 ∙ next) ∙ ap duplicate_in (rw c.as_slice-objects.ensures.value c.self.view_is)

pub loop-k-preserved : goal.loop-k-preserved
loop-k-preserved c =
    let kept = c.as_slice-objects.result.now in
    let next = duplicate_step kept c.loop-k.k _ false c.loop-k.invariant.0 c.loop-k-test.true (sym c.if-has_name.false ∙ c.has_name.ensures) in
    (omega (arith, c.loop-k.invariant.0), sym next ∙ c.loop-k.invariant.1)

pub returns-clause-is : goal.returns-clause-is
returns-clause-is c =
    let kept = c.as_slice-objects.result.now in
    none_found _ (sym c.loop-k.invariant.1 ∙ duplicate_end (map input_of kept) (length kept) c.loop-k.k c.loop-k-test.false)
    ∙ ap duplicate_in (rw c.as_slice-objects.ensures.value c.self.view_is)
