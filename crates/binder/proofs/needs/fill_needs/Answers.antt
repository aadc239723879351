use Rattle.std.proofs.Common.{◌∙◌, arith}
use Rattle.binder.specs.Steps.Needed.{needs_at}
use Rattle.binder.proofs.NeedsLaws.{filled_none, fill_next}
use Rattle.binder.proofs.needs.fill_needs.Goals as goal

pub loop-k-init : goal.loop-k-init
loop-k-init c =
    let a = c.args in
    (omega arith, λ few e. filled_none (needs_at a.set.now a.arena.now a.table.now) _ e)

pub loop-k-preserved : goal.loop-k-preserved
loop-k-preserved c =
    let a = c.args in (
      c.put_needs.auto.needs ∙ c.loop-k.invariant.0,
      λ few e.
          fill_next a.set.now a.arena.now a.table.now c.loop-k.k c.loop-k.needs _
          c.link_at-s.result _ _ (omega arith) (omega (arith, c.len-k-end.ensures, c.loop-k-test.true)) (omega (arith, c.len-k-end.ensures, c.loop-k-test.true)) (omega (arith, c.loop-k.invariant.0)) c.link_at-s.ensures
          c.part_of.ensures c.file.ensures c.put_needs.ensures few (c.loop-k.invariant.1 few e),
    )

pub returns : goal.returns
returns c = λ few e k a b. (c.loop-k.invariant.1 few e).0 k a (omega (arith, c.len-k-end.ensures, c.loop-k-test.false))
