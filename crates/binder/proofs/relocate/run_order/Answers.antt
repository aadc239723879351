use Rattle.std.proofs.Common.{refl, ◌∙◌}
use Rattle.std.proofs.lemmas.Result.{err_from_is_err_and}
use Rattle.binder.proofs.RunLaws.{object_stops, object_goes, objects_end}
use Rattle.binder.proofs.relocate.run_order.Goals as goal

pub returns-in_err-run_at : goal.returns-in_err-run_at
returns-in_err-run_at c =
    let a = c.args in
    let l = c.loop-k in
    let p = err_from_is_err_and c.from_residual.result c.from_residual.ensures.1 in
    rw (p.1, p.2, ← c.in_err-run_at.was)
    (object_stops a.links.now a.set.now a.order.now l.k-index l.p l.arena l.report {met = c.run_at.result} {q = c.run_at.new.p} {b = c.run_at.new.arena} {noted = c.run_at.new.report}
    c.loop-k-test.true refl c.file.ensures c.run_at.ensures l.invariant.2 c.in_err-run_at.was)

pub loop-k-preserved : goal.loop-k-preserved
loop-k-preserved c =
    let a = c.args in
    let l = c.loop-k in (
      c.run_at.auto.arena ∙ l.invariant.0,
      c.run_at.auto.report ∙ l.invariant.1,
      object_goes a.links.now a.set.now a.order.now l.k-index l.p l.arena l.report {met = c.run_at.result} {q = c.run_at.new.p} {b = c.run_at.new.arena} {noted = c.run_at.new.report}
          c.loop-k-test.true refl c.file.ensures c.run_at.ensures l.invariant.2 c.in_ok-run_at.was,
    )

pub returns : goal.returns
returns c =
    let a = c.args in
    let l = c.loop-k in
    objects_end a.links.now a.set.now a.order.now l.k-index l.p l.arena l.report c.loop-k-test.false l.invariant.2
