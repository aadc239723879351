-- `binder::bind::crossed` meets its contract. Assumes nothing.
use Rattle.std.proofs.Common.{refl}
use Rattle.std.proofs.lemmas.Result.{err_from_is_err_and}
use Rattle.binder.proofs.UntilLaws.{crossed_early, crossed_there, crossed_28}
use Rattle.binder.proofs.bind.crossed.Goals as goal

pub returns-in_err-run_order : goal.returns-in_err-run_order
returns-in_err-run_order c =
    let a = c.args in
    let p = err_from_is_err_and c.from_residual.result c.from_residual.ensures.1 in
    rw (p.1, p.2) (λ u. crossed_early a.set.now a.links.now a.order.now a.m.index a.m.entry a.arena.now a.report.now (rw c.new-p.ensures at c.run_order.ensures) c.in_err-run_order.was)

pub returns-in_err-run_until : goal.returns-in_err-run_until
returns-in_err-run_until c =
    let a = c.args in
    let p = err_from_is_err_and c.from_residual-in_err-run_until.result c.from_residual-in_err-run_until.ensures.1 in
    rw (p.1, p.2) (λ u. crossed_there a.set.now a.links.now a.order.now a.m.index a.m.entry a.arena.now a.report.now (rw c.new-p.ensures at c.run_order.ensures) c.in_ok-run_order.was u refl c.file-file.ensures c.run_until.ensures c.in_err-run_until.was)

pub returns : goal.returns
returns c =
    let a = c.args in
    rw c.new.ensures (λ u. crossed_28 a.set.now a.links.now a.order.now a.m.index a.m.entry a.arena.now a.report.now (rw c.new-p.ensures at c.run_order.ensures) c.in_ok-run_order.was u refl c.file-file.ensures c.run_until.ensures c.in_ok-run_until.was)
