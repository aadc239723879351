-- `binder::bind::bind_set` meets its contract. Assumes nothing.
use Rattle.std.proofs.Common.{length, refl, ◌∙◌}
use Rattle.std.proofs.lemmas.Result.{err_from_is_err_and}
use Rattle.binder.specs.Setting.{setting_of}
use Rattle.binder.proofs.BindIs.{prepare_refused, bind_is}
use Rattle.binder.proofs.bind.bind_set.Goals as goal

pub shape_of-arena-in_err-prepare_to_bind : goal.shape_of-arena-in_err-prepare_to_bind
shape_of-arena-in_err-prepare_to_bind c = c.prepare_to_bind.auto.arena

pub returns-in_err-prepare_to_bind : goal.returns-in_err-prepare_to_bind
returns-in_err-prepare_to_bind c =
    let a = c.args in
    let p = err_from_is_err_and c.from_residual.result c.from_residual.ensures.1 in
    rw (p.1, p.2)
    (prepare_refused (setting_of a.address a.types.now) a.set.now (length a.arena.now) a.policy (length a.report.now) _ c.prepare_to_bind.new.arena a.report.now (rw c.in_err-prepare_to_bind.was at c.prepare_to_bind.ensures.made.met) _ _ refl c.prepare_to_bind.auto.arena refl)

pub of-requires : goal.of-requires
of-requires c = c.prepare_to_bind.ensures.made.filtered c.in_ok-prepare_to_bind.was

pub shape_of-arena : goal.shape_of-arena
shape_of-arena c = c.bind_in.auto.arena ∙ c.prepare_to_bind.auto.arena

pub shape_of-report : goal.shape_of-report
shape_of-report c = c.bind_in.auto.report

pub returns : goal.returns
returns c =
    let a = c.args in
    let p = c.prepare_to_bind in
    let ok = c.in_ok-prepare_to_bind.was in
    bind_is (setting_of a.address a.types.now) a.set.now a.arena.now p.new.arena p.new.table p.result c.requires.two p.auto.arena
    p.ensures.made ok (p.ensures.typed ok) c.order_of-order.result.items c.order_of-order.ensures a.policy a.report.now c.requires.cleared _ _ _
    (rw (c.deref.ensures.0, c.of.ensures) at c.bind_in.ensures)
