-- `binder::query_all::ask_all_set` meets its contract. Assumes nothing.
use Rattle.std.proofs.Common.{refl, length, sym, ◌∙◌, arith}
use Rattle.binder.proofs.QueryAllIs.{all_refused, all_thirteen, all_list, asked_all}
use Rattle.binder.specs.Setting.{setting_at}
use Rattle.binder.specs.Steps.Finished.{replied_all_by}
use Rattle.std.proofs.lemmas.Result.{err_from_is_err_and}
use Rattle.binder.proofs.query_all.ask_all_set.Goals as goal

pub shape_of-arena-in_err-prepare : goal.shape_of-arena-in_err-prepare
shape_of-arena-in_err-prepare c =
    c.prepare.auto.arena

pub returns-in_err-prepare : goal.returns-in_err-prepare
returns-in_err-prepare c =
    let a = c.args in
    let p = err_from_is_err_and c.from_residual.result c.from_residual.ensures.1 in
    rw (p.1, p.2)
    (all_refused (setting_at a.address) a.set.now (length a.arena.now) a.requester a.list.now (length a.words.now) c.prepare.result c.prepare.ensures.made.met _ c.in_err-prepare.was c.prepare.new.arena a.words.now c.prepare.auto.arena refl)

pub shape_of-arena-then-count-requester : goal.shape_of-arena-then-count-requester
shape_of-arena-then-count-requester c =
    c.prepare.auto.arena

pub returns-then-count-requester : goal.returns-then-count-requester
returns-then-count-requester c =
    let a = c.args in
    rw c.new.ensures
    (all_thirteen (setting_at a.address) a.set.now (length a.arena.now) a.requester a.list.now (length a.words.now) c.prepare.result c.prepare.ensures.made.met c.in_ok-prepare.was (omega (arith, c.len-count.ensures.is, c.if-count-requester.true)) c.prepare.new.arena a.words.now c.prepare.auto.arena refl)

pub shape_of-arena-then-not-list_ok : goal.shape_of-arena-then-not-list_ok
shape_of-arena-then-not-list_ok c =
    c.prepare.auto.arena

pub returns-then-not-list_ok : goal.returns-then-not-list_ok
returns-then-not-list_ok c =
    let a = c.args in
    rw c.new-then-not-list_ok.ensures
    (all_list (setting_at a.address) a.set.now (length a.arena.now) a.requester a.list.now (length a.words.now) c.prepare.result c.prepare.ensures.made.met c.in_ok-prepare.was (omega (arith, c.len-count.ensures.is, c.if-count-requester.false)) (sym c.list_ok.ensures ∙ c.if-not-list_ok.true) c.prepare.new.arena a.words.now c.prepare.auto.arena refl)

pub of-requires : goal.of-requires
of-requires c =
    c.prepare.ensures.made.filtered c.in_ok-prepare.was

pub resolve_all-requires : goal.resolve_all-requires
resolve_all-requires c =
    sym c.list_ok.ensures ∙ c.if-not-list_ok.false

pub shape_of-arena : goal.shape_of-arena
shape_of-arena c =
    c.prepare.auto.arena

pub returns : goal.returns
unfolding replied_all_by
returns c =
    let a = c.args in
    asked_all (setting_at a.address) a.set.now (length a.set.now) a.arena.now c.prepare.new.arena c.prepare.new.table a.requester a.list.now (length a.words.now)
    c.prepare.result c.requires refl c.prepare.ensures.made c.in_ok-prepare.was (omega (arith, c.len-count.ensures.is, c.if-count-requester.false)) c.prepare.auto.arena (sym c.list_ok.ensures ∙ c.if-not-list_ok.false) _ (rw c.of.ensures at c.resolve_all.ensures)
