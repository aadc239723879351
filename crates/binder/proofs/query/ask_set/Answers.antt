-- `binder::query::ask_set` meets its contract. Assumes nothing.
use Rattle.std.proofs.Common.{refl, length, ap, ◌∙◌, arith, Option, Ok}
use Rattle.scope.specs.declared.scope.Hit.{Hit}
use Rattle.binder.specs.Steps.ScopeModel.{scoped_of}
use Rattle.binder.specs.Bind.{reply_of}
use Rattle.binder.proofs.QueryIs.{ask_refused, ask_thirteen, asked}
use Rattle.binder.specs.Setting.{setting_at}
use Rattle.binder.proofs.query.ask_set.Goals as goal
use Rattle.binder.specs.Steps.Finished.{replied_by}
use Rattle.std.proofs.lemmas.Result.{err_from_is_err_and}

pub shape_of-arena-in_err-prepare : goal.shape_of-arena-in_err-prepare
shape_of-arena-in_err-prepare c =
    c.prepare.auto.arena

pub returns-in_err-prepare : goal.returns-in_err-prepare
returns-in_err-prepare c =
    let a = c.args in
    let p = err_from_is_err_and c.from_residual.result c.from_residual.ensures.1 in
    rw (p.1, p.2)
    (ask_refused (setting_at a.address) a.set.now (length a.arena.now) a.requester a.name.now c.prepare.result c.prepare.ensures.made.met _ c.in_err-prepare.was c.prepare.new.arena c.prepare.auto.arena)

pub shape_of-arena-then-count-requester : goal.shape_of-arena-then-count-requester
shape_of-arena-then-count-requester c =
    c.prepare.auto.arena

pub returns-then-count-requester : goal.returns-then-count-requester
returns-then-count-requester c =
    let a = c.args in
    rw c.new.ensures
    (ask_thirteen (setting_at a.address) a.set.now (length a.arena.now) a.requester a.name.now c.prepare.result c.prepare.ensures.made.met c.in_ok-prepare.was (omega (arith, c.len-count.ensures.is, c.if-count-requester.true)) c.prepare.new.arena c.prepare.auto.arena)

pub of-requires : goal.of-requires
of-requires c =
    c.prepare.ensures.made.filtered c.in_ok-prepare.was

pub shape_of-arena : goal.shape_of-arena
shape_of-arena c =
    c.prepare.auto.arena

pub returns : goal.returns
unfolding replied_by
returns c =
    let a = c.args in
    asked (setting_at a.address) a.set.now (length a.set.now) a.arena.now c.prepare.new.arena c.prepare.new.table a.requester a.name.now
    c.prepare.result c.requires refl c.prepare.ensures.made c.in_ok-prepare.was (omega (arith, c.len-count.ensures.is, c.if-count-requester.false)) c.prepare.auto.arena (Ok c.found_by.result)
    (c.found_by.ensures ∙ ap (λ (s : Option Hit). reply_of (scoped_of s)) (rw (c.gnu_hash-gnu.ensures, c.of.ensures) at c.resolve-s.ensures))
