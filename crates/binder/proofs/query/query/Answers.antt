-- `binder::query::query` meets its contract. Assumes nothing.
use Rattle.std.proofs.Common.{length, ◌∙◌}
use Rattle.binder.specs.Setting.{setting_at}
use Rattle.binder.proofs.QueryIs.{query_refused, query_handed}
use Rattle.binder.specs.Steps.Finished.{replied_by}
use Rattle.binder.proofs.query.query.Goals as goal

pub shape_of-arena-in_default : goal.shape_of-arena-in_default
shape_of-arena-in_default c =
    c.finish.auto.arena

pub returns-in_default : goal.returns-in_default
unfolding replied_by
returns-in_default c =
    let a = c.args in
    rw c.new.ensures at c.finish.ensures
    ∙ query_refused (setting_at a.address) a.sheet.now a.bytes.now (length a.arena.now) c.of.ensures.is a.requester a.name.now c.in_default.is

pub shape_of-arena : goal.shape_of-arena
shape_of-arena c =
    c.finish-2.auto.arena ∙ c.ask_set-r.auto.arena

pub returns : goal.returns
returns c =
    let a = c.args in
    c.finish-2.ensures
    ∙ (c.ask_set-r.ensures
    ∙ query_handed (setting_at a.address) a.sheet.now a.bytes.now (length a.arena.now) c.of.ensures.is a.requester a.name.now c.in-Ok.is)
