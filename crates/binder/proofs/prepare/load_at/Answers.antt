-- `binder::prepare::load_at` meets its contract. Assumes nothing.
use Rattle.std.proofs.Common.{ap, ◌∙◌}
use Rattle.std.proofs.lemmas.Result.{err_from_is_err_and}
use Rattle.words.specs.Refusal.{refusal_number}
use Rattle.binder.proofs.PrepareLaws.{refused_at, linked_at}
use Rattle.binder.proofs.prepare.load_at.Goals as goal

pub returns-in_err-object : goal.returns-in_err-object
returns-in_err-object c =
    let a = c.args in
    let r = err_from_is_err_and c.from_residual.result c.from_residual.ensures.1 in
    rw r.1 (ap refusal_number r.2 ∙ refused_at a.host a.file.now a.off a.arena.now _ _ c.in_err-object.ensures)

pub returns : goal.returns
returns c =
    let a = c.args in
    linked_at a.host a.file.now a.off a.arena.now _ _ c.in_ok-object.ensures _ c.requires.0 c.view_of.ensures
