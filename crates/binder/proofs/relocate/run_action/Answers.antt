-- `binder::relocate::run_action` meets its contract. Assumes nothing.
use Rattle.std.proofs.lemmas.Result.{err_from_is_err_and}
use Rattle.binder.specs.Steps.Relocating.{run_action, write_sought}
use Rattle.binder.proofs.relocate.run_action.Goals as goal

pub returns-in_err-s-in-Symbolic : goal.returns-in_err-s-in-Symbolic
unfolding run_action write_sought
returns-in_err-s-in-Symbolic c =
    let p = err_from_is_err_and c.from_residual.result c.from_residual.ensures.1 in
    rw (p.1, p.2, ← c.action_at.ensures, c.in-Symbolic.is, ← c.seek.ensures, c.in_err-s-in-Symbolic.was)
