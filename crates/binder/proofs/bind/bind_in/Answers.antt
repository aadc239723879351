-- `binder::bind::bind_in` meets its contract. Assumes nothing.
use Rattle.std.proofs.lemmas.Result.{err_from_is_err_and}
use Rattle.binder.proofs.bind.bind_in.Goals as goal

pub returns-in_err-run_order : goal.returns-in_err-run_order
returns-in_err-run_order c =
    let p = err_from_is_err_and c.from_residual.result c.from_residual.ensures.1 in
    rw (p.1, p.2) (λ r u. (
      c.run_order.auto.arena,
      c.run_order.auto.report,
      c.crossing_in.result,
      c.crossing_in.ensures.1 r,
      rw c.in_default.is (record {
        reached = c.run_order.result;
        progress = c.run_order.new.p;
        leaves = rw c.new-p.ensures at c.run_order.ensures;
        met = rw c.in_err-run_order.was;
      }),
    ))
