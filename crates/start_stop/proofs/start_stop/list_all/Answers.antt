use Rattle.start_stop.proofs.ListedIs.{few_words, few_preinits, made_refused, start_short, stop_short, made_listed}
use Rattle.start_stop.specs.Steps.Bound.{calls_by}
use native.Mathlib.Omega.{arith}
use mathlib.Core.Path.{sym, ◌∙◌}
use Rattle.std.proofs.lemmas.Result.{err_from_is_err_and}
use Rattle.start_stop.proofs.start_stop.list_all.Goals.{then-start-counts-via-then-start-counts, then-start-counts-via-else-start-counts+then-stop-counts}
use Rattle.start_stop.proofs.start_stop.list_all.Goals as goal

pub returns-in_err-check_arrays : goal.returns-in_err-check_arrays
returns-in_err-check_arrays c =
    let a = c.args in
    let p = err_from_is_err_and c.from_residual.result c.from_residual.ensures.1 in
    rw (p.1, p.2)
    (made_refused (calls_by a.set.now) a.set.now.order.now a.set.now.arena.now a.start.now a.stop.now _ _ (sym c.check_arrays.ensures ∙ c.in_err-check_arrays.was))

pub put_start-requires : goal.put_start-requires
put_start-requires c =
    let s = c.args.set.now in
    let e = sym c.check_arrays.ensures ∙ c.in_ok-check_arrays.was in
    (few_preinits s.arena.now s.links.now s.rows.now c.args.set.now.order.now c.requires.0 e, few_words s.arena.now s.links.now s.rows.now c.args.set.now.order.now c.requires.0 e)

pub put_stop-requires : goal.put_stop-requires
put_stop-requires c =
    let s = c.args.set.now in
    let e = sym c.check_arrays.ensures ∙ c.in_ok-check_arrays.was in
    few_words s.arena.now s.links.now s.rows.now c.args.set.now.order.now c.requires.0 e

pub returns-then-start-counts : goal.returns-then-start-counts
returns-then-start-counts c =
    let a = c.args in
    let e = sym c.check_arrays.ensures ∙ c.in_ok-check_arrays.was in
    let s = start_short (calls_by a.set.now) a.set.now.order.now a.set.now.arena.now c.put_start.new.list c.put_stop.new.list e in
    let t = stop_short (calls_by a.set.now) a.set.now.order.now a.set.now.arena.now c.put_start.new.list c.put_stop.new.list e in
    rw c.new.ensures (elim c.then-start-counts.branch [
      | then-start-counts-via-then-start-counts w ↦ s (omega (arith, w.if-start-counts.true, c.put_start.ensures.next))
      | then-start-counts-via-else-start-counts+then-stop-counts w ↦ t (omega (arith, w.if-start-counts.false, c.put_start.ensures.next)) (omega (arith, w.if-stop-counts.true, c.put_stop.ensures.next))
    ])

pub returns : goal.returns
returns c =
    let a = c.args in
    let e = sym c.check_arrays.ensures ∙ c.in_ok-check_arrays.was in
    made_listed (calls_by a.set.now) a.set.now.order.now a.set.now.arena.now c.put_start.new.list c.put_stop.new.list e a.start.now a.stop.now c.put_start.result c.put_stop.result c.put_start.ensures c.put_stop.ensures c.requires.1 c.requires.2 c.put_start.auto.list c.put_stop.auto.list (omega (arith, c.if-start-counts.false)) (omega (arith, c.if-stop-counts.false))
