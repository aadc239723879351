use Rattle.start_stop.proofs.LoopLaws.{check_bad, check_next, check_end}
use Rattle.start_stop.specs.Steps.Bound.{calls_by}
use mathlib.Core.Path.{sym, ◌∙◌}
use Rattle.start_stop.proofs.arrays.check_arrays.Goals as goal

pub returns-then-not-arrays_inside : goal.returns-then-not-arrays_inside
returns-then-not-arrays_inside c =
    let a = c.args in
    rw c.new.ensures (check_bad a.set.now.order.now (calls_by a.set.now) c.loop-k.k-index c.loop-k-test.true (sym c.arrays_inside.ensures ∙ c.if-not-arrays_inside.true) c.loop-k.invariant)

pub loop-k-preserved : goal.loop-k-preserved
loop-k-preserved c =
    let a = c.args in
    check_next a.set.now.order.now (calls_by a.set.now) c.loop-k.k-index c.loop-k-test.true (sym c.arrays_inside.ensures ∙ c.if-not-arrays_inside.false) c.loop-k.invariant

pub returns : goal.returns
returns c =
    let a = c.args in
    check_end a.set.now.order.now (calls_by a.set.now) c.loop-k.k-index c.loop-k-test.false c.loop-k.invariant
