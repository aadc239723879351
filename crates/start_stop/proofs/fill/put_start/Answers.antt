use Rattle.start_stop.proofs.LoopLaws.{start_first, start_next, start_end}
use Rattle.start_stop.specs.Steps.Bound.{calls_by}
use Rattle.std.proofs.Common.{rules, arith, refl, ◌∙◌}
use Rattle.start_stop.proofs.fill.put_start.Goals as goal

pub loop-k-init : goal.loop-k-init
loop-k-init c =
    record {
      same = refl;
      few = omega (arith, c.push_array.ensures.few);
      left = start_first c.args.set.now.order.now (calls_by c.args.set.now) (rw (c.bytes.ensures, c.row.ensures) at c.push_array.ensures.pushed);
    }

pub loop-k-preserved : goal.loop-k-preserved
loop-k-preserved c =
    let l = c.loop-k in
    record {
      same = c.push_starts.ensures.same_reference ∙ l.invariant.same;
      few = omega (arith, l.invariant.few, c.push_starts.ensures.few);
      left = start_next c.args.set.now.order.now (calls_by c.args.set.now) l.k-index c.loop-k-test.true l.invariant.left c.push_starts.ensures.pushed;
    }

pub returns : goal.returns
returns c =
    let p = start_end c.args.set.now.order.now (calls_by c.args.set.now) c.loop-k.k-index c.loop-k-test.false c.loop-k.invariant.left in
    let s = c.loop-k.invariant.same ∙ c.push_array.ensures.same_reference in
    search (rules, p, s)
