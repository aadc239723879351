use Rattle.start_stop.proofs.LoopLaws.{stop_first, stop_next, stop_end, few_left}
use Rattle.start_stop.specs.Steps.Bound.{calls_by}
use Rattle.std.specs.Slice.Iter.{iter_rest}
use Rattle.std.specs.Iterator.Adapters.{rev_source}
use Rattle.std.proofs.Common.{rules, arith, refl, ap, length, length-append, ◌≡◌, ◌∙◌, ◌+◌, [], ◌∷◌}
use Rattle.start_stop.proofs.fill.put_stop.Goals as goal

pub loop-k-init : goal.loop-k-init
loop-k-init c =
    let rest : iter_rest (rev_source c.into_iter-k-iterator.result) ≡ c.args.set.now.order.now = cc in
    record {
      same = refl;
      few = omega (arith, ap length rest, c.args.set.now.at_most_64);
      words = rw rest c.requires;
      left = rw rest (stop_first (calls_by c.args.set.now) c.args.set.now.order.now c.args.list.now);
    }

pub push_stops-requires : goal.push_stops-requires
push_stops-requires c =
    let i = c.loop-k.invariant in
    let few = few_left c.args.set.now.rows.now _ _ c.in-Some.k.now c.in-Some.ensures.steps i.words in
    (omega (arith, i.few), few.1)

pub loop-k-preserved : goal.loop-k-preserved
loop-k-preserved c =
    let i = c.loop-k.invariant in
    let rest = iter_rest (rev_source c.next.new.self) in
    let k = c.in-Some.k.now in
    let step = c.in-Some.ensures.steps in
    let long : length (iter_rest (rev_source c.loop-k.k-iterator)) ≡ length rest + 1 = ap length step ∙ length-append rest (k ∷ []) in
    record {
      same = c.push_stops.ensures.same_reference ∙ i.same;
      few = omega (arith, i.few, c.push_stops.ensures.few, long);
      words = (few_left c.args.set.now.rows.now _ rest k step i.words).0;
      left = stop_next (calls_by c.args.set.now) _ rest k step i.left c.push_stops.ensures.pushed;
    }

pub returns : goal.returns
returns c =
    let s = c.loop-k.invariant.same in
    let p = stop_end (calls_by c.args.set.now) _ c.in-None.ensures.steps.0 c.loop-k.invariant.left in
    search (rules, p, s)
