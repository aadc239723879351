use Rattle.std.proofs.Common.{arith, refl, ◌∙◌}
use Rattle.std.proofs.iter.runs.Consumers.{total_runs}
use Rattle.start_stop.specs.Steps.Listed.{Pushed}
use Rattle.start_stop.proofs.ListLaws.{put_none, put_both}
use Rattle.start_stop.proofs.fill.Addresses.extend.Goals as goal

pub loop-address-init : goal.loop-address-init
loop-address-init g c =
    record {
      same = refl;
      pushed = put_none c.args.self.now.used c.args.self.now.words.now;
      few = rw c.into_iter-address-iterator.ensures.into_iter_gives (omega (arith, c.requires.ends.1));
    }

pub loop-address-preserved : goal.loop-address-preserved
loop-address-preserved g c =
    let i = c.loop-address.invariant in
    let step = c.in-Some.ensures.goes.on c.loop-address.iterator.1 in
    record {
      same = c.push.ensures.same_reference ∙ i.same;
      pushed = put_both i.pushed c.push.ensures.pushed;
      few = omega (arith, i.few, step.2, c.push.ensures.pushed.next);
    }

pub returns-clause-pushed : goal.returns-clause-pushed
returns-clause-pushed g c =
    total_runs _ _ (Unit {0}) (λ ws. Pushed ws c.args.self.now c.loop-address.self)
    (c.loop-address.yielded, (λ _. (_, (_, rw c.into_iter-address-iterator.ensures.into_iter_gives at c.loop-address.yielded_by, c.in-None.ensures.steps))), c.loop-address.invariant.pushed)
    tt
