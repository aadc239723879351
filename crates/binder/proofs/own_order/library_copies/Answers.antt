use Rattle.std.proofs.Common.{length, arith, true, false, sym, refl, ◌∙◌}
use Rattle.binder.proofs.OwnOrderLaws.{some_up, some_up_none}
use Rattle.binder.specs.Steps.OrderTaken.{copy_at}
use Rattle.binder.proofs.own_order.library_copies.Goals as goal

pub loop-k-init : goal.loop-k-init
loop-k-init c =
    refl

pub returns-then-has_copy : goal.returns-then-has_copy
returns-then-has_copy c =
    sym (some_up (copy_at c.args.set.now c.args.arena.now c.args.links.now) c.loop-k.k (length c.args.set.now) true (omega (arith, c.len-k-end.ensures.is, c.loop-k-test.true))
    (rw (← c.link-s.ensures, ← c.part_of.ensures, ← c.file.ensures) (sym c.has_copy.ensures ∙ c.if-has_copy.true))) ∙ c.loop-k.invariant

pub loop-k-preserved : goal.loop-k-preserved
loop-k-preserved c =
    sym (some_up (copy_at c.args.set.now c.args.arena.now c.args.links.now) c.loop-k.k (length c.args.set.now) false (omega (arith, c.len-k-end.ensures.is, c.loop-k-test.true))
    (rw (← c.link-s.ensures, ← c.part_of.ensures, ← c.file.ensures) (sym c.has_copy.ensures ∙ c.if-has_copy.false))) ∙ c.loop-k.invariant

pub returns : goal.returns
returns c =
    sym (some_up_none (copy_at c.args.set.now c.args.arena.now c.args.links.now) c.loop-k.k (length c.args.set.now) (omega (arith, c.len-k-end.ensures.is, c.loop-k-test.false))) ∙ c.loop-k.invariant
