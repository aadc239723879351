use Rattle.std.proofs.Common.{arith}
use Rattle.binder.proofs.VisitSteps.{nothing_left, no_object, marked_already, first_turn, next_turn, finish, place, read, room_mark}
use Rattle.binder.proofs.order.+visit.Goals as goal

-- the three ways out
pub returns-then-depth-eq0 : goal.returns-then-depth-eq0
returns-then-depth-eq0 t c = nothing_left c.if-depth-eq0.true c.requires

pub returns-then-k-ge64 : goal.returns-then-k-ge64
returns-then-k-ge64 t c = no_object c.if-k-ge64.true c.requires

pub returns-then-seen-k : goal.returns-then-seen-k
returns-then-seen-k t c = marked_already (read c.args.seen.now c.args.k (omega (arith, c.requires.marks)) c.if-seen-k.true) c.requires

-- k is marked, and the loop begins
pub loop-i-init : goal.loop-i-init
loop-i-init t c = first_turn (room_mark c.args.k (read c.args.seen.now c.args.k (omega (arith, c.requires.marks)) c.if-seen-k.false) c.requires)

-- a turn
pub loop-i-preserved : goal.loop-i-preserved
loop-i-preserved t c = next_turn c.loop-i-test.true c.need_at.ensures c.loop-i.invariant c.visit.ensures

-- k is put at the end
pub push-requires : goal.push-requires
push-requires t c = (omega arith, place (read c.args.seen.now c.args.k (omega (arith, c.requires.marks)) c.if-seen-k.false) c.requires c.loop-i.invariant)

pub returns : goal.returns
returns t c = rw c.push.ensures.items (finish c.if-depth-eq0.false c.if-k-ge64.false (read c.args.seen.now c.args.k (omega (arith, c.requires.marks)) c.if-seen-k.false) c.requires c.loop-i-test.false c.loop-i.invariant)
