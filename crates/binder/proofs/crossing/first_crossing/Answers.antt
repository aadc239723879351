use Rattle.std.proofs.Common.{◌∙◌}
use Rattle.binder.proofs.WalkLaws.{search_begin, search_keeps, search_takes, search_ends}
use Rattle.binder.proofs.crossing.first_crossing.Goals as goal
use Rattle.binder.proofs.crossing.first_crossing.Goals.{then-walk-many, else-walk-many}

pub loop-first-init : goal.loop-first-init
loop-first-init c =
    let a = c.args in
    let s = c.scan_order-met.ensures in (
      s.0,
      s.2,
      λ r. search_begin a.links.now a.set.now a.arena.now a.order.now c.scan_order-met.new.walk c.scan_order-met.result s.1 (s.3 r),
    )

pub loop-first-preserved : goal.loop-first-preserved
loop-first-preserved c =
    let a = c.args in
    let l = c.loop-first in
    let s = c.scan_order-q.ensures in
    let here = s.1 ∙ c.begin.ensures.0 in
    elim c.if-walk-many.branch [
      | then-walk-many w ↦ (
        rw w.met-is s.0,
        rw w.many-is s.2,
        λ r.
            rw (w.met-is, w.many-is)
            (search_takes a.links.now a.set.now a.arena.now a.order.now l.first l.many l.met c.scan_order-q.result
            c.scan_order-q.new.walk (l.invariant.2 r) (s.3 r) here w.if-walk-many.true),
      )
      | else-walk-many w ↦ (
        rw w.met-is l.invariant.0,
        rw w.many-is l.invariant.1,
        λ r.
            rw (w.met-is, w.many-is)
            (search_keeps a.links.now a.set.now a.arena.now a.order.now l.first l.many l.met c.scan_order-q.result
            c.scan_order-q.new.walk (l.invariant.2 r) (s.3 r) here w.if-walk-many.false),
      )
    ]

pub returns : goal.returns
returns c =
    let a = c.args in
    let l = c.loop-first in (
      l.invariant.0,
      λ r. search_ends a.links.now a.set.now a.arena.now a.order.now l.first l.many l.met (l.invariant.2 r) c.loop-first-test.false,
    )
