use Rattle.std.proofs.Common.{refl, ◌∙◌, arith}
use Rattle.binder.proofs.WalkLaws.{scan_begin, scan_goes, walk_here}
use Rattle.binder.proofs.crossing.scan_order.Goals as goal

pub loop-i-init : goal.loop-i-init
loop-i-init c =
    let a = c.args in (
      refl,
      omega (arith, c.requires.1),
      λ _. scan_begin a.links.now a.set.now a.arena.now a.order.now a.walk.now c.requires.1 c.requires.2,
    )

pub loop-i-preserved : goal.loop-i-preserved
loop-i-preserved c =
    let a = c.args in
    let l = c.loop-i in (
      c.scan_at.ensures.0 ∙ l.invariant.0,
      omega (arith, c.scan_at.ensures.1, l.invariant.1),
      λ r.
          let w = walk_here a.links.now a.set.now a.arena.now a.order.now l.i c.loop-i-test.true l.walk c.scan_at.new.walk c.scan_at.result c.file-file.ensures c.scan_at.ensures.3 r in
          scan_goes a.links.now a.set.now a.arena.now a.order.now l.i l.walk c.scan_at.new.walk (l.invariant.2 r) c.loop-i-test.true
          (rw c.in_default.is at w),
    )
