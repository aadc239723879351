use Rattle.std.proofs.Common.{refl, ◌∙◌, arith}
use Rattle.binder.proofs.RelativeLaws.{relative_written, relatives_none, relatives_next}
use Rattle.binder.proofs.relocate.relatives.Goals as goal

pub loop-i-init : goal.loop-i-init
loop-i-init c =
    let a = c.args in (refl, relatives_none a.base a.at a.w.low a.w.high a.start a.part.now)

pub loop-i-preserved : goal.loop-i-preserved
loop-i-preserved c =
    let a = c.args in
    let l = c.loop-i in
    let s = c.store_in in (
      s.auto.s ∙ l.invariant.0,
      relatives_next a.base a.at a.w.low a.w.high a.start l.i a.part.now l.part s.new.s (omega (arith, l.auto.i)) l.invariant.1
          (relative_written a.base a.at a.w.low a.w.high l.i l.part refl c.load.ensures c.if-load-ne8.false c.load-place.ensures (omega (arith, c.if-place-w.false)) (omega (arith, c.if-last-place.false, c.requires.2)) c.load-in-loop-i.ensures refl s.ensures),
    )
