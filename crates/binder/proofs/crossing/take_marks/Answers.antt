use Rattle.std.proofs.Common.{sym}
use Rattle.binder.proofs.ClaimLaws.{clash, taking_begins, taking_goes, taking_ends}
use Rattle.binder.proofs.crossing.take_marks.Goals as goal

pub loop-i-init : goal.loop-i-init
loop-i-init c =
    taking_begins c.args.marks.now c.args.low c.args.high

pub shape_of-marks-then-marks-i-ne0 : goal.shape_of-marks-then-marks-i-ne0
shape_of-marks-then-marks-i-ne0 c =
    c.loop-i.invariant.long

pub returns-then-marks-i-ne0 : goal.returns-then-marks-i-ne0
returns-then-marks-i-ne0 c =
    (c.loop-i.invariant.long, λ e. clash (sym e))

pub loop-i-preserved : goal.loop-i-preserved
loop-i-preserved c =
    taking_goes c.args.marks.now c.loop-i.marks c.args.low c.args.high c.loop-i.i c.loop-i.invariant c.loop-i-test.true c.requires c.if-marks-i-ne0.false

pub shape_of-marks : goal.shape_of-marks
shape_of-marks c =
    c.loop-i.invariant.long

pub returns : goal.returns
returns c =
    (c.loop-i.invariant.long, λ e. taking_ends c.args.marks.now c.loop-i.marks c.args.low c.args.high c.loop-i.i c.loop-i.invariant c.loop-i-test.false)
