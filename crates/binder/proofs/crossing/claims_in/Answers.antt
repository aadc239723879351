use Rattle.std.proofs.Common.{ℕ, ◌+◌, ◌≤◌, length, replicate, sym, ap, ◌∙◌, arith, leb-true}
use Rattle.binder.proofs.ClaimLaws.{walk_begins, walk_passes, walk_goes, walk_ends}
use Rattle.binder.proofs.crossing.claims_in.Goals as goal
use Rattle.binder.proofs.crossing.claims_in.Goals.{in-Some+else-not-claim_fits+else-not-take_marks, in_default}

pub loop-i-init : goal.loop-i-init
loop-i-init c =
    let a = c.args in
    let p = c.requires in
    walk_begins a.image.now a.r a.w _ (c.fill.ensures.after (λ y e. e) ∙ ap (λ (k : ℕ). replicate k 0) p.0) p.1

pub shape_of-marks-then-not-claim_fits : goal.shape_of-marks-then-not-claim_fits
shape_of-marks-then-not-claim_fits c =
    let p = c.requires in
    c.loop-i.invariant.1.long ∙ sym p.0

pub returns-then-not-claim_fits : goal.returns-then-not-claim_fits
returns-then-not-claim_fits c =
    (c.loop-i.invariant.1.long, tt)

pub overflow_add-c : goal.overflow_add-c
overflow_add-c c =
    let a = c.args in
    let f : c.in-Some.c.place + c.in-Some.c.size ≤ length a.image.now = leb-true _ _ (sym c.claim_fits.ensures ∙ c.if-not-claim_fits.false) in
    omega (arith, f)

pub take_marks-requires : goal.take_marks-requires
take_marks-requires c =
    omega (arith, c.in_window-in-Some.ensures, c.loop-i.invariant.1.long)

pub shape_of-marks-then-not-take_marks : goal.shape_of-marks-then-not-take_marks
shape_of-marks-then-not-take_marks c =
    let p = c.requires in
    c.take_marks.ensures.0 ∙ (c.loop-i.invariant.1.long ∙ sym p.0)

pub returns-then-not-take_marks : goal.returns-then-not-take_marks
returns-then-not-take_marks c =
    (c.take_marks.ensures.0 ∙ c.loop-i.invariant.1.long, tt)

pub next_after-next-requires : goal.next_after-next-requires
next_after-next-requires c =
    leb-true _ _ (sym c.claim_fits.ensures ∙ c.if-not-claim_fits.false)

pub loop-i-preserved : goal.loop-i-preserved
loop-i-preserved c =
    let a = c.args in
    let l = c.loop-i in
    elim c.match-claim_in.branch [
      | in-Some+else-not-claim_fits+else-not-take_marks w ↦
          rw (w.marks-is, w.next-is)
          (walk_goes a.image.now a.r a.w l.i l.marks l.next l.invariant (omega (arith, c.count-i-end.ensures, c.loop-i-test.true)) c.claim_in.ensures w.in-Some.is _ _
          w.in_window.ensures w.in_window-in-Some.ensures (leb-true _ _ (sym w.claim_fits.ensures ∙ w.if-not-claim_fits.false)) w.take_marks.ensures.0
          (w.take_marks.ensures.1 (w.if-not-take_marks.false)) w.next_after-next.ensures)
      | in_default w ↦
          rw (w.marks-is, w.next-is) (walk_passes a.image.now a.r a.w l.i l.marks l.next l.invariant (omega (arith, c.count-i-end.ensures, c.loop-i-test.true)) c.claim_in.ensures w.in_default.is)
    ]

pub shape_of-marks : goal.shape_of-marks
shape_of-marks c =
    let p = c.requires in
    c.loop-i.invariant.1.long ∙ sym p.0

pub returns : goal.returns
returns c =
    let a = c.args in
    let l = c.loop-i in
    (l.invariant.1.long, walk_ends a.image.now a.r a.w l.i l.marks l.next l.invariant (omega (arith, c.count-i-end.ensures, c.loop-i-test.false)))
