-- `binder::crossing::take_marks` meets its contract. Assumes nothing.
use Rattle.binder.proofs.ClaimLaws.{Taking}
use Rattle.binder.proofs.crossing.take_marks.Given as goal

abbrev pub invariant-loop-i : goal.invariant-loop-i
invariant-loop-i l =
    Taking l.initial.marks l.marks l.low l.high l.i
