-- `binder::relocate::relatives` meets its contract. Assumes nothing.
use Rattle.std.proofs.Common.{◌≡◌, ◌-◌, length}
use Rattle.binder.specs.Steps.RunSteps.{RelativesWritten}
use Rattle.binder.proofs.relocate.relatives.Given as goal

abbrev pub invariant-loop-i : goal.invariant-loop-i
invariant-loop-i l =
    (length l.part ≡ length l.initial.part) × RelativesWritten l.base l.at l.w.low l.w.high l.start (l.i - l.start) l.initial.part l.part
