-- `binder::crossing::claims_apart` meets its contract. Assumes nothing.
use Rattle.std.proofs.Common.{◌≡◌, ◌-◌, length}
use Rattle.binder.specs.Steps.Crossing.{window}
use Rattle.binder.proofs.ClaimLaws.{OnceBelow}
use Rattle.binder.proofs.crossing.claims_apart.Given as goal

abbrev pub invariant-loop-w : goal.invariant-loop-w
invariant-loop-w l =
    (length l.marks ≡ window) × OnceBelow l.image l.r l.w

abbrev pub decreases-loop-w : goal.decreases-loop-w
decreases-loop-w l =
    length l.image - l.w
