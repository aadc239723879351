-- `binder::crossing::claims_in` meets its contract. Assumes nothing.
use Rattle.binder.proofs.ClaimLaws.{ClaimsWalked}
use Rattle.binder.proofs.crossing.claims_in.Given as goal

abbrev pub invariant-loop-i : goal.invariant-loop-i
invariant-loop-i l =
    ClaimsWalked l.image l.r l.w l.i l.marks l.next
