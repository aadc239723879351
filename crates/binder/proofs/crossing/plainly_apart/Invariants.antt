-- `binder::crossing::plainly_apart` meets its contract. Assumes nothing.
use Rattle.binder.proofs.ClaimLaws.{NoneBefore}
use Rattle.binder.proofs.crossing.plainly_apart.Given as goal

abbrev pub invariant-loop-i : goal.invariant-loop-i
invariant-loop-i l =
    NoneBefore l.links l.set l.arena l.order l.i
