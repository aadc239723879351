-- `binder::needs::fill_needs` meets its contract. The invariant: the rows of the libraries before object `k` are filled. Assumes nothing.
use Rattle.std.proofs.Common.{◌≡◌, length, replicate}
use Rattle.binder.specs.Steps.Needed.{needs_at, FewNeeds}
use Rattle.binder.proofs.NeedsLaws.{FilledTo}
use Rattle.binder.proofs.needs.fill_needs.Given as goal

abbrev pub invariant-loop-k : goal.invariant-loop-k
invariant-loop-k l =
    (length l.needs ≡ 4096)
    × (FewNeeds l.set l.arena l.table → l.initial.needs ≡ replicate 4096 0 → FilledTo (needs_at l.set l.arena l.table) l.k l.needs)
