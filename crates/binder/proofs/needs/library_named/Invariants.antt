-- `binder::needs::library_named` meets its contract. The invariant: the search from object `j` on gives what the whole one gives. Assumes nothing.
use Rattle.std.proofs.Common.{◌≡◌, ◌≤◌}
use Rattle.binder.proofs.NeedsLaws.{number_from}
use Rattle.binder.proofs.needs.library_named.Given as goal

abbrev pub invariant-loop-j : goal.invariant-loop-j
invariant-loop-j l = (2 ≤ l.j) × (number_from l.name l.set l.j ≡ number_from l.name l.set 2)
