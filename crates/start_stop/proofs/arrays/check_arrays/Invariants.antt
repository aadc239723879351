use Rattle.start_stop.specs.Steps.Bound.{calls_by}
use Rattle.start_stop.specs.StartStop.{arrays_verdict}
use lib.ListN.{drop}
use mathlib.Core.Path.{◌≡◌}
use Rattle.start_stop.proofs.arrays.check_arrays.Given as goal

abbrev pub invariant-loop-k : goal.invariant-loop-k
invariant-loop-k l =
    arrays_verdict (calls_by l.set) (drop l.k-index l.set.order.now) ≡ arrays_verdict (calls_by l.set) l.set.order.now
