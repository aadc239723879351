use Rattle.export.specs.Calls.{called_lists_of}
use lib.ListN.{length}
use mathlib.Core.Path.{ap}
use Rattle.export.proofs.lugwormpin_start_stop.Goals as goal

pub returns : goal.returns
returns c =
    rw (c.answer_number.ensures, c.store_counts.ensures)
    (ap (called_lists_of (length c.args.counts.now)) (rw c.policy_of-policy.ensures at c.start_stop-l.ensures))
