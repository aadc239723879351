use Rattle.start_stop.proofs.ListLaws.{put_both}
use Rattle.start_stop.specs.StartStop.{starts_of}
use Rattle.start_stop.proofs.fill.Addresses.push_starts.Goals as goal

pub returns-clause-pushed : goal.returns-clause-pushed
unfolding starts_of
returns-clause-pushed c =
    put_both (rw (c.base.ensures, c.row-row.ensures) at c.push_function.ensures.pushed) (rw (c.bytes.ensures, c.row-row.ensures) at c.push_array.ensures.pushed)
