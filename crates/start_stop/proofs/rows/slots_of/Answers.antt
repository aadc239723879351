use Rattle.start_stop.proofs.RowLaws.{no_slots}
use Rattle.start_stop.proofs.rows.slots_of.Goals as goal

pub returns-in-None : goal.returns-in-None
returns-in-None c = rw (← c.dynamic_at.ensures, c.in-None.is) (no_slots c.args.image.now)
