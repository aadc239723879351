use Rattle.start_stop.proofs.RowLaws.{same_row}
use Rattle.start_stop.specs.Steps.Rows.{row_of}
use Rattle.start_stop.proofs.rows.read_row.Goals as goal

pub returns : goal.returns
unfolding row_of
returns c =
    rw (c.value_of.ensures, c.value_of-2.ensures, c.array_of.ensures, c.array_of-2.ensures, c.array_of-3.ensures) (same_row _ _ c.slots_of-slots.ensures)
