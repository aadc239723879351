-- `program::width` meets its contract. Assumes nothing.
use Rattle.program.proofs.PrintLaws.{width_is}
use Rattle.program.proofs.width.Goals as goal

pub returns : goal.returns
returns c =
    width_is c.ilog10.result c.args.v c.ilog10.ensures.bound (rw c.max.ensures at c.ilog10.ensures.power_le) (rw c.max.ensures at c.ilog10.ensures.next_power_gt)
