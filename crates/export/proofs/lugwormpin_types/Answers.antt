-- `export::lugwormpin_types` meets its contract. Assumes nothing.
use Rattle.export.specs.Calls.{fitted}
use Rattle.export.proofs.lugwormpin_types.Goals as goal

pub returns : goal.returns
unfolding fitted
returns c =
    c.supply.ensures
