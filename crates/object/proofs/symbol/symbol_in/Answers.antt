-- `object::symbol::symbol_in` meets its contract. Assumes nothing.
use Rattle.words.specs.Memory.{mem}
use Rattle.object.specs.Symbol.{symbol_from}
use Rattle.object.proofs.symbol.symbol_in.Goals as goal

pub returns : goal.returns
unfolding symbol_from mem
returns c =
    rw (c.load.ensures, c.load-2.ensures, c.load-3.ensures, c.load-4.ensures)
