-- `program::Printer::put` meets its contract. Assumes nothing.
use mathlib.Core.Path.{refl}
use Rattle.program.proofs.PrintLaws.{copy_prints}
use Rattle.program.proofs.Printer.put.Goals as goal

pub returns : goal.returns
returns c =
    (refl, copy_prints c.args.self.now.out.now c.args.self.now.at c.args.text.now c.copy.new.dst c.place-self.result c.copy.ensures c.place-self.ensures)
