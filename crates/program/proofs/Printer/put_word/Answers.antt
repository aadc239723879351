-- `program::Printer::put_word` meets its contract. Assumes nothing.
use mathlib.Core.List.{[], ◌∷◌}
use Rattle.program.specs.Program.{digits, hex_line}
use Rattle.program.proofs.PrintLaws.{prints_then}
use Rattle.program.proofs.Printer.put_word.Goals as goal

pub returns : goal.returns
unfolding hex_line
returns c =
    prints_then _ (digits 16 8 c.args.w) (10 ∷ []) (rw c.digits_of-digits.ensures at c.put.ensures) c.put-2.ensures
