-- `program::Printer::put_decimal` meets its contract. Assumes nothing.
use native.Mathlib.Omega.{arith}
use Rattle.program.proofs.PrintLaws.{width_most, decimal_part}
use Rattle.program.proofs.Printer.put_decimal.Goals as goal

pub overflow_sub-width : goal.overflow_sub-width
overflow_sub-width c =
    omega (arith, c.width.ensures, width_most 9 1 c.args.v)

pub returns : goal.returns
returns c =
    rw (c.digits_of-digits.ensures, decimal_part c.args.v c.width.result c.width.ensures) at c.put.ensures
