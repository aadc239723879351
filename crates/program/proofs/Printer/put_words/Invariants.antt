-- `program::Printer::put_words` meets its contract: what is printed and the lines that are left are the lines of all words. Assumes nothing.
use Rattle.program.specs.Program.{hex_lines, print}
use Rattle.program.specs.Printing.{printed}
use Rattle.words.specs.Names.{name_at}
use lib.ListN.{length}
use mathlib.Core.Path.{◌≡◌}
use Prim.Native.Nat.{◌≤◌}
use Rattle.program.proofs.Printer.put_words.Given as goal

abbrev pub invariant-loop-w : goal.invariant-loop-w
invariant-loop-w l =
    (l.self.out.ghost_name ≡ l.initial.self.out.ghost_name)
    × (l.self.at ≤ length l.self.out.now)
    × (print (printed l.self) (hex_lines (name_at l.report l.w-index)) ≡ print (printed l.initial.self) (hex_lines (name_at l.report 0)))
