-- What is printed through a `Printer`. Assumes nothing.
use Rattle.std.specs.Prelude.{ℕ, List, ◌≡◌}
use Rattle.program.specs.declared.Printer.{Printer}
use Rattle.program.specs.Program.{Written, written, print}

-- its slice, and the place in it where the next byte goes
abbrev pub printed : Printer → Written
printed p = written p.out.now p.at

-- from `p` to `q` the text is printed, to the same slice
abbrev pub Prints : Printer → Printer → List ℕ → Type 0
Prints p q text = (q.out.ghost_name ≡ p.out.ghost_name) × (printed q ≡ print (printed p) text)
