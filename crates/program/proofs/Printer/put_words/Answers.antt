use Rattle.program.proofs.PrintLaws.{print_join, print_none, place_fits}
use Rattle.program.specs.Printing.{printed}
use Rattle.program.specs.Program.{hex_line, hex_lines, Written, print}
use Rattle.words.proofs.NameLaws.{name_more, name_stop, name_none}
use Rattle.words.specs.Names.{name_at}
use lib.ListN.{get_or}
use native.Mathlib.Omega.{arith}
use mathlib.Core.Path.{sym, ap, ◌∙◌}
use Prim.Native.Nat.{◌+◌}
use Rattle.program.proofs.Printer.put_words.Goals as goal

pub returns-then-w-eq0 : goal.returns-then-w-eq0
unfolding hex_lines
returns-then-w-eq0 c =
    let l = c.loop-w in
    (l.invariant.0, sym (print_none l.self.out.now l.self.at l.invariant.1) ∙ rw (name_stop c.args.report.now l.w-index c.loop-w-test.true c.if-w-eq0.true) at l.invariant.2)

pub loop-w-preserved : goal.loop-w-preserved
unfolding hex_lines
loop-w-preserved c =
    let l = c.loop-w in
    let p = c.put_word in
    let w = get_or c.args.report.now l.w-index 0 in
    let rest = hex_lines (name_at c.args.report.now (l.w-index + 1)) in (
      p.ensures.0 ∙ l.invariant.0,
      place_fits l.self.out.now l.self.at (hex_line w) p.ensures.1,
      ap (λ (s : Written). print s rest) p.ensures.1 ∙ print_join (printed l.self) (hex_line w) rest
          ∙ rw (name_more c.args.report.now l.w-index c.loop-w-test.true (λ e. omega (arith, e))) at l.invariant.2,
    )

pub returns : goal.returns
unfolding hex_lines
returns c =
    let l = c.loop-w in
    (l.invariant.0, sym (print_none l.self.out.now l.self.at l.invariant.1) ∙ rw (name_none c.args.report.now l.w-index (omega arith)) at l.invariant.2)
