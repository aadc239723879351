-- `program::Printer::put_refusal` meets its contract. Assumes nothing.
use Rattle.std.proofs.Common.{[], ◌∷◌, ◌++◌}
use Rattle.program.specs.Program.{decimal_of, object_text, refused_text, refusal_line}
use Rattle.program.proofs.PrintLaws.{prints_then}
use Rattle.program.proofs.Printer.put_refusal.Goals as goal

pub returns : goal.returns
unfolding refusal_line
returns c =
    let n = decimal_of c.args.r.number in
    let k = decimal_of c.args.r.object in
    prints_then _ refused_text (n ++ (object_text ++ (k ++ (10 ∷ [])))) c.put.ensures
    (prints_then _ n (object_text ++ (k ++ (10 ∷ []))) c.put_decimal.ensures
    (prints_then _ object_text (k ++ (10 ∷ [])) c.put-2.ensures
    (prints_then _ k (10 ∷ []) c.put_decimal-2.ensures c.put-3.ensures)))
