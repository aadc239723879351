-- `sheet::sheet::Set::of` meets its contract. Assumes nothing.
use Rattle.std.proofs.Common.{length, sym, ◌∙◌}
use Rattle.sheet.proofs.SheetLaws.{told}
use Rattle.sheet.proofs.sheet.Set.of.Goals as goal

pub cut-requires : goal.cut-requires
cut-requires c =
    let a = c.args in
    let t = told a.sheet.now (length a.bytes.now) (sym c.sheet_ok.ensures ∙ c.if-not-sheet_ok.false) in
    (t.low, t.high, t.sum)
