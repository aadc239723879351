-- `object::symbol::symbol_off` meets its contract. Assumes nothing.
use Rattle.std.proofs.Common.{◌+◌, ap, ◌∙◌, arith}
use Rattle.words.specs.Memory.{mem, from}
use Rattle.words.proofs.Memory.{write_in}
use Rattle.words.proofs.Slices.{mem_patch_at}
use Rattle.object.proofs.SymbolLaws.{symbol_end_at, symbol_copied}
use Rattle.object.proofs.symbol.symbol_off.Goals as goal

pub returns-then-n-p-lt24 : goal.returns-then-n-p-lt24
returns-then-n-p-lt24 c =
    let a = c.args in
    c.symbol_in.ensures
    ∙ (symbol_copied c.copy.new.dst a.image.now c.place-p.result
    (λ i l. rw c.copy.ensures (mem_patch_at _ 0 24 (from c.place-p.result (mem a.image.now)) i (omega arith) ∙ (write_in _ 0 24 (from c.place-p.result (mem a.image.now)) i (omega arith, omega arith) ∙ ap (mem a.image.now) (omega arith))))
    ∙ symbol_end_at a.image.now (a.at + a.k) c.place-p.result c.place-p.ensures)
