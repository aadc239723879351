use Rattle.std.proofs.Common.{◌∙◌, arith}
use Rattle.words.proofs.Slices.{patch_no_room, patch_room, put_zeros}
use Rattle.words.proofs.bytes.zero.Goals as goal

pub returns-then-at-end : goal.returns-then-at-end
returns-then-at-end c =
    let a = c.args in
    put_zeros a.s.now a.at _ (omega arith) (c.fill.ensures.after (λ y e. e)) ∙ patch_room a.s.now a.at a.n _ (λ _. 0) (omega arith)

pub returns-else-at-end : goal.returns-else-at-end
returns-else-at-end c =
    let a = c.args in
    patch_no_room a.s.now a.at a.n _ (omega arith)
