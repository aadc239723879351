use Rattle.std.proofs.Common.{arith}
use Rattle.words.proofs.Slices.{patch_no_room, copy_both, put_copied, put_zeros}
use Rattle.words.proofs.bytes.copy.Goals as goal

pub returns-then-at-end : goal.returns-then-at-end
returns-then-at-end c =
    let a = c.args in
    let put = put_copied a.dst.now a.src.now a.at c.min-start.result c.min-there.result (omega arith) (omega arith) (omega arith) (omega arith) c.copy_from_slice.ensures.after in
    copy_both a.dst.now a.src.now a.at a.start a.n c.place-end.ensures (omega arith) c.min-start.ensures (omega arith) put
    (put_zeros _ _ _ (omega arith) (c.fill.ensures.after (λ y e. e)))

pub returns-else-at-end : goal.returns-else-at-end
returns-else-at-end c =
    let a = c.args in
    patch_no_room a.dst.now a.at a.n _ (omega arith)
