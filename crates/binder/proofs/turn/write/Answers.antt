-- `binder::turn::write` meets its contract. Assumes nothing.
use Rattle.std.proofs.Common.{sym, arith}
use Rattle.words.specs.Words.{byte_of}
use Rattle.words.proofs.Slices.{patch_past, put_tail}
use Rattle.binder.proofs.turn.write.Goals as goal

pub returns-then-arena-off : goal.returns-then-arena-off
returns-then-arena-off g c = sym (patch_past _ _ _ _ (omega arith))

pub returns : goal.returns
returns g c =
    let a = c.args in
    put_tail a.arena.now a.off a.place g.T.Word.WIDTH (byte_of a.v) (omega arith) c.store.ensures
