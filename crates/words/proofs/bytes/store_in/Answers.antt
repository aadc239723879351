use Rattle.std.proofs.Common.{◌∙◌, arith}
use Rattle.words.specs.Words.{byte_of}
use Rattle.words.proofs.Slices.{put_copied, patch_same}
use Rattle.words.proofs.Words.{mem_le_bytes}
use Rattle.words.proofs.bytes.store_in.Goals as goal

pub returns : goal.returns
returns g c =
    let a = c.args in
    let small = g.met.T.Word.small in
    put_copied a.s.now _ a.at 0 g.T.Word.WIDTH (omega arith) (omega arith) (omega arith) (omega arith) c.copy_from_slice.ensures.after
    ∙ patch_same a.s.now a.at g.T.Word.WIDTH _ (byte_of a.v) (mem_le_bytes a.v _ _ c.to_le_bytes.ensures g.met.T.Word.small)
