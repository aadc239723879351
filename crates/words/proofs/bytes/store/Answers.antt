use Rattle.std.proofs.Common.{◌∙◌}
use Rattle.words.specs.Words.{byte_of}
use Rattle.words.proofs.Slices.{patch_same}
use Rattle.words.proofs.Words.{mem_le_bytes}
use Rattle.words.proofs.bytes.store.Goals as goal

pub returns-else-WIDTH-s : goal.returns-else-WIDTH-s
returns-else-WIDTH-s g c =
    let a = c.args in
    rw c.WIDTH-else-WIDTH-s.ensures at c.copy.ensures ∙ patch_same a.s.now a.at g.T.Word.WIDTH _ (byte_of a.v) (mem_le_bytes a.v _ _ c.to_le_bytes.ensures g.met.T.Word.small)
