use Rattle.std.proofs.Common.{◌∙◌}
use Rattle.words.proofs.Words.{le_at_copied, le_at_zeros}
use Rattle.words.proofs.bytes.word_past.Goals as goal
use Rattle.words.proofs.bytes.word_past.Goals.{then-at-s, else-at-s}

pub returns : goal.returns
returns g c =
    let a = c.args in
    c.load.ensures ∙ elim c.if-at-s.branch [
      | then-at-s w ↦ le_at_copied g.T.Word.WIDTH a.s.now a.at _ g.met.T.Word.small (w.bytes-is ∙ (rw w.WIDTH.ensures at w.copy.ensures))
      | else-at-s w ↦ rw w.bytes-is (le_at_zeros g.T.Word.WIDTH 8 a.s.now a.at g.met.T.Word.small w.if-at-s.false)
    ]
