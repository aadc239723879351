use Rattle.std.proofs.Common.{◌+◌, ◌∙◌}
use Rattle.words.proofs.Words.{le_at_end}
use Rattle.words.proofs.bytes.word_off.Goals as goal

pub returns : goal.returns
returns g c =
    let a = c.args in
    c.word_at.ensures ∙ le_at_end g.T.Word.WIDTH a.s.now (a.at + a.k) c.place.ensures
