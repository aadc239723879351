-- `words::names::name_off` meets its contract. Assumes nothing.
use Rattle.std.proofs.Common.{◌+◌, ◌∙◌}
use Rattle.words.proofs.NameLaws.{name_part, name_rest}
use Rattle.words.proofs.names.name_off.Goals as goal

pub returns : goal.returns
returns c =
    let a = c.args in
    (name_part _ (rw c.first_zero.ensures at c.unwrap_or-end.ensures)).1 ∙ name_rest a.image.now (a.at + a.k) c.place.ensures
