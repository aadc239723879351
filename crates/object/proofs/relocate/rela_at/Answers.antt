-- `object::relocate::rela_at` meets its contract. Assumes nothing.
use Rattle.object.specs.Entries.{rela_at}
use Rattle.object.proofs.relocate.rela_at.Goals as goal

pub returns : goal.returns
unfolding rela_at
returns c =
    rw (
      c.word_off.ensures,
      c.word_off-2.ensures,
      c.word_off-3.ensures,
      c.word_off-4.ensures,
    )
