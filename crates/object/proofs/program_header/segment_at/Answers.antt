-- `object::program_header::segment_at` meets its contract, field by field. Assumes nothing.
use Rattle.object.specs.ProgramHeader.{segment_at}
use Rattle.object.proofs.program_header.segment_at.Goals as goal

pub returns : goal.returns
unfolding segment_at
returns c =
    rw (← c.requires.0, ← c.word_off.ensures, ← c.word_off-2.ensures, ← c.word_off-3.ensures, ← c.word_off-4.ensures, ← c.word_off-5.ensures, ← c.word_off-6.ensures)
