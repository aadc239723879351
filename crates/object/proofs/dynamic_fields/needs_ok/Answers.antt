use Rattle.object.specs.Record.{needs_ok}
use Rattle.object.proofs.ListTests.{every_all}
use Rattle.object.proofs.dynamic_fields.needs_ok.Goals as goal

pub returns : goal.returns
unfolding needs_ok
returns c = rw (← c.requires.span, ← c.requires.segments, every_all, ← c.deref.ensures.0) c.names_ok.ensures
