-- `export::lugwormpin_query` meets its contract. Assumes nothing.
use mathlib.Core.Path.{ap}
use lib.ListN.{length}
use Rattle.export.specs.Calls.{asked_of}
use Rattle.export.proofs.lugwormpin_query.Goals as goal

pub returns : goal.returns
returns c =
    rw (c.answer_number.ensures, c.store_reply.ensures)
    (ap (asked_of (length c.args.answer.now)) c.query-reply.ensures)
