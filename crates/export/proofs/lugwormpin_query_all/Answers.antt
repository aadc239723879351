-- `export::lugwormpin_query_all` meets its contract. Assumes nothing.
use Prim.Native.Nat.{ℕ}
use mathlib.Core.Path.{ap, ◌∙◌}
use Rattle.export.specs.Calls.{asked, asked_all_of}
use Rattle.export.proofs.lugwormpin_query_all.Goals as goal

pub returns : goal.returns
returns c =
    ap (λ (n : ℕ). asked n c.query_all-reply.new.arena c.query_all-reply.new.words) c.answer_number.ensures
    ∙ ap asked_all_of c.query_all-reply.ensures
