-- `binder::crossing::claim_in` meets its contract. Assumes nothing.
use Rattle.std.proofs.Common.{ap, ◌∙◌}
use Rattle.binder.specs.Steps.Crossing.{claim_of}
use Rattle.binder.proofs.crossing.claim_in.Goals as goal

pub returns : goal.returns
returns c =
    c.claim_at.ensures ∙ ap (claim_of c.args.image.now c.args.r.symbols) (c.place-at.ensures c.args.image.now)
