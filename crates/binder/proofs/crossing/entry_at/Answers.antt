-- `binder::crossing::entry_at` meets its contract. Assumes nothing.
use Rattle.std.proofs.Common.{◌∙◌}
use Rattle.binder.specs.Steps.Relocating.{image_in}
use Rattle.binder.proofs.crossing.entry_at.Goals as goal

pub returns : goal.returns
returns c =
    c.rela_in.ensures ∙ c.place-at.ensures (image_in c.args.arena.now c.args.t)
