use Rattle.binder.proofs.ClaimLaws.{windows_end}
use Rattle.binder.proofs.crossing.claims_apart.Goals as goal

pub returns : goal.returns
returns c =
    λ e. windows_end c.args.image.now c.args.r c.loop-w.w c.loop-w.invariant.1 c.loop-w-test.false
