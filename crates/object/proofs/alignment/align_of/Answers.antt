use mathlib.Core.Path.{◌≡◌, ◌∙◌}
use Rattle.std.proofs.Common.{rules}
use Rattle.std.specs.Prelude.{fold, max}
use Rattle.object.proofs.AlignLaws.{align_fold}
use Rattle.object.proofs.alignment.align_of.Goals as goal

pub returns : goal.returns
returns c =
    let e : c.fold.result ≡ fold (λ a s. max s.align a) 4096 c.args.segments.now = search rules in
    e ∙ align_fold c.args.segments.now
