use Rattle.export.specs.Calls.{called, called_of}
use mathlib.Core.Path.{ap, ◌∙◌}
use Prim.Native.Nat.{ℕ}
use Rattle.export.proofs.lugwormpin_bind_ordered.Goals as goal

pub returns : goal.returns
returns c =
    ap (λ (n : ℕ). called n c.bind_ordered-a.new.arena c.bind_ordered-a.new.report) c.answer_number.ensures
    ∙ rw c.policy_of-policy.ensures at (ap called_of c.bind_ordered-a.ensures)
