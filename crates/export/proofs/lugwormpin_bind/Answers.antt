-- `export::lugwormpin_bind` meets its contract. Assumes nothing.
use Prim.Native.Nat.{ℕ}
use mathlib.Core.Path.{ap, ◌∙◌}
use Rattle.export.specs.Calls.{called, called_of}
use Rattle.export.proofs.lugwormpin_bind.Goals as goal

pub returns : goal.returns
returns c =
    ap (λ (n : ℕ). called n c.bind-a.new.arena c.bind-a.new.report) c.answer_number.ensures
    ∙ rw c.policy_of-policy.ensures at (ap called_of c.bind-a.ensures)
