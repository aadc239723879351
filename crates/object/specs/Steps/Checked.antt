-- The check of a table's walks as one value, and its marks. Only private functions cite it. Assumes nothing.
use Rattle.std.specs.Prelude.{Bool, ◌≡◌, ℕ}
use Rattle.object.specs.declared.walks.Walks.{Walks}
use Rattle.object.specs.declared.marks.Marks.{Marks}
use Rattle.object.specs.Steps.Marks.{Marked, Passes, lowest, step_in}

-- what is asked of each symbol
abbrev pub step_by : Walks → ℕ → Bool
step_by w = step_in w.zeros.bounds w.zeros.image.now w.view

-- the walks of the marked symbols pass
pub record MarksOk (w : Walks) (seen : Marks) : Type 0 where
  pub low : seen.low ≡ lowest w.view.table
  pub marked : Marked seen.words seen.low seen.step (Passes w.zeros.image.now w.view.table (step_by w))
