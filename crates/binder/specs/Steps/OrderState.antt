-- The order so far, while libraries are visited: what the contracts of the private functions below `arrange` say. Assumes nothing.
use Rattle.std.specs.Prelude.{◌≡◌, ℕ, suc, ◌+◌, ◌≤◌, Bool, true, false, not, List, [], ◌∷◌, length, slice_index_or}
use Rattle.model.specs.Order.{listed, fresh, visit}
use Rattle.binder.specs.Steps.Table.{needs_row}

-- `list` is ordered; `seen` marks the libraries that are ordered or whose needs are being visited, and the numbers that are no library's
pub record State : Type 0 where
  pub list : List ℕ
  pub seen : List Bool

abbrev pub state_of : List ℕ → List Bool → State
state_of l s = record { list = l; seen = s }

-- how many marks are not set
abbrev pub unmarked : List Bool → ℕ
unmarked [] = 0
unmarked (true ∷ s) = unmarked s
unmarked (false ∷ s) = suc (unmarked s)

-- how many places are used, or will be
abbrev pub used : State → ℕ
used o = length o.list + unmarked o.seen

pub record Room (o : State) : Type 0 where
  pub fits : used o ≤ 64
  pub marks : length o.seen ≡ 64

-- what is not marked is fresh
abbrev pub Marks : ℕ → List ℕ → State → Type 0
Marks libs path o = (j : ℕ) → slice_index_or o.seen j true ≡ not (fresh libs path j o.list)

-- r is o after a visit of k
pub record Visited (table : List ℕ) (depth k : ℕ) (o r : State) : Type 0 where
  pub room : Room r
  pub within : used r ≤ used o
  pub same : (libs : ℕ) (path : List ℕ) → Marks libs path o → r.list ≡ visit (needs_row table) libs depth path k o.list
  pub marked : (libs : ℕ) (path : List ℕ) → Marks libs path o → Marks libs path r

-- the marks at the start: the numbers that are no library's
pub record Unlisted (libs : ℕ) (s : List Bool) : Type 0 where
  pub marks : length s ≡ 64
  pub left : unmarked s ≤ libs
  pub at : (j : ℕ) → slice_index_or s j true ≡ not (listed libs j)
