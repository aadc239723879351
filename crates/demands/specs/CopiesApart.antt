-- The copies of a bound set. Document 02, (h): "no byte may be the destination of two non-empty copies, of whichever objects, and no byte of one's
-- source may lie in another's destination"; document 01, 18, has the same of a copy's own source. Assumes nothing.
use Rattle.std.specs.Prelude.{List, ◌≡◌, ℕ, ◌<◌, length, get_or}
use Rattle.words.specs.Memory.{In}
use Rattle.sheet.specs.Sheet.{set_of}
use Rattle.binder.specs.Setting.{Setting}
use Rattle.binder.specs.declared.Policy.{Policy}
use Rattle.binder.specs.declared.crossing.Copy.{Copy}
use Rattle.binder.specs.Verdict.{passed, order_copies}
use Rattle.binder.specs.SetOrder.{set_order}
use Rattle.binder.specs.Bind.{files_of, names_of, outcome}
use Rattle.binder.specs.OwnOrder.{bind_ordered_of}
use Rattle.demands.specs.LongerSet.{set_objects, BoundBy}

-- what stands past the end of a list
abbrev pub no_copy : Copy
no_copy = record { to = 0; source = 0; size = 0 }

-- the copies of a set, in an order
abbrev pub copies_in : Setting → List ℕ → List ℕ → List ℕ → List Copy
copies_in setting sheet bytes order = order_copies setting.row (set_objects setting sheet bytes) (files_of (set_of sheet bytes)) order

-- the byte `b` of the arena is one of the destination, or of the source, of copy `i`
abbrev pub DestinationByte : List Copy → ℕ → ℕ → Type 0
DestinationByte cs i b = In (get_or cs i no_copy).to (get_or cs i no_copy).size b

abbrev pub SourceByte : List Copy → ℕ → ℕ → Type 0
SourceByte cs i b = In (get_or cs i no_copy).source (get_or cs i no_copy).size b

pub record Apart (cs : List Copy) : Type 0 where
  -- "no byte may be the destination of two"
  pub one_destination : (i j b : ℕ) → i < length cs → j < length cs → DestinationByte cs i b → DestinationByte cs j b → i ≡ j
  -- "no byte of one's source may lie in another's destination", nor in its own
  pub no_source : (i j b : ℕ) → i < length cs → j < length cs → SourceByte cs i b → DestinationByte cs j b → ⊥

-- of every set that is bound
pub record CopiesApart : Type 0 where
  pub bound :
      (setting : Setting) (sheet bytes : List ℕ) (size : ℕ) (policy : Policy) (words : ℕ) (arena report : List ℕ)
      → BoundBy setting sheet bytes size policy words arena report
      → Apart (copies_in setting sheet bytes (set_order (files_of (set_of sheet bytes)) (names_of (set_of sheet bytes))))
  -- in a builder's own order too
  pub ordered :
      (setting : Setting) (sheet bytes : List ℕ) (size : ℕ) (policy : Policy) (words : ℕ) (order arena report : List ℕ)
      → bind_ordered_of setting sheet bytes size policy words order ≡ outcome passed arena report
      → Apart (copies_in setting sheet bytes order)
