-- The table of needs that the code fills, from the needs' names, and the order that comes of it. Document 01, "Order": "Needs match library
-- names byte for byte; unlisted ones are ignored". `SetOrder` has what it comes to. Assumes nothing.
use Rattle.std.specs.Prelude.{◌≡◌, ℕ, ◌+◌, ◌-◌, ◌*◌, ◌<◌, ◌≤◌, List, [], map, length, replicate, slice_index, slice_index_or, Option, None, Some}
use Rattle.words.specs.Memory.{mem, patch}
use Rattle.words.specs.Names.{name_at}
use Rattle.model.specs.Order.{order_of}
use Rattle.object.specs.DynamicFields as fields
use Rattle.object.specs.ProgramHeader.{dynamic_of}
use Rattle.sheet.specs.Sheet.{Input, no_input}
use Rattle.scope.specs.Steps.Links.{link_at}
use Rattle.scope.specs.Steps.ScopeCode.{image_at}
use Rattle.binder.specs.SetOrder.{number_of}
use Rattle.binder.specs.Bind.{names_of}

-- the offsets of the needs' names in an image whose dynamic array stands there, where there is one
abbrev pub needed_at : List ℕ → Option ℕ → List ℕ
needed_at image None = []
needed_at image (Some at) = fields.needed_offsets image at

-- the libraries that they name, in file order
unfoldable pub numbers_at : List Input → List ℕ → ℕ → Option ℕ → List ℕ
numbers_at os image strings d = map (λ n. number_of (name_at image (strings + n)) 2 (names_of os)) (needed_at image d)

-- the row of library `k` has them; all other bytes are as they were
abbrev pub NeedsPut : List Input → List ℕ → ℕ → List ℕ → ℕ → List ℕ → List ℕ → Type 0
NeedsPut os image strings file k before after =
    length (needed_at image (dynamic_of file)) ≤ 64
    → after
    ≡ patch before (64 * k) (length (needed_at image (dynamic_of file))) (λ i. slice_index (numbers_at os image strings (dynamic_of file)) i)

-- what library `k` of a loaded set needs
abbrev pub needs_at : List Input → List ℕ → List ℕ → ℕ → List ℕ
needs_at os arena table k =
    numbers_at os (image_at arena (link_at table k)) (link_at table k).view.strings (dynamic_of (slice_index_or os k no_input).file)

-- none has over 64 needs
abbrev pub FewNeeds : List Input → List ℕ → List ℕ → Type 0
FewNeeds os arena table =
    (k : ℕ) → 2 ≤ k → k < length os → length (needed_at (image_at arena (link_at table k)) (dynamic_of (slice_index_or os k no_input).file)) ≤ 64

-- all rows are filled, in a table that was all zeros
abbrev pub NeedsFilled : List Input → List ℕ → List ℕ → List ℕ → List ℕ → Type 0
NeedsFilled os arena table before after =
    FewNeeds os arena table → before ≡ replicate 4096 0
    → (k : ℕ) → 2 ≤ k → k < length os → (i : ℕ) → i < 64 → mem after (64 * k + i) ≡ slice_index (needs_at os arena table k) i

-- the order of a loaded set
pub record Arranged (os : List Input) (arena table order : List ℕ) : Type 0 where
  pub is : FewNeeds os arena table → order ≡ order_of (needs_at os arena table) (length os - 2)
  pub few : length order ≤ 64
