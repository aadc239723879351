-- The table of needs that `arrange` is given, and what its contract says of the order. Document 01, "Order: iter_objects_topological":
-- "Depth first, libraries in list order, of one library's needs the last first, each after what it needs; program last. Needs match library
-- names byte for byte; unlisted ones are ignored." That is `order_of`. Assumes nothing.
use Rattle.std.specs.Prelude.{◌≡◌, ℕ, ◌+◌, ◌*◌, min, List, length}
use Rattle.words.specs.Memory.{mem, tab, from}
use Rattle.model.specs.Order.{order_of}

-- library k's needs: the numbers in the 64 bytes of its row; past the table's end they are 0, which is no library
abbrev pub needs_row : List ℕ → ℕ → List ℕ
needs_row table k = tab 64 (from (k * 64) (mem table))

-- the order of the libraries; more than 62 are cut to 62
pub record Ordered (table : List ℕ) (libraries : ℕ) (order : List ℕ) : Type 0 where
  pub list : order ≡ order_of (needs_row table) (min libraries 62)
  pub count : length order ≡ min libraries 62 + 1
