-- The order of a set's objects, from its needs' names. Document 01, "Order": "Needs match library names byte for byte; unlisted ones are
-- ignored". Assumes nothing.
use Rattle.std.specs.Prelude.{ℕ, ◌+◌, List, [], ◌∷◌, map, length, slice_index_or}
use Rattle.words.specs.Choice.{pick}
use Rattle.words.specs.Names.{same_bytes}
use Rattle.model.specs.Order.{order_of}
use Rattle.object.specs.Record.{need_name}
use Rattle.binder.specs.Instance.{File, file_image, file_record}
use Rattle.binder.specs.Verdict.{no_file}

-- the number of the library with that name, the first of the list having the number `k`; 0 where none has it
unfoldable pub number_of : List ℕ → ℕ → List (List ℕ) → ℕ
number_of name k [] = 0
number_of name k (n ∷ names) = pick (same_bytes name n) k (number_of name (k + 1) names)

-- the objects that a file's needs name, in file order
unfoldable pub needed_objects : List (List ℕ) → File → List ℕ
needed_objects names f = map (λ n. number_of (need_name (file_image f) (file_record f) n) 2 names) (file_record f).needed

-- the order of a set: its files by their numbers, and its libraries' names
unfoldable pub set_order : List File → List (List ℕ) → List ℕ
set_order files names = order_of (λ k. needed_objects names (slice_index_or files k no_file)) (length names)
