-- The laws of the order, as what `bind` reports. Document 01, "Order": "Depth first, libraries in list order, of one library's needs the
-- last first, each after what it needs; program last"; "Report": "per object a word of kind 5 with its number". Assumes nothing.
use Rattle.std.specs.Prelude.{◌≡◌, true, List, [], ◌∷◌, ℕ, ◌/◌, ◌%◌, ◌^◌, ◌≤◌, ◌<◌, eqb, length, get_or}
use Rattle.words.specs.Choice.{pick}
use Rattle.model.specs.Order.{has, Before, Reach, OnceEach}
use Rattle.binder.specs.declared.Policy.{Policy}
use Rattle.sheet.specs.Sheet.{Input, set_of}
use Rattle.binder.specs.Setting.{Setting}
use Rattle.binder.specs.Verdict.{no_file}
use Rattle.binder.specs.SetOrder.{needed_objects, set_order}
use Rattle.binder.specs.Bind.{files_of, names_of}
use Rattle.demands.specs.LongerSet.{BoundBy}

-- the numbers in a report's words of that kind, in the order of the words
unfoldable pub numbers_of : ℕ → List ℕ → List ℕ
numbers_of kind [] = []
numbers_of kind (w ∷ ws) = pick (eqb (w / 2 ^ 28) kind) (w % 2 ^ 28 ∷ numbers_of kind ws) (numbers_of kind ws)

-- the objects that the needs of object `k` of a set name
abbrev pub needs_in : List Input → ℕ → List ℕ
needs_in os k = needed_objects (names_of os) (get_or (files_of os) k no_file)

-- what the words of kind 5 of a report say of the order of a set
pub record OrderReported (os : List Input) (report : List ℕ) : Type 0 where
  -- they are the order of the set
  pub order : numbers_of 5 report ≡ set_order (files_of os) (names_of os)
  -- each library once, then the program, and nothing else
  pub once : OnceEach (length os) (numbers_of 5 report)
  -- where library a needs listed library b, and b cannot reach a along needs, b is before a
  pub needed_first :
      (a b : ℕ) → 2 ≤ a → a < length os → 2 ≤ b → b < length os → has b (needs_in os a) ≡ true
      → (Reach (needs_in os) (length (names_of os)) b a → ⊥)
      → Before b a (numbers_of 5 report)

-- of every set that is bound
abbrev pub OrderReport : Type 0
OrderReport =
    (setting : Setting) (sheet bytes : List ℕ) (size : ℕ) (policy : Policy) (words : ℕ) (arena report : List ℕ)
    → BoundBy setting sheet bytes size policy words arena report
    → OrderReported (set_of sheet bytes) report
