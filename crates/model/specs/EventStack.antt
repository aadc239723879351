-- The loop of `iter_objects_topological` as the Rust has it. Document 01 says of it: "Depth first, libraries in list order, of one library's
-- needs the last first, each after what it needs; program last. Needs match library names byte for byte; unlisted ones are ignored."
-- A list is the stack, its head the top; `seen` are the libraries whose `visited` is set; `out` is the Rust's `order`. Assumes nothing.
use Rattle.std.specs.Prelude.{ℕ, ◌≡◌, true, false, not, List, [], ◌∷◌, ◌++◌}
use Rattle.words.specs.Choice.{pick, both}
use Rattle.model.specs.Order.{has, listed, up_from, order_of}

pub data Event : Type 0 where
  discover : ℕ → Event
  emit : ℕ → Event

-- `for needed in ..`: each need that is listed and not visited is pushed, so that the last comes to be on top
abbrev pub push : ℕ → List ℕ → List ℕ → List Event → List Event
push count seen [] stack = stack
push count seen (k ∷ ks) stack =
    push count seen ks (pick (both (listed count k) (not (has k seen))) (discover k ∷ stack) stack)

-- `while let Some(event) = stack.pop()`: from this stack, with these visited and this order so far, the loop ends with the order `r`
pub data Runs (needs : ℕ → List ℕ) (count : ℕ) (r : List ℕ) : List Event → List ℕ → List ℕ → Type 0 where
  -- the stack is empty
  done : {seen out : List ℕ} → r ≡ out → Runs needs count r [] seen out
  -- `Event::Emit(object) => order.push(object)`
  emits :
      {k : ℕ} {stack : List Event} {seen out : List ℕ}
      → Runs needs count r stack seen (out ++ (k ∷ []))
      → Runs needs count r (emit k ∷ stack) seen out
  -- `Event::Discover(index)`, `if visited[index] { continue; }`
  skips :
      {k : ℕ} {stack : List Event} {seen out : List ℕ}
      → has k seen ≡ true
      → Runs needs count r stack seen out
      → Runs needs count r (discover k ∷ stack) seen out
  -- else it is marked, its Emit is pushed, and then its needs
  opens :
      {k : ℕ} {stack : List Event} {seen out : List ℕ}
      → has k seen ≡ false
      → Runs needs count r (push count (k ∷ seen) (needs k) (emit k ∷ stack)) (k ∷ seen) out
      → Runs needs count r (discover k ∷ stack) seen out

-- the stack at the start: every library, the first on top
abbrev pub discover_all : List ℕ → List Event
discover_all [] = []
discover_all (k ∷ ks) = discover k ∷ discover_all ks

-- whatever order the Rust's loop ends with, with the program after it that is `order_of`
abbrev pub RustOrder : Type 0
RustOrder =
    (needs : ℕ → List ℕ) (count : ℕ) (r : List ℕ) → Runs needs count r (discover_all (up_from 2 count)) [] []
    → order_of needs count ≡ r ++ (1 ∷ [])
