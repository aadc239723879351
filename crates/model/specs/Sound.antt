-- What holds of a bound set: document 01, "Order" (each library once, the program last) and "Refused, in checking order" (what 17 and
-- 18 leave). Only what the laws use is said here; a set that is bound has more. Assumes nothing.
use mathlib.Core.List.{List, Memᴰ}
use Rattle.std.specs.Prelude.{ℕ, ◌+◌, ◌≤◌, ◌<◌, min}
use Rattle.model.specs.Symbols.{Resolved, absent, answer}
use Rattle.model.specs.Objects.{Entry, fixed, symbol, copy, pass, Objs, count, obj}
use Rattle.model.specs.Scope.{resolve_copy}
use Rattle.model.specs.Order.{OnceEach}

-- what any binding order of the set is: each library once, then the program, and nothing else
abbrev pub Order : Objs → List ℕ → Type 0
Order S order = OnceEach (count S) order

-- refusals 17 and 18 of a COPY: the bytes written lie in the entry's object `k`, those read in the object that answered, if there are any
abbrev pub InsideCopy : Objs → ℕ → ℕ → ℕ → Resolved → Type 0
InsideCopy S k p size absent = Unit {0}
InsideCopy S k p size (answer d s a) =
    0 < min size s.size
    → (p + min size s.size ≤ (obj S k).span) × (s.value + min size s.size ≤ (obj S d).span)

-- refusal 17 of an entry of object `k`: the bytes written lie in that object
abbrev pub Inside : Objs → ℕ → Entry → Type 0
Inside S k (fixed p w n) = p + w ≤ (obj S k).span
Inside S k (symbol p w wanted f) = p + w ≤ (obj S k).span
Inside S k (copy p wanted size) = InsideCopy S k p size (resolve_copy S wanted)
Inside S k pass = Unit {0}

-- what the refusals leave of a set: spans one after another, and every write and every COPY's source inside its object
pub record Sound (S : Objs) : Type 0 where
  -- each object starts at the end of the one before or later
  pub apart : (j k : ℕ) → j < k → k < count S → (obj S j).offset + (obj S j).span ≤ (obj S k).offset
  -- refusal 17 of RELR, in program and libraries
  pub words_in : (k : ℕ) → 1 ≤ k → k < count S → (p : ℕ) → Memᴰ p (obj S k).words → p + 8 ≤ (obj S k).span
  -- refusals 17 and 18 of RELA and PLT, in program and libraries
  pub entries_in : (k : ℕ) → 1 ≤ k → k < count S → (e : Entry) → Memᴰ e (obj S k).entries → Inside S k e
