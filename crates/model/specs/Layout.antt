-- Sets made of files. Document 01, "Placed bytes": "Host at arena offset 0, then each object at the next free offset". Demand 3 for
-- such sets, with the arenas as lists of bytes. Assumes nothing.
use Rattle.std.specs.Prelude.{List, [], ◌∷◌, ◌++◌, ℕ, ◌+◌, ◌≤◌, ◌<◌}
use Rattle.words.specs.Memory.{mem, tab}
use Rattle.model.specs.Objects.{Obj, Objs, count, obj}
use Rattle.model.specs.Relocation.{bound}
use Rattle.model.specs.Sound.{Order, Sound}
use Rattle.model.specs.Longer.{OnlyProgramCopies, Kept}

-- refusal 8: no span passes the end of an arena of `n` bytes
abbrev pub Fits : Objs → ℕ → Type 0
Fits S n = (k : ℕ) → k < count S → (obj S k).offset + (obj S k).span ≤ n

-- `make f off` is the object of the file `f` where `off` is the next free offset; the arena's address is fixed
module _ {File : Type 0} (make : File → ℕ → Obj) where
  -- the next free offset after that object
  abbrev pub next_free : File → ℕ → ℕ
  next_free f off = (make f off).offset + (make f off).span

  -- the objects of a list of files, one after another
  unfoldable pub layout : List File → ℕ → List Obj
  layout [] off = []
  layout (f ∷ fs) off = make f off ∷ layout fs (next_free f off)

  -- the next free offset after them
  unfoldable pub end : List File → ℕ → ℕ
  end [] off = off
  end (f ∷ fs) off = end fs (next_free f off)

  -- the set of a host, a program and libraries
  unfoldable pub objs_of : File → File → List File → Objs
  objs_of h p fs =
      record { host = make h 0; program = make p (next_free h 0); libs = layout fs (next_free p (next_free h 0)) }

  -- demand 3 for such sets: T's files are S's and one more; their arenas, of n and n' bytes, are lists
  abbrev pub LongerFiles : Type 0
  LongerFiles =
      (h p : File) (fs : List File) (order : List ℕ) (n : ℕ)
      → Sound (objs_of h p fs) → Order (objs_of h p fs) order → Fits (objs_of h p fs) n → OnlyProgramCopies (objs_of h p fs)
      → (f : File) (order' : List ℕ) (n' : ℕ)
      → Sound (objs_of h p (fs ++ (f ∷ []))) → Order (objs_of h p (fs ++ (f ∷ []))) order' → Fits (objs_of h p (fs ++ (f ∷ []))) n'
      → Kept (objs_of h p fs) (objs_of h p (fs ++ (f ∷ [])))
      (mem (tab n (bound (objs_of h p fs) order))) (mem (tab n' (bound (objs_of h p (fs ++ (f ∷ []))) order')))
