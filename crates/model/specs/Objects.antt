-- The objects of a set, as binding sees them. Document 01, "What is handed in" (numbers), "Placed bytes" (offset, span, base),
-- "Relocated bytes" (entries); x86-64 psABI, "Relocation Types". All that stands here is read from the placed bytes before any is
-- relocated: it depends on the object's file, its offset and the arena's address only. Assumes nothing.
use Rattle.std.specs.Prelude.{List, ◌∷◌, ℕ, length, get_or}
use Rattle.words.specs.Memory.{Mem, In}
use Rattle.model.specs.Symbols.{Wanted, Exported}

-- an entry of the RELA or PLT table; a place is an offset from the object's base. Its type decides which it is (object/specs/RelocationTypes).
--   fixed    makes no search and writes the low `width` bytes of a number
--   symbol   searches for the name and writes the low `width` bytes of what `value` makes of the address, or of 0
--   copy     searches for the name and copies the smaller of two sizes, `size` being its own symbol's
--   pass     writes nothing
pub data Entry : Type 0 where
  fixed : (place width number : ℕ) → Entry
  symbol : (place width : ℕ) (wanted : Wanted) (value : ℕ → ℕ) → Entry
  copy : (place : ℕ) (wanted : Wanted) (size : ℕ) → Entry
  pass : Entry

-- an object of the set
pub record Obj : Type 0 where
  -- where the object starts in the arena, how long it is there, and the arena's address plus `offset`
  pub offset : ℕ
  pub span : ℕ
  pub base : ℕ
  -- the placed bytes, from the object's start
  pub image : Mem
  -- the symbol that the object's hash table has for a name
  pub find : Wanted → Exported
  -- the places that RELR names, in order
  pub words : List ℕ
  -- the entries of RELA, then those of PLT
  pub entries : List Entry

-- "Objects are numbered host 0, program 1, libraries from 2"
pub record Objs : Type 0 where
  pub host : Obj
  pub program : Obj
  pub libs : List Obj

-- the objects in the order of their numbers
abbrev pub all : Objs → List Obj
all S = S.host ∷ S.program ∷ S.libs

-- how many objects the set has
abbrev pub count : Objs → ℕ
count S = length (all S)

-- object `k` of the set
abbrev pub obj : Objs → ℕ → Obj
obj S k = get_or (all S) k S.host

-- the arena offset `i` lies in the object's span
abbrev pub InSpan : Obj → ℕ → Type 0
InSpan o i = In o.offset o.span i
