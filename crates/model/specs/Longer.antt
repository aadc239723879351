-- Demand 3 as one statement, `Longer`; and request (l), `OrderFree`. Document 01, "A set and a longer one". Words in quotes without
-- another source are demand 3's. The arena's address is in the objects' bases; the policy changes no byte, only whether a set is
-- bound; a memory has no end, so the two arenas may differ in length. Assumes nothing.
use Rattle.std.specs.Prelude.{◌≡◌, ◌⊎◌, ◌≢◌, ℕ, ◌+◌, ◌≤◌, ◌<◌, min}
use mathlib.Core.List.{List, [], ◌∷◌, ◌++◌, Memᴰ}
use Rattle.words.specs.Memory.{Mem, In}
use Rattle.model.specs.Symbols.{Wanted, Definition, Resolved, absent, answer}
use Rattle.model.specs.Objects.{Entry, fixed, symbol, copy, pass, Obj, Objs, count, obj, InSpan}
use Rattle.model.specs.Scope.{resolve, resolve_copy}
use Rattle.model.specs.Relocation.{bound}
use Rattle.model.specs.Sound.{Order, Sound}

-- "whatever library is added at its end": the set with one more library
abbrev pub longer : Objs → Obj → Objs
longer S added = record { host = S.host; program = S.program; libs = S.libs ++ (added ∷ []) }

-- the entry is no COPY entry
abbrev pub NotCopy : Entry → Type 0
NotCopy (fixed p w n) = Unit {0}
NotCopy (symbol p w wanted f) = Unit {0}
NotCopy (copy p wanted size) = ⊥
NotCopy pass = Unit {0}

-- "whose only COPY entries are the program's": no library, numbered from 2, has one
abbrev pub OnlyProgramCopies : Objs → Type 0
OnlyProgramCopies S = (k : ℕ) → 2 ≤ k → k < count S → (e : Entry) → Memᴰ e (obj S k).entries → NotCopy e

-- "bound to the host or found nowhere"; the host is object 0
pub data HostOrNowhere : Resolved → Type 0 where
  nowhere : HostOrNowhere absent
  to_host : {s : Definition} {a : ℕ} → HostOrNowhere (answer 0 s a)

-- the entry of object `k` is one "that S bound to the host or found nowhere", and names the byte at `i`:
-- "An entry names the bytes it writes"; "a COPY entry names as many from its place as its own symbol's size, inside its own object".
-- Document 01: "An entry that makes no search is neither bound nor found nowhere".
abbrev pub Named : Objs → ℕ → Entry → ℕ → Type 0
Named S k (fixed p w n) i = ⊥
Named S k (symbol p w wanted f) i = HostOrNowhere (resolve S k wanted) × In ((obj S k).offset + p) w i
Named S k (copy p wanted size) i =
    HostOrNowhere (resolve_copy S wanted) × In ((obj S k).offset + p) size i × InSpan (obj S k) i
Named S k pass i = ⊥

-- "bytes named by entries that S bound to the host or found nowhere"; entries are those of program and libraries, numbered from 1
abbrev pub NamedByte : Objs → ℕ → Type 0
NamedByte S i = (k : ℕ) × (e : Entry) × (1 ≤ k) × (k < count S) × Memᴰ e (obj S k).entries × Named S k e i

-- a COPY with that answer writes the byte at `i` from the byte at `j`
abbrev pub CopiesFrom : Objs → ℕ → ℕ → Resolved → ℕ → ℕ → Type 0
CopiesFrom S to size absent i j = ⊥
CopiesFrom S to size (answer d s a) i j =
    (t : ℕ) × (t < min size s.size) × (i ≡ to + t) × (j ≡ (obj S d).offset + s.value + t)

-- document 01: "A copy of a byte is a byte that a COPY entry of the program, as S binds it, writes from that byte"
abbrev pub Copies : Objs → Entry → ℕ → ℕ → Type 0
Copies S (fixed p w n) i j = ⊥
Copies S (symbol p w wanted f) i j = ⊥
Copies S (copy p wanted size) i j = CopiesFrom S (S.program.offset + p) size (resolve_copy S wanted) i j
Copies S pass i j = ⊥

-- "save bytes named by entries that S bound to the host or found nowhere, and copies of those bytes"; nothing else
pub data Excepted (S : Objs) (i : ℕ) : Type 0 where
  named : NamedByte S i → Excepted S i
  copy_of : (j : ℕ) (e : Entry) → Memᴰ e S.program.entries → Copies S e i j → NamedByte S j → Excepted S i

-- what T keeps of S, whose bound arenas are `arena` and `arena'`: names in both scopes, and bytes, together
pub record Kept (S T : Objs) (arena arena' : Mem) : Type 0 where
  -- "every name that S answers from its program or a library, for any object of S as requester, has the same answer in T, the same
  -- object, symbol and address"; the requester is `r`, and an answer from program or library is one of an object other than 0
  pub names :
      (r : ℕ) → r < count S → (wanted : Wanted) (k : ℕ) (s : Definition) (a : ℕ) → resolve S r wanted ≡ answer k s a → k ≢ 0
      → resolve T r wanted ≡ answer k s a
  -- the same in COPY's scope, which is one for all requesters
  pub copy_names :
      (wanted : Wanted) (k : ℕ) (s : Definition) (a : ℕ) → resolve_copy S wanted ≡ answer k s a → k ≢ 0
      → resolve_copy T wanted ≡ answer k s a
  -- "and every byte of S's objects, the host's too, is equal in both bound arenas, save" the excepted ones
  pub bytes : (k : ℕ) → k < count S → (i : ℕ) → InSpan (obj S k) i → Excepted S i ⊎ (arena i ≡ arena' i)

-- demand 3: "For every bound set S whose only COPY entries are the program's, and whatever library is added at its end, where that
-- longer set T is bound". The orders of S and T need have nothing in common; the added library may have COPY entries.
abbrev pub Longer : Type 0
Longer =
    (S : Objs) (order : List ℕ) → Sound S → Order S order → OnlyProgramCopies S
    → (added : Obj) (order' : List ℕ) → Sound (longer S added) → Order (longer S added) order'
    → Kept S (longer S added) (bound S order) (bound (longer S added) order')

-- request (l): of a bound set whose only COPY entries are the program's, every order leaves the same bytes
abbrev pub OrderFree : Type 0
OrderFree =
    (S : Objs) (order order' : List ℕ) → Sound S → OnlyProgramCopies S → Order S order → Order S order'
    → (i : ℕ) → bound S order i ≡ bound S order' i
