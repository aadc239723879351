-- A set and a longer one, as sheets and bytes: both are bound, so `LongerSet` and `LongerQuery` speak of them, and what demand 3 excepts does
-- happen. Document 01, "A set and a longer one". The files are written as 64-bit words, the lowest byte first; System V gABI, "ELF Header",
-- "Program Header", "Dynamic Section", "Symbol Table", "Hash Table", "Relocation". Assumes nothing.
use Rattle.std.specs.Prelude.{List, [], ◌∷◌, ◌++◌, ◌≡◌, ℕ, ◌+◌, ◌*◌, ◌-◌, ◌^◌, replicate, Ok, None}
use Rattle.words.specs.Memory.{mem, tab, In}
use Rattle.words.specs.Words.{byte_of, le_at}
use Rattle.model.specs.Longer.{OnlyProgramCopies, Excepted, Kept}
use Rattle.binder.specs.declared.Policy.TheVariants.{Lenient}
use Rattle.binder.specs.Setting.{Setting, supplied_at}
use Rattle.binder.specs.Bind.{Reply, found, query_of, replied}
use Rattle.demands.specs.LongerSet.{set_objects, BoundBy}

-- ---- words

-- each word as eight bytes
unfoldable pub word_bytes : List ℕ → List ℕ
word_bytes [] = []
word_bytes (w ∷ ws) = tab 8 (byte_of w) ++ word_bytes ws

-- a word of two 32-bit fields
abbrev pub pair : ℕ → ℕ → ℕ
pair low high = low + high * 2 ^ 32

-- the ELF header: a shared object for x86-64, with `n` program headers after it
abbrev pub elf_header : ℕ → List ℕ → List ℕ
elf_header n ws = 0x10102464c457f ∷ 0 ∷ pair (3 + 62 * 2 ^ 16) 1 ∷ 0 ∷ 64 ∷ 0 ∷ pair 0 (64 + 56 * 2 ^ 16) ∷ n ∷ ws

-- program headers: a PT_LOAD of file offset 0, and a PT_DYNAMIC
abbrev pub load : ℕ → ℕ → ℕ → ℕ → List ℕ → List ℕ
load flags vaddr filesz memsz ws = pair 1 flags ∷ 0 ∷ vaddr ∷ 0 ∷ filesz ∷ memsz ∷ 0 ∷ ws

abbrev pub dynamic : ℕ → List ℕ → List ℕ
dynamic vaddr ws = pair 2 4 ∷ 0 ∷ vaddr ∷ 0 ∷ 0 ∷ 0 ∷ 0 ∷ ws

-- a global symbol of 8 bytes; section 0 is undefined
abbrev pub symbol : ℕ → ℕ → ℕ → List ℕ → List ℕ
symbol name section value ws = pair name (0x10 + section * 2 ^ 16) ∷ value ∷ 8 ∷ ws

-- an entry of type 6, without addend
abbrev pub glob_entry : ℕ → ℕ → List ℕ → List ℕ
glob_entry place index ws = place ∷ pair 6 index ∷ 0 ∷ ws

-- ---- files

-- the host: no names and no tables
abbrev pub host_file : List ℕ
host_file =
    word_bytes (elf_header 1 (dynamic 0x78
    -- strings and symbols at 0
    (5 ∷ 0 ∷ 6 ∷ 0 ∷ 0 ∷ 0 ∷ [])))
    ++ replicate (0x1000 - 168) 0

-- the program: two words at 0x1000, that take the addresses of a and of b
abbrev pub program_file : List ℕ
program_file =
    word_bytes (elf_header 3 (load 4 0 440 440 (load 6 0x1000 0 16 (dynamic 0xE8
    -- strings, symbols, RELA and its size
    (5 ∷ 0x180 ∷ 6 ∷ 0x138 ∷ 7 ∷ 0x188 ∷ 8 ∷ 48 ∷ 0 ∷ 0
    -- at 0x138: symbol 0, a, b
    ∷ 0 ∷ 0 ∷ 0 ∷ symbol 1 0 0 (symbol 3 0 0
    -- at 0x180: the names
    ((97 * 2 ^ 8 + 98 * 2 ^ 24)
    -- at 0x188: the entries
    ∷ glob_entry 0x1000 1 (glob_entry 0x1008 2 []))))))))

-- a library that defines the name of that one byte, at 0x18
abbrev pub library_file : ℕ → List ℕ
library_file c =
    word_bytes (elf_header 2 (load 4 0 320 320 (dynamic 0xB0
    -- strings, symbols, DT_HASH
    (5 ∷ 0x120 ∷ 6 ∷ 0xF0 ∷ 4 ∷ 0x128 ∷ 0 ∷ 0
    -- at 0xF0: symbol 0, the name's
    ∷ 0 ∷ 0 ∷ 0 ∷ symbol 1 1 0x18
    -- at 0x120: the name
    (c * 2 ^ 8
    -- at 0x128: one bucket, a chain of 2; the bucket has symbol 1
    ∷ pair 1 2 ∷ pair 1 0 ∷ 0 ∷ [])))))

-- ---- the sets

-- where the arenas are; the supplied words of the types
abbrev pub setting : Setting
setting = supplied_at 0x10000000

-- S: host, program, and a library with the name "l" that defines a
abbrev pub sheet : List ℕ
sheet = 0x10001000 ∷ 0x200001B8 ∷ 0x30000140 ∷ 0x40000001 ∷ []

abbrev pub bytes : List ℕ
bytes = host_file ++ (program_file ++ (library_file 97 ++ (108 ∷ [])))

-- T: and a library with the name "m" that defines b
abbrev pub longer_sheet : List ℕ
longer_sheet = sheet ++ (0x30000140 ∷ (0x40000001 ∷ []))

abbrev pub longer_bytes : List ℕ
longer_bytes = bytes ++ (library_file 98 ++ (109 ∷ []))

-- the reply to a query by the program, whatever it leaves
abbrev pub Replies : List ℕ → List ℕ → ℕ → ℕ → Reply → Type 0
Replies s bs size c r = (arena : List ℕ) × (query_of setting s bs size 1 (c ∷ []) ≡ replied r arena)

pub record PairOfSheets : Type 0 where
  -- both are bound, S in 0x4000 bytes and T in 0x5000; S has no COPY entry
  pub arena : List ℕ
  pub arena' : List ℕ
  -- the order is 2, 1; entry 1 of the program is undefined
  pub bound : BoundBy setting sheet bytes 0x4000 Lenient 16 arena (0x50000002 ∷ 0x50000001 ∷ 0x60000001 ∷ replicate 13 0)
  -- the order is 2, 3, 1; nothing is undefined
  pub longer_bound :
      BoundBy setting longer_sheet longer_bytes 0x5000 Lenient 16 arena' (0x50000002 ∷ 0x50000003 ∷ 0x50000001 ∷ replicate 13 0)
  pub only : OnlyProgramCopies (set_objects setting sheet bytes)
  -- a keeps its answer, from library 2; b, which S has nowhere, is library 3's in T
  pub a_asked : Replies sheet bytes 0x4000 97 (found 2 1 0x10003018)
  pub a_asked_longer : Replies longer_sheet longer_bytes 0x5000 97 (found 2 1 0x10003018)
  pub b_asked : Replies sheet bytes 0x4000 98 (Ok None)
  pub b_asked_longer : Replies longer_sheet longer_bytes 0x5000 98 (found 3 1 0x10004018)
  -- the program's word for a is equal in both arenas; its word for b is not, and is excepted
  pub a_word : le_at 8 (mem arena) 0x2000 ≡ 0x10003018
  pub a_word_longer : le_at 8 (mem arena') 0x2000 ≡ 0x10003018
  pub b_word : le_at 8 (mem arena) 0x2008 ≡ 0
  pub b_word_longer : le_at 8 (mem arena') 0x2008 ≡ 0x10004018
  pub b_excepted : (i : ℕ) → In 0x2008 8 i → Excepted (set_objects setting sheet bytes) i
  -- what `LongerSet` says of the pair
  pub kept :
      Kept (set_objects setting sheet bytes) (set_objects setting longer_sheet longer_bytes) (mem arena) (mem arena')
