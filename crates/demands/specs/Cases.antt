-- Document 01, "Proved cases": one table, over the definitions that the contracts of `bind` and `query` rest on. Words in quotes are
-- document 01's. Names are lists of bytes: "a" is 97, "b" 98. Assumes nothing.
use Rattle.std.specs.Prelude.{◌≡◌, List, [], ◌∷◌, ℕ, ◌-◌, ◌^◌, eqb, Some}
use Rattle.words.specs.Choice.{pick}
use Rattle.words.specs.Hash.{elf_hash, gnu_hash}
use Rattle.model.specs.Objects.{fixed}
use Rattle.model.specs.Order.{order_of}
use Rattle.object.specs.declared.hash_tables.HashTable.{HashTable}
use Rattle.object.specs.RelocationTypes.{applied_row}
use Rattle.object.specs.Entries.{relr_words, place, none}
use Rattle.object.specs.SymbolCount.{count_of}
use Rattle.object.specs.Record.{Record}
use Rattle.binder.specs.Instance.{entry_of}

-- the needs of the cases on order: library 2 has some, library 3 has some, no other has any
abbrev pub needs : List ℕ → List ℕ → ℕ → List ℕ
needs two three k = pick (eqb k 2) two (pick (eqb k 3) three [])

-- clause d: "The cases below form one table proved together"
pub record Cases : Type 0 where
  -- "elf hash: "" 0; "ab" 0x672; "aaaaaaa" 0x07777711"
  pub elf_empty : elf_hash [] ≡ 0
  pub elf_ab : elf_hash (97 ∷ 98 ∷ []) ≡ 0x672
  pub elf_aaaaaaa : elf_hash (97 ∷ 97 ∷ 97 ∷ 97 ∷ 97 ∷ 97 ∷ 97 ∷ []) ≡ 0x07777711
  -- "GNU: "" 5381; "a" 177670; "ab" 5863208"
  pub gnu_empty : gnu_hash [] ≡ 5381
  pub gnu_a : gnu_hash (97 ∷ []) ≡ 177670
  pub gnu_ab : gnu_hash (97 ∷ 98 ∷ []) ≡ 5863208
  -- "RELR 0x1000, 0x5, 0x3: words 0x1000, 0x1010, 0x1200"
  pub relr_odd : relr_words none (0x1000 ∷ 0x5 ∷ 0x3 ∷ []) ≡ place 0x1000 ∷ place 0x1010 ∷ place 0x1200 ∷ []
  -- "RELR 0x1000, 0x1: only 0x1000"
  pub relr_empty : relr_words none (0x1000 ∷ 0x1 ∷ []) ≡ place 0x1000 ∷ []
  -- "Libraries 2 needs 3 then 4: order 4, 3, 2, 1"
  pub order_needs : order_of (needs (3 ∷ 4 ∷ []) []) 3 ≡ 4 ∷ 3 ∷ 2 ∷ 1 ∷ []
  -- "2 and 3 need each other: 3, 2, 1"
  pub order_cycle : order_of (needs (3 ∷ []) (2 ∷ [])) 2 ≡ 3 ∷ 2 ∷ 1 ∷ []
  -- "No libraries: 1"; whatever the needs
  pub order_none : (ns : ℕ → List ℕ) → order_of ns 0 ≡ 1 ∷ []
  -- "Strings 0x400, symbols 0x2B0: 14 symbols"; whatever the image and the hash table
  pub symbol_count :
      (image : List ℕ) (t : HashTable) → count_of image (record { symbols = 0x2B0; strings = 0x400; table = t }) ≡ Some 14
  -- "Base 0x10004000, addend -8: 0x10003FF8": what an entry of type 8 writes, whatever its object, its place and its symbol field; -8 in
  -- 64 bits is 2^64 - 8
  pub relative :
      (image : List ℕ) (r : Record) (p s : ℕ)
      → entry_of applied_row image r 0x10004000 (record { place = p; rtype = 8; symbol = s; addend = 2 ^ 64 - 8 }) ≡ fixed p 8 0x10003FF8
