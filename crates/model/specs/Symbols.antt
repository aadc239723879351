-- Symbols, and what a search for a name yields. System V gABI, "Symbol Table" (st_value, st_size, SHN_ABS, STV_PROTECTED);
-- document 01, "An address for a name"; document 02, (c). Assumes nothing.
use Rattle.std.specs.Prelude.{Bool, List, ℕ}
use Rattle.words.specs.Choice.{pick}
use Rattle.words.specs.Words.{sum64}

-- what a search is for: a name, the bytes before the zero byte
pub record Wanted : Type 0 where
  pub name : List ℕ

abbrev pub by_name : List ℕ → Wanted
by_name name = record { name = name }

-- an exported symbol: its index in the symbol table, st_value, st_size, and whether it is protected (visibility 3), absolute (section 0xFFF1)
pub record Definition : Type 0 where
  pub index : ℕ
  pub value : ℕ
  pub size : ℕ
  pub protected : Bool
  pub absolute : Bool

-- what one object has for a name: its first exported hit. Document 02, (c): "A search now passes over a hit that is not exported and goes on
-- in that chain"; `none` where no hit is exported
pub data Exported : Type 0 where
  none : Exported
  hit : Definition → Exported

-- "The address is st_value for section 0xFFF1, else base + st_value modulo 2^64"
unfoldable pub address : ℕ → Definition → ℕ
address base s = pick s.absolute s.value (sum64 base s.value)

-- "A lookup yields an object, a symbol index and an address, or absence"
pub data Resolved : Type 0 where
  absent : Resolved
  answer : (object : ℕ) (sym : Definition) (address : ℕ) → Resolved
