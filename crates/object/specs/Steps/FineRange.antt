-- Symbols, names and chain words that need no further test: what code keeps of a hash table for refusal 12, and of a record for refusals 14
-- and 15. Nothing that is stated of `bind` and `query` rests on it. Assumes nothing.
use Rattle.std.specs.Prelude.{Bool, true, List, ◌≡◌, ℕ, ◌+◌, ◌-◌, ◌*◌, ◌≤◌, ◌<◌}
use Rattle.object.specs.TableBytes.{table_bytes, table_name}
use Rattle.object.specs.Record.{Record, is_table_of, index_ok}

-- the first `fits` symbols of a symbol table, and a name at one of the first `ends` places of a string table, are in table bytes
pub record TablesFine (is_t : ℕ → Bool) (image : List ℕ) (symbols strings span fits ends : ℕ) : Type 0 where
  pub bytes : (s : ℕ) → s < fits → table_bytes is_t (symbols + 24 * s) 24 ≡ true
  pub names : (n : ℕ) → n < ends → table_name is_t image (strings + n) ≡ true
  -- where the symbols lie: none where the table starts past the span
  pub inside : 24 * fits ≤ span - symbols

-- the first `chained` of the words that stand `chain` places after `at` are in table bytes
abbrev pub ChainedFine : (ℕ → Bool) → ℕ → ℕ → ℕ → Type 0
ChainedFine is_t at chain chained = (d : ℕ) → d < chained → table_bytes is_t (at + (chain + 4 * d)) 4 ≡ true

-- of a record: the first `fits` symbols are below a known count and in table bytes; a name at one of the first `ends` places of the strings
-- is in table bytes
pub record FineOf (image : List ℕ) (r : Record) (fits ends : ℕ) : Type 0 where
  pub index : (s : ℕ) → s < fits → index_ok r.known s ≡ true
  pub symbols : (s : ℕ) → s < fits → table_bytes (is_table_of r) (r.symbols + 24 * s) 24 ≡ true
  pub names : (n : ℕ) → n < ends → table_name (is_table_of r) image (r.strings + n) ≡ true
  pub inside : 24 * fits ≤ r.span - r.symbols
