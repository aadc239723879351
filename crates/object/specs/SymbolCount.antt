-- How many symbols an object has. System V gABI, "Hash Table": "The number of symbol table entries should equal nchain". Document 01: "Symbol
-- count: where the string table lies above the symbol table, the difference divided by 24; else the SysV chain count, or one past the last
-- index of the highest GNU bucket's chain; else unknown. A GNU table with all buckets 0 gives unknown". Assumes nothing.
use Rattle.std.specs.Prelude.{List, [], ◌∷◌, ℕ, zero, suc, ◌+◌, ◌-◌, ◌/◌, max, eqb, ltb, Option, None, Some}
use Rattle.words.specs.Choice.{pick}
use Rattle.words.specs.Memory.{mem}
use Rattle.words.specs.Words.{le_at}
use Rattle.object.specs.declared.hash_tables.HashTable.{HashTable}
use Rattle.object.specs.declared.hash_tables.HashTable.TheVariants.{Without, SysV, Gnu}
use Rattle.object.specs.declared.hash_tables.View.{View}
use Rattle.object.specs.HashTable.{bucket_at, fuel, walk}

-- the largest word of the first `n` buckets
unfoldable pub highest : List ℕ → HashTable → ℕ → ℕ
highest image t zero = 0
highest image t (suc n) = max (highest image t n) (le_at 4 (mem image) (bucket_at t n))

-- the last of a list, or `d`
unfoldable pub last_reached : List ℕ → ℕ → ℕ
last_reached [] d = d
last_reached (s ∷ l) d = last_reached l s

-- one past the last index of the walk from a bucket's word; none where the word is 0
abbrev pub past_walk : List ℕ → HashTable → ℕ → Option ℕ
past_walk image t w = pick (eqb w 0) None (Some (last_reached (walk image t (fuel image t) w) w + 1))

-- what the hash table says
unfoldable pub table_count : List ℕ → HashTable → Option ℕ
table_count image Without = None
table_count image (SysV at n c) = Some c
table_count image (Gnu at n symoffset b shift) = past_walk image (Gnu at n symoffset b shift) (highest image (Gnu at n symoffset b shift) n)

unfoldable pub count_of : List ℕ → View → Option ℕ
count_of image v = pick (ltb v.symbols v.strings) (Some ((v.strings - v.symbols) / 24)) (table_count image v.table)
