-- Which hash tables are refused. Document 01, refusal 12: "Not wholly table bytes: .. the chosen hash table (header, bloom words, buckets,
-- the SysV chain, the GNU chain words that a walk reads), or a symbol or name that the walk of any bucket, followed to its end, reaches; or
-- no buckets, no bloom word, shift over 31, a GNU bucket other than 0 below the symbol offset, a SysV walk that meets an index at or above
-- the chain count, or a walk of more symbols than that count". An object without a hash table is not refused. Assumes nothing.
use Rattle.std.specs.Prelude.{Bool, true, false, not, List, ℕ, ◌+◌, ◌*◌, eqb, leb, ltb, length}
use Rattle.words.specs.Choice.{both, either, every, below}
use Rattle.words.specs.Memory.{mem}
use Rattle.words.specs.Words.{le_at}
use Rattle.object.specs.declared.hash_tables.HashTable.{HashTable}
use Rattle.object.specs.declared.hash_tables.HashTable.TheVariants.{Without, SysV, Gnu}
use Rattle.object.specs.TableBytes.{table_bytes, table_name}
use Rattle.object.specs.HashTable.{bucket_count, bucket_at, chain_at, reached}

-- where the table starts
abbrev pub start_of : HashTable → ℕ
start_of Without = 0
start_of (SysV at n c) = at
start_of (Gnu at n symoffset b shift) = at

-- header, bloom words, buckets, the SysV chain: how many bytes they are
abbrev pub table_size : HashTable → ℕ
table_size Without = 0
table_size (SysV at n c) = 8 + 4 * n + 4 * c
table_size (Gnu at n symoffset b shift) = 16 + 8 * b + 4 * n

-- not: no buckets, no bloom word, shift over 31
unfoldable pub numbers_ok : HashTable → Bool
numbers_ok Without = true
numbers_ok (SysV at n c) = not (eqb n 0)
numbers_ok (Gnu at n symoffset b shift) = both (not (eqb n 0)) (both (not (eqb b 0)) (leb shift 31))

-- not: a GNU bucket other than 0 below the symbol offset
unfoldable pub bucket_ok : HashTable → ℕ → Bool
bucket_ok Without w = true
bucket_ok (SysV at n c) w = true
bucket_ok (Gnu at n symoffset b shift) w = either (eqb w 0) (leb symoffset w)

-- not: a SysV walk of more symbols than the chain count
unfoldable pub length_ok : HashTable → ℕ → Bool
length_ok Without k = true
length_ok (SysV at n c) k = leb k c
length_ok (Gnu at n symoffset b shift) k = true

-- a SysV index is below the chain count; a GNU chain word that a walk reads is in table bytes
unfoldable pub chain_ok : (ℕ → Bool) → HashTable → ℕ → Bool
chain_ok is_t Without s = false
chain_ok is_t (SysV at n c) s = ltb s c
chain_ok is_t (Gnu at n symoffset b shift) s = table_bytes is_t (chain_at (Gnu at n symoffset b shift) s) 4

-- a symbol and its name are in table bytes (refusal 15 too)
unfoldable pub symbol_ok : (ℕ → Bool) → List ℕ → ℕ → ℕ → ℕ → Bool
symbol_ok is_t image symbols strings s =
    both (table_bytes is_t (symbols + 24 * s) 24) (table_name is_t image (strings + le_at 4 (mem image) (symbols + 24 * s)))

-- what is asked of each symbol that a walk reaches
abbrev pub step_ok : (ℕ → Bool) → List ℕ → ℕ → ℕ → HashTable → ℕ → Bool
step_ok is_t image symbols strings t s = both (chain_ok is_t t s) (symbol_ok is_t image symbols strings s)

-- the walk of bucket `i`
unfoldable pub walk_ok : (ℕ → Bool) → List ℕ → ℕ → ℕ → HashTable → ℕ → Bool
walk_ok is_t image symbols strings t i =
    both (bucket_ok t (le_at 4 (mem image) (bucket_at t i)))
    (both (length_ok t (length (reached image t i))) (every (step_ok is_t image symbols strings t) (reached image t i)))

-- the table is not refused
unfoldable pub table_ok : (ℕ → Bool) → List ℕ → ℕ → ℕ → HashTable → Bool
table_ok is_t image symbols strings t =
    both (numbers_ok t)
    (both (table_bytes is_t (start_of t) (table_size t)) (below (walk_ok is_t image symbols strings t) (bucket_count t)))
