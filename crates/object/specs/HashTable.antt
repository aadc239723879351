-- A name in an object's hash table. System V gABI, "Hash Table": nbucket, nchain, bucket, chain; "if the hashing function returns the value
-- x for some name, bucket[x%nbucket] gives an index, y, into both the symbol table and the chain table", and "chain[y] gives the next symbol
-- table entry", until "the chain entry contains the value STN_UNDEF" (0). DT_GNU_HASH text: header (nbuckets, symndx, maskwords, shift2),
-- bloom filter, buckets, hash values, whose lowest bit marks the end of a chain. Document 01, "An address for a name": "The bloom test,
-- bucket and chain go as in `HashTable::lookup`"; "exported means section not 0, binding 1 or 2, visibility 0 or 3"; "The address is
-- st_value for section 0xFFF1, else base + st_value modulo 2^64". Document 02, (c): "A search now passes over a hit that is not exported and
-- goes on in that chain". Assumes nothing.
use Rattle.std.specs.Prelude.{Bool, true, false, not, List, [], ◌∷◌, ℕ, zero, suc, ◌+◌, ◌-◌, ◌*◌, ◌/◌, ◌%◌, ◌^◌, ◌<◌, min, eqb, length, Option, Some, None}
use Rattle.std.specs.Int.Bits.{bit_or}
use Rattle.words.specs.Choice.{pick, both}
use Rattle.words.specs.Memory.{mem}
use Rattle.words.specs.Words.{le_at, sum64}
use Rattle.words.specs.Names.{same_bytes}
use Rattle.words.specs.Hash.{gnu_hash, elf_hash}
use Rattle.object.specs.declared.symbol.Symbol.{Symbol}
use Rattle.object.specs.declared.hash_tables.HashTable.{HashTable}
use Rattle.object.specs.declared.hash_tables.HashTable.TheVariants.{Without, SysV, Gnu}
use Rattle.object.specs.declared.hash_tables.View.{View}
use Rattle.object.specs.declared.hash_tables.Definition.{Definition}
use Rattle.object.specs.Symbol.{symbol_at, symbol_name, is_exported, is_absolute, is_protected}

-- ---- header, buckets, chain

-- the table at `at`, with the numbers of its header
abbrev pub sysv_at : List ℕ → ℕ → HashTable
sysv_at image at = SysV at (le_at 4 (mem image) (at + 0)) (le_at 4 (mem image) (at + 4))

abbrev pub gnu_at : List ℕ → ℕ → HashTable
gnu_at image at =
    Gnu at (le_at 4 (mem image) (at + 0)) (le_at 4 (mem image) (at + 4)) (le_at 4 (mem image) (at + 8)) (le_at 4 (mem image) (at + 12))

abbrev pub bucket_count : HashTable → ℕ
bucket_count Without = 0
bucket_count (SysV at n c) = n
bucket_count (Gnu at n symoffset b shift) = n

-- where the word of bucket `i` stands: after the header, in a GNU table after the bloom words too
abbrev pub bucket_at : HashTable → ℕ → ℕ
bucket_at Without i = 0
bucket_at (SysV at n c) i = at + (8 + 4 * i)
bucket_at (Gnu at n symoffset b shift) i = at + (16 + 8 * b + 4 * i)

-- where the chain word of symbol `s` stands: after the buckets; a GNU chain begins with the first symbol that the table has
abbrev pub chain_at : HashTable → ℕ → ℕ
chain_at Without s = 0
chain_at (SysV at n c) s = at + (8 + 4 * n + 4 * s)
chain_at (Gnu at n symoffset b shift) s = at + (16 + 8 * b + 4 * n + 4 * (s - symoffset))

-- ---- the walk of a bucket

-- whether the walk ends after a symbol with the chain word `w`
abbrev pub is_last : HashTable → ℕ → Bool
is_last Without w = true
is_last (SysV at n c) w = eqb w 0
is_last (Gnu at n symoffset b shift) w = eqb (w % 2) 1

-- the symbol after `s`, whose chain word is `w`
abbrev pub next_symbol : HashTable → ℕ → ℕ → ℕ
next_symbol Without s w = 0
next_symbol (SysV at n c) s w = w
next_symbol (Gnu at n symoffset b shift) s w = s + 1

-- how many symbols a walk has at most: one more than the chain count; in a GNU table one for each byte of the image, which has at most
-- 2^28 (demands/specs/WalksEnd: no walk of a table that is not refused is cut off)
abbrev pub fuel : List ℕ → HashTable → ℕ
fuel image Without = 0
fuel image (SysV at n c) = c + 1
fuel image (Gnu at n symoffset b shift) = min (length image) (2 ^ 28)

-- the symbols from `s` on, at most `n`
unfoldable pub walk : List ℕ → HashTable → ℕ → ℕ → List ℕ
walk image t zero s = []
walk image t (suc n) s =
    s ∷ pick (is_last t (le_at 4 (mem image) (chain_at t s))) [] (walk image t n (next_symbol t s (le_at 4 (mem image) (chain_at t s))))

-- the symbols that the walk from a bucket's word reaches; 0 is no symbol
unfoldable pub walk_from : List ℕ → HashTable → ℕ → List ℕ
walk_from image t w = pick (eqb w 0) [] (walk image t (fuel image t) w)

-- the symbols that the walk of bucket `i` reaches
abbrev pub reached : List ℕ → HashTable → ℕ → List ℕ
reached image t i = walk_from image t (le_at 4 (mem image) (bucket_at t i))

-- ---- a name

-- where the bloom word of a GNU hash stands, of `b` words
abbrev pub bloom_at : ℕ → ℕ → ℕ → ℕ
bloom_at at b g = at + (16 + 8 * (g / 64 % b))

-- both bits of the hash are set in the word
abbrev pub has_bits : ℕ → ℕ → ℕ → Bool
has_bits word shift g = both (eqb (word / 2 ^ (g % 64) % 2) 1) (eqb (word / 2 ^ (g / 2 ^ shift % 64) % 2) 1)

-- whether a name with the GNU hash `g` may be in the table: there are buckets, and the bloom word has both bits
unfoldable pub may_hold : List ℕ → HashTable → ℕ → Bool
may_hold image Without g = false
may_hold image (SysV at n c) g = not (eqb n 0)
may_hold image (Gnu at n symoffset b shift) g =
    both (not (eqb n 0)) (both (not (eqb b 0)) (has_bits (le_at 8 (mem image) (bloom_at at b g)) shift g))

-- the bucket of a name with the hashes `g` (GNU) and `e` (System V)
abbrev pub bucket_of : HashTable → ℕ → ℕ → ℕ
bucket_of Without g e = 0
bucket_of (SysV at n c) g e = e % n
bucket_of (Gnu at n symoffset b shift) g e = g % n

-- whether a chain word goes with the hash: in a GNU table it is the hash, but for the lowest bit
abbrev pub same_hash : HashTable → ℕ → ℕ → Bool
same_hash Without w g = false
same_hash (SysV at n c) w g = true
same_hash (Gnu at n symoffset b shift) w g = eqb (bit_or w 1) (bit_or g 1)

-- whether symbol `s` is a hit by name
unfoldable pub is_hit : List ℕ → ℕ → ℕ → HashTable → List ℕ → ℕ → ℕ → Bool
is_hit image symbols strings t name g s =
    both (same_hash t (le_at 4 (mem image) (chain_at t s)) g) (same_bytes (symbol_name image symbols strings s) name)

-- whether the search takes it: "A search now passes over a hit that is not exported"
unfoldable pub is_exported_hit : List ℕ → ℕ → ℕ → HashTable → List ℕ → ℕ → ℕ → Bool
is_exported_hit image symbols strings t name g s =
    both (is_hit image symbols strings t name g s) (is_exported (symbol_at image symbols s))

unfoldable pub first_in : (ℕ → Bool) → List ℕ → Option ℕ
first_in p [] = None
first_in p (s ∷ l) = pick (p s) (Some s) (first_in p l)

-- the first exported hit in the chain of the name's bucket, "that chain", for a name with the hashes `g` and `e`
unfoldable pub find_by : List ℕ → ℕ → ℕ → HashTable → List ℕ → ℕ → ℕ → Option ℕ
find_by image symbols strings t name g e =
    pick (may_hold image t g) (first_in (is_exported_hit image symbols strings t name g) (reached image t (bucket_of t g e))) None

abbrev pub lookup_by : List ℕ → View → List ℕ → ℕ → ℕ → Option ℕ
lookup_by image v name g e = find_by image v.symbols v.strings v.table name g e

abbrev pub lookup_in : List ℕ → View → List ℕ → Option ℕ
lookup_in image v name = lookup_by image v name (gnu_hash name) (elf_hash name)

-- a symbol's index is below 2^40, so that 24 times it fits a usize
abbrev pub small : Option ℕ → Type 0
small (Some s) = s < 2 ^ 40
small None = Unit {0}

-- ---- the object's answer

-- what symbol `s` says
unfoldable pub definition : ℕ → Symbol → Definition
definition s y =
    record { index = s; value = y.value; size = y.size; protected = is_protected y; absolute = is_absolute y }

-- what the symbol that was found says; "else that object has none"
unfoldable pub answer_of : List ℕ → ℕ → Option ℕ → Option Definition
answer_of image symbols None = None
answer_of image symbols (Some s) = Some (definition s (symbol_at image symbols s))

abbrev pub answer_by : List ℕ → View → List ℕ → ℕ → ℕ → Option Definition
answer_by image v name g e = answer_of image v.symbols (lookup_by image v name g e)

abbrev pub answer_in : List ℕ → View → List ℕ → Option Definition
answer_in image v name = answer_by image v name (gnu_hash name) (elf_hash name)

-- the address of a definition in an object at `base`
abbrev pub address_of : ℕ → Definition → ℕ
address_of base d = pick d.absolute d.value (sum64 base d.value)
