-- The table of links: where each object lies, and what a lookup reads of its record. Document 01, "What must change shape": "Pointers become
-- offsets. `IndexMap` and `Vec` become fixed arrays of records"; "The object record": "The record holds which hash table was chosen, SysV or
-- GNU, with its numbers". Object k has the 16 words from 16 * k on: offset, span, symbols, strings, kind of hash table (1 SysV, 2 GNU, else
-- none), at, buckets, nchain or symoffset, bloomwords, shift; three words that only repeat what a search tests of a bloom filter (where its words stand
-- in the arena, the logarithm of their number, the shift); and three zeros. Behind the words of 64 objects stand the set's count and the arena's
-- address. Assumes nothing.
use Rattle.std.specs.Prelude.{ℕ, zero, suc, ◌+◌, ◌*◌, ◌%◌, ◌^◌, ◌≤◌, ◌<◌, List, [], ◌∷◌, Bool, ◌≡◌, eqb, leb, length, get_or}
use Rattle.std.proofs.Math.Seq.{paste}
use Rattle.words.specs.Choice.{pick, both}
use Rattle.object.specs.declared.hash_tables.HashTable.{HashTable}
use Rattle.object.specs.declared.hash_tables.HashTable.TheVariants.{Without, SysV, Gnu}
use Rattle.scope.specs.declared.links.Link.{Link}

-- ---- what the words say

-- the hash table of six words; its counts have 32 bits
abbrev pub hash_of : ℕ → ℕ → ℕ → ℕ → ℕ → ℕ → HashTable
hash_of kind at b c d e =
    pick (eqb kind 1) (SysV at (b % 2 ^ 32) (c % 2 ^ 32))
    (pick (eqb kind 2) (Gnu at (b % 2 ^ 32) (c % 2 ^ 32) (d % 2 ^ 32) (e % 2 ^ 32)) Without)

-- word `j` of object `k`; 0 past the table's end
abbrev pub word_at : List ℕ → ℕ → ℕ → ℕ
word_at table k j = get_or table (16 * k + j) 0

-- the link of object `k`
unfoldable pub link_at : List ℕ → ℕ → Link
link_at table k =
    record {
      offset = word_at table k 0;
      span = word_at table k 1;
      view =
          record {
            symbols = word_at table k 2;
            strings = word_at table k 3;
            table = hash_of (word_at table k 4) (word_at table k 5) (word_at table k 6) (word_at table k 7) (word_at table k 8) (word_at table k 9);
          };
    }

-- the `n` links from object `k` on
unfoldable pub links_from : List ℕ → ℕ → ℕ → List Link
links_from table k zero = []
links_from table k (suc n) = link_at table k ∷ links_from table (suc k) n

-- how many objects the set has, and the arena's address
abbrev pub count_in : List ℕ → ℕ
count_in table = get_or table 1024 0

abbrev pub address_in : List ℕ → ℕ
address_in table = get_or table 1025 0

-- ---- the words of a link

abbrev pub hash_words : HashTable → List ℕ
hash_words Without = 0 ∷ 0 ∷ 0 ∷ 0 ∷ 0 ∷ 0 ∷ []
hash_words (SysV a b c) = 1 ∷ a ∷ b ∷ c ∷ 0 ∷ 0 ∷ []
hash_words (Gnu a b c d e) = 2 ∷ a ∷ b ∷ c ∷ d ∷ e ∷ []

-- the counts have 32 bits, as every table's of the code
abbrev pub narrow : HashTable → Type 0
narrow Without = Unit {0}
narrow (SysV a b c) = (b < 2 ^ 32) × (c < 2 ^ 32)
narrow (Gnu a b c d e) = (b < 2 ^ 32) × (c < 2 ^ 32) × (d < 2 ^ 32) × (e < 2 ^ 32)

abbrev pub nth : List ℕ → ℕ → ℕ
nth w j = get_or w j 0

-- the first of the `tries` numbers from `k` on to which `n` is 2's power; 64 where there is none
unfoldable pub log_from : ℕ → ℕ → ℕ → ℕ
log_from zero k n = 64
log_from (suc tries) k n = pick (eqb n (2 ^ k)) k (log_from tries (k + 1) n)

-- the logarithm of a power of 2 below 2 ^ 32; 64 for any other number
unfoldable pub log_of : ℕ → ℕ
log_of n = log_from 32 0 n

-- a filter that is not tested by the three words: its logarithm is 64
abbrev pub untested : List ℕ
untested = 0 ∷ 64 ∷ 0 ∷ []

-- the bloom words are inside the span, which ends at 2 ^ 32 or below in the arena, and the shift is below 32
abbrev pub testable : ℕ → ℕ → ℕ → ℕ → ℕ → Bool
testable offset span at bloomwords shift = both (leb shift 31) (both (leb (at + (16 + 8 * bloomwords)) span) (leb (offset + span) (2 ^ 32)))

-- the three words of a GNU table's bloom filter
unfoldable pub filter_words : ℕ → ℕ → ℕ → ℕ → ℕ → List ℕ
filter_words offset span at bloomwords shift =
    pick (testable offset span at bloomwords shift) ((offset + at + 16) ∷ log_of bloomwords ∷ shift ∷ []) untested

-- only a GNU table has one
unfoldable pub filter_of : ℕ → ℕ → HashTable → List ℕ
filter_of offset span Without = untested
filter_of offset span (SysV a b c) = untested
filter_of offset span (Gnu at b symoffset bloomwords shift) = filter_words offset span at bloomwords shift

abbrev pub filter_at : Link → List ℕ
filter_at s = filter_of s.offset s.span s.view.table

unfoldable pub link_words : Link → List ℕ
link_words s =
    s.offset ∷ s.span ∷ s.view.symbols ∷ s.view.strings ∷ nth (hash_words s.view.table) 0 ∷ nth (hash_words s.view.table) 1
    ∷ nth (hash_words s.view.table) 2 ∷ nth (hash_words s.view.table) 3 ∷ nth (hash_words s.view.table) 4
    ∷ nth (hash_words s.view.table) 5 ∷ nth (filter_at s) 0 ∷ nth (filter_at s) 1 ∷ nth (filter_at s) 2 ∷ 0 ∷ 0 ∷ 0 ∷ []

-- words 10 to 12 of object `k` are those of its link
abbrev pub FilteredAt : List ℕ → ℕ → Type 0
FilteredAt table k = word_at table k 10 ∷ word_at table k 11 ∷ word_at table k 12 ∷ [] ≡ filter_at (link_at table k)

-- the same of each object below `count`
abbrev pub FilteredBelow : List ℕ → ℕ → Type 0
FilteredBelow table count = (k : ℕ) → k < count → FilteredAt table k

-- the table of a set: it has all words, at most 64 objects, and the words 10 to 12 of each are those of its link
pub record Filtered (table : List ℕ) : Type 0 where
  pub long : 1026 ≤ length table
  pub few : count_in table ≤ 64
  pub rows : FilteredBelow table (count_in table)

-- the table with 16 words from `p` on
unfoldable pub spliced : List ℕ → ℕ → List ℕ → List ℕ
spliced table p w = paste table p w 16

-- the table with the link of object `k`, where there is room for it
unfoldable pub with_link : List ℕ → ℕ → Link → List ℕ
with_link table k s = pick (leb (16 * k + 16) (length table)) (spliced table (16 * k) (link_words s)) table
