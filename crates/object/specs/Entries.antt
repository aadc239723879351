-- Relocation entries. System V gABI, "Relocation" (Elf64_Rela: r_offset, r_info, r_addend; ELF64_R_SYM, ELF64_R_TYPE; Elf64_Relr);
-- document 01, "Relocated bytes and report". Assumes nothing.
use Rattle.std.specs.Prelude.{List, [], ◌∷◌, ◌++◌, ℕ, zero, suc, ◌+◌, ◌*◌, ◌/◌, ◌%◌, ◌^◌, eqb}
use Rattle.words.specs.Choice.{pick}
use Rattle.words.specs.Memory.{mem}
use Rattle.words.specs.Words.{le_at}
use Rattle.object.specs.declared.relocate.Rela.{Rela}
use Rattle.object.specs.declared.relocate.Relr.{Relr}
use Rattle.object.specs.declared.relocate.Relr.TheVariants.{Address, Bitmap}

-- ---- RELA and PLT

-- entry `i` of the table at `table`: r_offset, the low and the high 32 bits of r_info (type and symbol), r_addend
unfoldable pub rela_at : List ℕ → ℕ → ℕ → Rela
rela_at image table i =
    record {
      place = le_at 8 (mem image) (table + 24 * i);
      rtype = le_at 4 (mem image) (table + (24 * i + 8));
      symbol = le_at 4 (mem image) (table + (24 * i + 12));
      addend = le_at 8 (mem image) (table + (24 * i + 16));
    }

-- `n` entries from entry `i` on
unfoldable pub relas_from : List ℕ → ℕ → ℕ → ℕ → List Rela
relas_from image table i zero = []
relas_from image table i (suc n) = rela_at image table i ∷ relas_from image table (i + 1) n

-- ---- RELR

-- entry `i` of the table at `table`
abbrev pub relr_at : List ℕ → ℕ → ℕ → ℕ
relr_at image table i = le_at 8 (mem image) (table + 8 * i)

unfoldable pub relrs_from : List ℕ → ℕ → ℕ → ℕ → List ℕ
relrs_from image table i zero = []
relrs_from image table i (suc n) = relr_at image table i ∷ relrs_from image table (i + 1) n

-- "an even entry names a word", an odd one has a bit for each of 63 words
unfoldable pub relr_of : ℕ → Relr
relr_of entry = pick (eqb (entry % 2) 0) (Address entry) (Bitmap (entry / 2))

-- where the next bitmap starts; none before any address
pub data Location : Type 0 where
  none : Location
  word : ℕ → Location

-- a word that gains base: its place, or none, "a RELR bit set before any address"
pub data Word : Type 0 where
  place : ℕ → Word
  nowhere : Word

-- the word `k` words after the location
abbrev pub word_after : Location → ℕ → Word
word_after none k = nowhere
word_after (word p) k = place (p + 8 * k)

-- an odd entry "covers the 63 words from location, which then moves past them"
abbrev pub moved : Location → Location
moved none = none
moved (word p) = word (p + 8 * 63)

-- the words of the bits that are set, of `n` bits from bit `k` on
unfoldable pub bit_words : Location → ℕ → ℕ → ℕ → List Word
bit_words location bitmap k zero = []
bit_words location bitmap k (suc n) =
    pick (eqb (bitmap / 2 ^ k % 2) 1) (word_after location k ∷ []) [] ++ bit_words location bitmap (k + 1) n

-- the words that an entry names, and the location after it: "location becomes the word after it"
abbrev pub relr_entry_words : Location → Relr → List Word
relr_entry_words location (Address p) = place p ∷ []
relr_entry_words location (Bitmap bits) = bit_words location bits 0 63

abbrev pub next_location : Location → Relr → Location
next_location location (Address p) = word (p + 8)
next_location location (Bitmap bits) = moved location

-- the words that the entries name, in order
unfoldable pub relr_words : Location → List ℕ → List Word
relr_words location [] = []
relr_words location (e ∷ es) = relr_entry_words location (relr_of e) ++ relr_words (next_location location (relr_of e)) es
