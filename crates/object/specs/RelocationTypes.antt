-- Relocation types, a row for each. x86-64 psABI, "Relocation Types" (value, field, calculation); document 01, "Relocated bytes and report":
-- "Types: 8 writes base + addend; 6 and 7 write the address or 0, addend unused; 5 copies the smaller of the two symbols' sizes; the rest are
-- passed over", "type 0 excepted"; refusal 16, "Type 37"; document 02, (b): "Types 1 (S + A, 64 bits), 24 (S + A - P, 64 bits), 2 (S + A - P,
-- signed 32), 10 (S + A, unsigned 32) and 11 (S + A, signed 32) are applied, S found as for type 6, P the place. Sums wrap at 64 bits"; (f): "64
-- words that they edit, word t holding kind 9 (apply), 10 (pass) or 11 (refuse) and t below it"; refusals 24 and 25. No other definition lists
-- types. Assumes nothing.
use Rattle.std.specs.Prelude.{Bool, true, not, List, [], ◌∷◌, ℕ, ◌+◌, ◌-◌, ◌*◌, ◌^◌, eqb, leb, ltb, length, get_or}
use Rattle.words.specs.Choice.{pick, both, either, some}
use Rattle.words.specs.Memory.{tab}
use Rattle.words.specs.Words.{sum64, diff64}

-- what is searched for the name of the entry's symbol: nothing, and the symbol is not looked at; or the scope of `resolve_symbol_address`, for a
-- symbol whose index passes the test
pub data Search : Type 0 where
  no_search : Search
  in_scope : (searched : ℕ → Bool) → Search

-- every symbol; document 02: "For these types symbol 0 gives S = 0 without a search and is not undefined"
abbrev pub every_symbol : ℕ → Bool
every_symbol index = true

abbrev pub not_symbol0 : ℕ → Bool
not_symbol0 index = not (eqb index 0)

-- what is written: a width in bytes, the number whose lowest bytes are written, of the symbol's address S, which is 0 where none was
-- found or searched, the addend A, the object's base B and the place's address P, and the numbers that it can be
pub record Calculation : Type 0 where
  pub width : ℕ
  pub value : (S A B P : ℕ) → ℕ
  pub fits : ℕ → Bool

-- what an entry of a type does: nothing; nothing but a word of the report; refusal 16; refusal 25; a COPY, which searches libraries, then host;
-- a write
pub data Row : Type 0 where
  ignored : Row
  passed_over : Row
  turned_away : Row
  marked_refuse : Row
  copies : Row
  writes : (sought : Search) (calculation : Calculation) → Row

-- "a 32-bit result must be that sum, read as unsigned for type 10 and as signed for 2 and 11"
abbrev pub fits_unsigned32 : ℕ → Bool
fits_unsigned32 v = ltb v (2 ^ 32)

abbrev pub fits_signed32 : ℕ → Bool
fits_signed32 v = either (ltb v (2 ^ 31)) (leb (2 ^ 64 - 2 ^ 31) v)

-- psABI: word64, 8 bytes; word32, 4 bytes
abbrev pub word64 : ((S A B P : ℕ) → ℕ) → Calculation
word64 value = record { width = 8; value = value; fits = λ v. true }

abbrev pub unsigned32 : ((S A B P : ℕ) → ℕ) → Calculation
unsigned32 value = record { width = 4; value = value; fits = fits_unsigned32 }

abbrev pub signed32 : ((S A B P : ℕ) → ℕ) → Calculation
signed32 value = record { width = 4; value = value; fits = fits_signed32 }

-- ---- the types that may be applied

-- R_X86_64_64 1, PC32 2, COPY 5, GLOB_DAT 6, JUMP_SLOT 7, RELATIVE 8, 32 10, 32S 11, PC64 24; no other type is applied
unfoldable pub applied_row : ℕ → Row
applied_row rtype =
    pick (eqb rtype 1) (writes (in_scope not_symbol0) (word64 (λ S A B P. sum64 S A)))
    (pick (eqb rtype 2) (writes (in_scope not_symbol0) (signed32 (λ S A B P. diff64 (sum64 S A) P)))
    (pick (eqb rtype 5) copies
    (pick (eqb rtype 6) (writes (in_scope every_symbol) (word64 (λ S A B P. S)))
    (pick (eqb rtype 7) (writes (in_scope every_symbol) (word64 (λ S A B P. S)))
    (pick (eqb rtype 8) (writes no_search (word64 (λ S A B P. sum64 B A)))
    (pick (eqb rtype 10) (writes (in_scope not_symbol0) (unsigned32 (λ S A B P. sum64 S A)))
    (pick (eqb rtype 11) (writes (in_scope not_symbol0) (signed32 (λ S A B P. sum64 S A)))
    (pick (eqb rtype 24) (writes (in_scope not_symbol0) (word64 (λ S A B P. diff64 (sum64 S A) P))) passed_over))))))))

-- "Only types 1, 2, 5 to 8, 10, 11 and 24 may be applied"
unfoldable pub may_apply : ℕ → Bool
may_apply rtype = some (eqb rtype) (1 ∷ 2 ∷ 5 ∷ 6 ∷ 7 ∷ 8 ∷ 10 ∷ 11 ∷ 24 ∷ [])

-- ---- the words of the types

-- a word: the top four bits are the kind, the low 28 the type
abbrev pub type_word : ℕ → ℕ → ℕ
type_word kind rtype = kind * 2 ^ 28 + rtype

-- what an entry does whose type has that word: kind 9, apply; 10, pass, "type 0 excepted" from the report; 11, refuse: "Type 37 marked refuse
-- keeps number 16", any other type is 25. "Types above 63 are passed over"
unfoldable pub row_under : ℕ → ℕ → Row
row_under word rtype =
    pick (ltb rtype 64)
    (pick (eqb word (type_word 9 rtype)) (applied_row rtype)
    (pick (eqb word (type_word 10 rtype)) (pick (eqb rtype 0) ignored passed_over) (pick (eqb rtype 37) turned_away marked_refuse)))
    passed_over

unfoldable pub row_in : List ℕ → ℕ → Row
row_in words rtype = row_under (get_or words rtype 0) rtype

-- not 24: "not 64 words, a word of another kind or type, or apply at any other type"
abbrev pub word_ok : ℕ → ℕ → Bool
word_ok rtype word =
    either (both (eqb word (type_word 9 rtype)) (may_apply rtype)) (either (eqb word (type_word 10 rtype)) (eqb word (type_word 11 rtype)))

-- the words from type `rtype` on
unfoldable pub words_ok : ℕ → List ℕ → Bool
words_ok rtype [] = true
words_ok rtype (word ∷ words) = both (word_ok rtype word) (words_ok (rtype + 1) words)

unfoldable pub types_ok : List ℕ → Bool
types_ok words = both (eqb (length words) 64) (words_ok 0 words)

-- the words that stand for the list of types of document 01 and document 02, (b): apply what may be applied, refuse 37, pass all others
abbrev pub supplied_word : ℕ → ℕ
supplied_word rtype = type_word (pick (may_apply rtype) 9 (pick (eqb rtype 37) 11 10)) rtype

unfoldable pub supplied_types : List ℕ
supplied_types = tab 64 supplied_word
