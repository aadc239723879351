-- Document 01's program, from the bytes of its input to the bytes that it prints. "Relocated bytes and report": "A program reads from standard
-- input a 32-bit little-endian sheet word count, the sheet (its words little-endian too) and the bytes, and binds leniently at 0x10000000 in
-- 32,768 bytes with 1,024 report words; input cut short or over 65,536 bytes is refusal 1. It prints each report word before the first 0 as
-- eight lower-case hexadecimal digits on its line, or `refused N object M` in decimal." Assumes nothing.
use Rattle.std.specs.Prelude.{ℕ, zero, suc, ◌+◌, ◌-◌, ◌*◌, ◌/◌, ◌%◌, ◌^◌, ◌≤◌, min, ◌≡◌, Bool, List, [], ◌∷◌, ◌++◌, leb, ltb, length, take, drop, Err}
use Rattle.words.specs.Choice.{pick, both}
use Rattle.words.specs.Memory.{mem, tab, patch}
use Rattle.words.specs.Words.{le_at}
use Rattle.words.specs.Names.{until_zero}
use Rattle.binder.specs.declared.Policy.TheVariants.{Lenient}
use Rattle.binder.specs.Setting.{supplied_at}
use Rattle.binder.specs.Bind.{Outcome, outcome, refused_bind, bind_of}
use Rattle.binder.specs.Verdict.{Verdict, passed}

-- ---- the numbers

abbrev pub arena_bytes : ℕ
arena_bytes = 32768

abbrev pub arena_address : ℕ
arena_address = 0x10000000

abbrev pub report_words : ℕ
report_words = 1024

abbrev pub input_limit : ℕ
input_limit = 65536

-- ---- what is read

abbrev pub count_in : List ℕ → ℕ
count_in input = le_at 4 (mem input) 0

-- word `i` of the sheet
abbrev pub word_in : List ℕ → ℕ → ℕ
word_in input i = le_at 4 (mem input) (4 + 4 * i)

-- where the bytes start
abbrev pub start_in : List ℕ → ℕ
start_in input = 4 + 4 * count_in input

-- neither cut short, within the count or within the sheet, nor over the limit
abbrev pub whole : List ℕ → Bool
whole input = both (leb (start_in input) (length input)) (leb (length input) input_limit)

-- what is answered, in an arena of `size` bytes and a report of `words` words; a refusal leaves zeros
unfoldable pub answer_to : List ℕ → ℕ → ℕ → Outcome
answer_to input size words =
    pick (whole input) (bind_of (supplied_at arena_address) (tab (count_in input) (word_in input)) (drop (start_in input) input) size Lenient words)
    (refused_bind size words 1 0)

unfoldable pub program_of : List ℕ → Outcome
program_of input = answer_to input arena_bytes report_words

-- ---- what is printed, in ASCII: 48 is '0', 97 is 'a', 10 ends a line

-- a digit below 16
unfoldable pub digit : ℕ → ℕ
digit d = pick (ltb d 10) (48 + d) (97 + (d - 10))

-- the `n` low digits of a number in a base, the highest first
unfoldable pub digits : ℕ → ℕ → ℕ → List ℕ
digits base zero v = []
digits base (suc n) v = digit (v / base ^ n % base) ∷ digits base n v

-- the least number of decimal digits that holds the number, from `k` to `k + n`
unfoldable pub width_from : ℕ → ℕ → ℕ → ℕ
width_from zero k v = k
width_from (suc n) k v = pick (ltb v (10 ^ k)) k (width_from n (suc k) v)

-- a number below 2 ^ 32 in decimal: as few digits as hold it, from 1 to 10
unfoldable pub decimal_of : ℕ → List ℕ
decimal_of v = digits 10 (width_from 9 1 v) v

unfoldable pub hex_line : ℕ → List ℕ
hex_line w = digits 16 8 w ++ (10 ∷ [])

unfoldable pub hex_lines : List ℕ → List ℕ
hex_lines [] = []
hex_lines (w ∷ ws) = hex_line w ++ hex_lines ws

-- "refused "
abbrev pub refused_text : List ℕ
refused_text = 114 ∷ 101 ∷ 102 ∷ 117 ∷ 115 ∷ 101 ∷ 100 ∷ 32 ∷ []

-- " object "
abbrev pub object_text : List ℕ
object_text = 32 ∷ 111 ∷ 98 ∷ 106 ∷ 101 ∷ 99 ∷ 116 ∷ 32 ∷ []

unfoldable pub refusal_line : ℕ → ℕ → List ℕ
refusal_line number object = refused_text ++ (decimal_of number ++ (object_text ++ (decimal_of object ++ (10 ∷ []))))

-- the lines of an answer with its report
abbrev pub answer_lines : Verdict → List ℕ → List ℕ
answer_lines passed report = hex_lines (until_zero report)
answer_lines (Err r) report = refusal_line r.number r.object

abbrev pub lines_of : Outcome → List ℕ
lines_of (outcome answer arena report) = answer_lines answer report

-- ---- where it is printed

-- a slice, and the place in it where the next byte goes
pub data Written : Type 0 where
  written : (out : List ℕ) (at : ℕ) → Written

-- the text from that place on; what does not fit is dropped
unfoldable pub print : Written → List ℕ → Written
print (written out at) text = written (patch out at (length text) (mem text)) (min (at + length text) (length out))

-- ---- all of it is printed

-- 9 bytes for each word of the report hold the lines: the part of such a slice before the next place is what the program prints
abbrev pub AllPrinted : Type 0
AllPrinted =
    (input out exit : List ℕ) (r : ℕ) → 9 * report_words ≤ length out → written exit r ≡ print (written out 0) (lines_of (program_of input))
    → take r exit ≡ lines_of (program_of input)
