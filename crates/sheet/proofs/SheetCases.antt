-- Small sets, computed: what the definitions of specs/Sheet.antt say of them. Assumes nothing.
use Prim.Native.Nat.{ℕ, ◌+◌, ◌-◌, ◌*◌, ◌^◌}
use mathlib.Core.Bool.{true, false}
use mathlib.Core.Path.{◌≡◌, refl}
use mathlib.Core.List.{List, [], ◌∷◌}
use Rattle.words.specs.Choice as choice
use Rattle.words.specs.Names as names
use Rattle.sheet.specs.Sheet.{pair_ok, lib_words, total, sheet_ok, cut, Input, libs_of, inputs_of, set_of, arena_ok, duplicate_from, duplicate_of}

abbrev word : ℕ → ℕ → ℕ
word kind size = kind * 2 ^ 28 + size

-- host of 2 bytes, program of 1 byte, and a library of 1 byte with a name of 1 byte
abbrev sheet : List ℕ
sheet = word 1 2 ∷ (word 2 1 ∷ (word 3 1 ∷ (word 4 1 ∷ [])))

pub set : set_of sheet (10 ∷ (11 ∷ (20 ∷ (30 ∷ (97 ∷ []))))) ≡
    record { file = 10 ∷ (11 ∷ []); name = [] } ∷ (record { file = 20 ∷ []; name = [] } ∷ (record { file = 30 ∷ []; name = 97 ∷ [] } ∷ []))
unfolding inputs_of libs_of cut
set = refl

-- refusal 1: a good sheet; one of two words, with files of no bytes; one word; a word missing; a kind at a wrong place; names of 0, 255 and
-- 256 bytes; a sum that is too large
pub good : sheet_ok sheet 5 ≡ true
unfolding sheet_ok lib_words pair_ok total
good = refl

pub empty : sheet_ok (word 1 0 ∷ (word 2 0 ∷ [])) 0 ≡ true
unfolding sheet_ok lib_words pair_ok total
empty = refl

pub one_word : sheet_ok (word 1 0 ∷ []) 0 ≡ false
unfolding sheet_ok
one_word = refl

pub missing : sheet_ok (word 1 2 ∷ (word 2 1 ∷ (word 3 2 ∷ []))) 5 ≡ false
unfolding sheet_ok lib_words pair_ok total
missing = refl

pub misplaced : sheet_ok (word 1 2 ∷ (word 2 1 ∷ (word 4 1 ∷ (word 3 1 ∷ [])))) 5 ≡ false
unfolding sheet_ok lib_words pair_ok total
misplaced = refl

pub no_name : sheet_ok (word 1 0 ∷ (word 2 0 ∷ (word 3 0 ∷ (word 4 0 ∷ [])))) 0 ≡ false
unfolding sheet_ok lib_words pair_ok total
no_name = refl

pub long_name : sheet_ok (word 1 0 ∷ (word 2 0 ∷ (word 3 0 ∷ (word 4 255 ∷ [])))) 255 ≡ true
unfolding sheet_ok lib_words pair_ok total
long_name = refl

pub longer_name : sheet_ok (word 1 0 ∷ (word 2 0 ∷ (word 3 0 ∷ (word 4 256 ∷ [])))) 256 ≡ false
unfolding sheet_ok lib_words pair_ok total
longer_name = refl

pub too_large : sheet_ok sheet 4 ≡ false
unfolding sheet_ok lib_words pair_ok total
too_large = refl

-- refusal 2: a sum of 2^63 is not refused, nor is an arena of 2^28 bytes
pub last : arena_ok (2 ^ 28) (2 ^ 63 - 2 ^ 28) ≡ true
unfolding arena_ok
last = refl

pub past : arena_ok 4097 (2 ^ 63 - 4096) ≡ false
unfolding arena_ok
past = refl

pub large : arena_ok (2 ^ 28 + 1) 0 ≡ false
unfolding arena_ok
large = refl

pub odd : arena_ok 0 2048 ≡ false
unfolding arena_ok
odd = refl

-- refusal 3: of libraries 2 to 5 with the names a, b, b, a it names 4, the later of the first two that are equal
abbrev lib : ℕ → Input
lib c = record { file = []; name = c ∷ [] }

abbrev none : Input
none = record { file = []; name = [] }

pub duplicates : duplicate_of (none ∷ (none ∷ (lib 97 ∷ (lib 98 ∷ (lib 98 ∷ (lib 97 ∷ [])))))) ≡ 4
unfolding duplicate_from choice.some names.same_bytes
duplicates = refl

pub no_duplicates : duplicate_of (none ∷ (none ∷ (lib 97 ∷ (lib 98 ∷ [])))) ≡ 0
unfolding duplicate_from choice.some names.same_bytes
no_duplicates = refl
