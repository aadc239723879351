-- What is handed in. Document 01, "What is handed in (added)", and of "Refused, in checking order" the numbers 1, 2 and 3.
-- Sums are natural numbers, so none wraps. Assumes nothing.
use Rattle.std.specs.Prelude.{ℕ, zero, suc, Result, Ok, Err, ◌+◌, ◌*◌, ◌/◌, ◌%◌, ◌^◌, Bool, true, false, List, [], ◌∷◌, leb, eqb, length, take, drop, get_or}
use Rattle.words.specs.Choice.{pick, both, some}
use Rattle.words.specs.Names.{same_bytes}
use Rattle.words.specs.declared.refusal.Refusal.{Refusal}
use Rattle.words.specs.declared.refusal.Refusal.TheVariants as refusals

-- "A sheet of 32-bit words; the top four bits are the kind, the low 28 a length in bytes."
abbrev pub kind_of : ℕ → ℕ
kind_of w = w / 2 ^ 28

abbrev pub length_in : ℕ → ℕ
length_in w = w % 2 ^ 28

-- "each library adds kind 3 (file) and kind 4 (name, 1 to 255 bytes)"
unfoldable pub pair_ok : ℕ → ℕ → Bool
pair_ok f n = both (eqb (kind_of f) 3) (both (eqb (kind_of n) 4) (both (leb 1 (length_in n)) (leb (length_in n) 255)))

-- the words of the libraries, two by two; where the second is not there, "a word missing"
unfoldable pub lib_words : List ℕ → Bool
lib_words [] = true
lib_words (f ∷ []) = false
lib_words (f ∷ (n ∷ ws)) = both (pair_ok f n) (lib_words ws)

-- how many bytes the words name
unfoldable pub total : List ℕ → ℕ
total [] = 0
total (w ∷ ws) = length_in w + total ws

-- Refusal 1: "a kind wrong for its position, a word missing, over 62 libraries, a bad name length, or a sum other than the byte slice's
-- length". "Word 0 has kind 1 (host image), word 1 kind 2 (program file)". True where it is not met; n is the byte slice's length.
unfoldable pub sheet_ok : List ℕ → ℕ → Bool
sheet_ok [] n = false
sheet_ok (h ∷ []) n = false
sheet_ok (h ∷ (p ∷ ws)) n =
    both (eqb (kind_of h) 1) (both (eqb (kind_of p) 2) (both (leb (length ws) (62 * 2)) (both (lib_words ws) (eqb (total (h ∷ (p ∷ ws))) n))))

-- "One byte slice holds all of these end to end; a file is handed on as the part of the byte slice that its word names."
unfoldable pub cut : List ℕ → List ℕ → List (List ℕ)
cut [] bs = []
cut (w ∷ ws) bs = take (length_in w) bs ∷ cut ws (drop (length_in w) bs)

-- an object as it is handed in
pub record Input : Type 0 where
  pub file : List ℕ  -- the bytes of its file; the host's are its image
  pub name : List ℕ  -- the bytes of its name; host and program have none: []

-- what stands at a number that is no object's
abbrev pub no_input : Input
no_input = record { file = []; name = [] }

-- the libraries, of the parts that follow the first two
unfoldable pub libs_of : List (List ℕ) → List Input
libs_of [] = []
libs_of (f ∷ []) = []
libs_of (f ∷ (n ∷ ps)) = record { file = f; name = n } ∷ libs_of ps

-- "Objects are numbered host 0, program 1, libraries from 2."
unfoldable pub inputs_of : List (List ℕ) → List Input
inputs_of [] = []
inputs_of (h ∷ []) = []
inputs_of (h ∷ (p ∷ ps)) = record { file = h; name = [] } ∷ (record { file = p; name = [] } ∷ libs_of ps)

-- the set of a sheet and a byte slice: its objects, by number
abbrev pub set_of : List ℕ → List ℕ → List Input
set_of sheet bytes = inputs_of (cut sheet bytes)

-- that set, or refusal 1
abbrev pub handed_in : List ℕ → List ℕ → Result (List Input) Refusal
handed_in sheet bytes = pick (sheet_ok sheet (length bytes)) (Ok (set_of sheet bytes)) (Err refusals.Sheet)

-- Refusal 2: "Arena address not a multiple of 4,096, arena over 2^28 bytes, or their sum over 2^63." True where it is not met.
unfoldable pub arena_ok : ℕ → ℕ → Bool
arena_ok size address = both (eqb (address % 4096) 0) (both (leb size (2 ^ 28)) (leb (address + size) (2 ^ 63)))

-- one of the objects has the name
abbrev pub named : List ℕ → List Input → Bool
named n os = some (λ (o : Input). same_bytes n o.name) os

-- Refusal 3: "A library name that an earlier library has (the first such object)." Of the n objects from number k on, the number of that
-- object, or 0 where there is none.
unfoldable pub duplicate_from : List Input → ℕ → ℕ → ℕ
duplicate_from os zero k = 0
duplicate_from os (suc n) k = pick (named (get_or os k no_input).name (drop 2 (take k os))) k (duplicate_from os n (k + 1))

abbrev pub duplicate_of : List Input → ℕ
duplicate_of os = duplicate_from os (length (drop 2 os)) 2
