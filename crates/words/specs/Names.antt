-- Names. System V gABI, "String Table": a string table section holds null-terminated character sequences, and a string is referred to
-- by an index into it. Document 01: "A name is given back as the part of the image before its zero byte". Assumes nothing.
use Rattle.std.specs.Prelude.{ℕ, Bool, true, false, List, [], ◌∷◌, drop, ◌==◌}
use Rattle.words.specs.Choice.{pick, both}

-- the bytes before the first 0, or all where there is none
unfoldable pub until_zero : List ℕ → List ℕ
until_zero [] = []
until_zero (b ∷ bs) = pick (b == 0) [] (b ∷ until_zero bs)

-- the name at the offset `at` of an image
abbrev pub name_at : List ℕ → ℕ → List ℕ
name_at image at = until_zero (drop at image)

-- whether two names are equal, byte for byte
unfoldable pub same_bytes : List ℕ → List ℕ → Bool
same_bytes [] [] = true
same_bytes [] (b ∷ bs) = false
same_bytes (a ∷ r) [] = false
same_bytes (a ∷ r) (b ∷ bs) = both (a == b) (same_bytes r bs)
