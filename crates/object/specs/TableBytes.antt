-- Table bytes. Document 01, "The object record": "A table byte lies in its object's span and in no writable PT_LOAD's p_vaddr to
-- p_vaddr + p_memsz; for the host, anywhere in the span" (the host keeps no segments). System V gABI, "Program Header" (p_flags: PF_W
-- is 2). Assumes nothing.
use Rattle.std.specs.Prelude.{Bool, true, not, List, ◌≡◌, ℕ, ◌+◌, ◌/◌, ◌%◌, eqb, leb, ltb, length}
use Rattle.words.specs.Choice.{both, every, some, below}
use Rattle.words.specs.Memory.{mem}
use Rattle.words.specs.Names.{name_at}
use Rattle.object.specs.declared.program_header.Segment.{Segment}

-- PF_W
abbrev pub is_writable : Segment → Bool
is_writable s = eqb (s.flags / 2 % 2) 1

-- the `n` bytes from `at` lie in the segment
abbrev pub holds_range : Segment → ℕ → ℕ → Bool
holds_range s at n = both (leb s.vaddr at) (leb (at + n) (s.vaddr + s.memsz))

-- the byte at `i` is a table byte of an object with that span and those segments
unfoldable pub is_table : ℕ → List Segment → ℕ → Bool
is_table span segments i = both (ltb i span) (every (λ s. not (both (is_writable s) (holds_range s i 1))) segments)

-- the `n` bytes from `at` are table bytes
unfoldable pub table_bytes : (ℕ → Bool) → ℕ → ℕ → Bool
table_bytes is_t at n = below (λ k. is_t (at + k)) n

-- the name at `at` is in table bytes: "names count with their zero byte"
unfoldable pub table_name : (ℕ → Bool) → List ℕ → ℕ → Bool
table_name is_t image at = table_bytes is_t at (length (name_at image at) + 1)

-- document 01, refusal 17: "inside one writable PT_LOAD of its object"
unfoldable pub in_writable : List Segment → ℕ → ℕ → Bool
in_writable segments at n = some (λ s. both (is_writable s) (holds_range s at n)) segments

-- two images have the same table bytes
abbrev pub Agree : (ℕ → Bool) → List ℕ → List ℕ → Type 0
Agree is_t image image' = (i : ℕ) → is_t i ≡ true → mem image' i ≡ mem image i
