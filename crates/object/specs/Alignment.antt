-- The alignment that an object asks for, and refusal 21. System V gABI, "Program Header" (p_align: "Values 0 and 1 mean no alignment is
-- required. Otherwise, p_align should be a positive, integral power of 2"); document 02, (a). Assumes nothing.
use Rattle.std.specs.Prelude.{Bool, List, [], ◌∷◌, ℕ, zero, suc, ◌^◌, max, eqb, leb}
use Rattle.words.specs.Choice.{both, either}
use Rattle.words.specs.Page.{page_size}
use Rattle.object.specs.declared.program_header.Segment.{Segment}

-- the number is 1, 2, 4, .. or 2 ^ k
unfoldable pub power_up_to : ℕ → ℕ → Bool
power_up_to zero n = eqb n 1
power_up_to (suc k) n = either (eqb n (2 ^ suc k)) (power_up_to k n)

-- a power of two, of 64 bits
abbrev pub power_of_two : ℕ → Bool
power_of_two n = power_up_to 63 n

-- not 21: "a PT_LOAD p_align .. other than 0 that is no power of two or is over 2,097,152"
unfoldable pub align_ok : Segment → Bool
align_ok s = either (eqb s.align 0) (both (power_of_two s.align) (leb s.align 2097152))

-- "the largest p_align of its PT_LOAD headers, where 0 or 1 counts as 4,096 and 4,096 is the least"
unfoldable pub align_of : List Segment → ℕ
align_of [] = page_size
align_of (s ∷ ss) = max s.align (align_of ss)
