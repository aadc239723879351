-- Memory as a function from an offset to the byte that stands there, and the bytes of a slice as such a memory.
-- The System V gABI speaks of bytes at offsets and addresses ("Data Representation"); document 01 says "past the file's end they are 0".
-- A read past the end of a slice is 0, and a write past it is dropped, so no definition carries a length. Assumes nothing.
use Rattle.std.specs.Prelude.{ℕ, zero, suc, ◌+◌, ◌-◌, ◌<◌, ◌≤◌, Bool, List, [], ◌∷◌, length, nat_le, nat_lt, slice_index}
use Rattle.words.specs.Choice.{pick, both}

abbrev pub Mem : Type 0
Mem = ℕ → ℕ

-- the bytes of a slice; 0 past its end
unfoldable pub mem : List ℕ → Mem
mem xs i = slice_index xs i

-- the first `n` bytes of a memory, as a list
unfoldable pub tab : ℕ → Mem → List ℕ
tab zero m = []
tab (suc n) m = m 0 ∷ tab n (λ i. m (suc i))

-- the memory from the offset `off` on
abbrev pub from : ℕ → Mem → Mem
from off m = λ i. m (off + i)

-- the offset `i` is one of the `n` from `at`
abbrev pub In : ℕ → ℕ → ℕ → Type 0
In at n i = (at ≤ i) × (i < at + n)

abbrev pub inside : ℕ → ℕ → ℕ → Bool
inside at n i = both (nat_le at i) (nat_lt i (at + n))

-- the `n` bytes from `at` become f 0, f 1, ..; all others stay
unfoldable pub write : Mem → ℕ → ℕ → (ℕ → ℕ) → Mem
write m at n f i = pick (inside at n i) (f (i - at)) (m i)

-- a slice's bytes after such a write: what falls past the end is dropped
unfoldable pub patch : List ℕ → ℕ → ℕ → (ℕ → ℕ) → List ℕ
patch xs at n f = tab (length xs) (write (mem xs) at n f)
