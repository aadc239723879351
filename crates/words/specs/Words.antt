-- Numbers in memory. System V gABI, "Data Representation" and "ELF Identification" (ELFDATA2LSB: the least significant byte has the
-- lowest address); document 01, "address sums wrap likewise on u64". Assumes nothing.
use Rattle.std.specs.Prelude.{ℕ, zero, suc, ◌+◌, ◌-◌, ◌*◌, ◌/◌, ◌%◌, ◌^◌}
use Rattle.words.specs.Memory.{Mem}

-- the number that the `n` bytes from `at` make, the lowest first
unfoldable pub le_at : ℕ → Mem → ℕ → ℕ
le_at zero m at = 0
le_at (suc n) m at = le_at n m at + 256 ^ n * m (at + n)

-- byte `k` of a number, the lowest first
unfoldable pub byte_of : ℕ → ℕ → ℕ
byte_of v k = v / 256 ^ k % 256

-- a sum of addresses, modulo 2^64
abbrev pub sum64 : ℕ → ℕ → ℕ
sum64 a b = (a + b) % 2 ^ 64

-- a difference of addresses, modulo 2^64
abbrev pub diff64 : ℕ → ℕ → ℕ
diff64 a b = (a + (2 ^ 64 - b % 2 ^ 64)) % 2 ^ 64
