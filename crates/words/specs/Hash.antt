-- The two hashes of a symbol's name, as folds over its bytes. Assumes nothing.
use Rattle.std.specs.Prelude.{ℕ, ◌+◌, ◌-◌, ◌*◌, ◌/◌, ◌%◌, ◌^◌, List, bit_and, bit_xor}
use Rattle.std.specs.List.{fold}

-- DT_GNU_HASH text, "Hash Function": h = h * 33 + c in 32 bits, from 5381.
-- Document 01: "from 5381, hash times 33 plus the byte, modulo 2^32"
abbrev pub gnu_step : ℕ → ℕ → ℕ
gnu_step h b = (h * 33 + b) % 2 ^ 32

unfoldable pub gnu_hash : List ℕ → ℕ
gnu_hash name = fold gnu_step 5381 name

-- System V gABI, "Hash Table", the hashing function, in 32 bits:
--     h = (h << 4) + *name++;  if (g = h & 0xf0000000) h ^= g >> 24;  h &= ~g;
abbrev pub elf_mix : ℕ → ℕ
elf_mix h = bit_and (bit_xor h (bit_and h 0xf0000000 / 2 ^ 24)) (2 ^ 32 - 1 - bit_and h 0xf0000000)

abbrev pub elf_step : ℕ → ℕ → ℕ
elf_step h b = elf_mix ((h * 2 ^ 4 % 2 ^ 32 + b) % 2 ^ 32)

unfoldable pub elf_hash : List ℕ → ℕ
elf_hash name = fold elf_step 0 name
