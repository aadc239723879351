-- The last zero byte before a place, and runs of table bytes, for the check that reads no name twice. Only private functions and
-- `table_bytes` cite it. Assumes nothing.
use Rattle.std.specs.Prelude.{Bool, true, false, List, ◌⊎◌, ◌≡◌, ℕ, ◌-◌, ◌≤◌, ◌<◌, min, length, get_or}
use Rattle.words.specs.Choice.{both}
use Rattle.words.specs.Memory.{Mem}
use Rattle.object.specs.declared.program_header.Segment.{Segment}
use Rattle.object.specs.TableBytes.{is_writable, holds_range}

-- `r` is one past the last zero byte before `end`, or 0 where there is none
pub record LastZero (m : Mem) (end r : ℕ) : Type 0 where
  pub within : r ≤ end
  pub none : (q : ℕ) → r ≤ q → q < end → m q ≡ 0 → ⊥
  pub zero : 0 < r → m (r - 1) ≡ 0

-- so for each segment's first byte, and for the end of the span
abbrev pub none_segment : Segment
none_segment = record { vaddr = 0; memsz = 0; offset = 0; filesz = 0; flags = 0; align = 0 }

abbrev pub LastZeros : Mem → ℕ → List Segment → List ℕ → ℕ → Type 0
LastZeros m span segments zeros end =
    ((i : ℕ) → i < length segments → LastZero m (min (get_or segments i none_segment).vaddr span) (get_or zeros i 0)) × LastZero m span end

-- the byte at `i` is in the segment, and it is writable
abbrev pub spoils : Segment → ℕ → Bool
spoils s i = both (is_writable s) (holds_range s i 1)

-- what the segment leaves of the run from `p` to `end`: all of it, or what is before the segment, or nothing
abbrev pub Nearer : Segment → ℕ → ℕ → ℕ → ℕ → ℕ → ℕ → Type 0
Nearer s p end low z end' low' =
    ((q : ℕ) → p ≤ q → q < end' → spoils s q ≡ false)
    × (((end' ≡ end) × (low' ≡ low))
    ⊎ (((end' ≡ p) × (low' ≡ 0) × (spoils s p ≡ true))
    ⊎ ((end' ≡ s.vaddr) × (low' ≡ z) × (p < s.vaddr) × (s.vaddr < end) × (spoils s s.vaddr ≡ true))))

-- the bytes from `p` to `end` are table bytes, and `low` is one past the last zero byte before the end
pub record RunOf (is_t : ℕ → Bool) (m : Mem) (span p end low : ℕ) : Type 0 where
  pub within : p ≤ end
  pub inside : end ≤ span
  pub bytes : (q : ℕ) → p ≤ q → q < end → is_t q ≡ true
  pub last : LastZero m end low
