-- Places that need no further test of refusal 17: what code keeps of a writable segment that it found. Nothing that is stated of `bind` and
-- `query` rests on it. Assumes nothing.
use Rattle.std.specs.Prelude.{true, List, ◌≡◌, ℕ, ◌+◌, ◌≤◌, ◌<◌}
use Rattle.object.specs.TableBytes.{in_writable}
use Rattle.object.specs.declared.program_header.Segment.{Segment}

-- whatever lies between `low` and `high` lies in one writable segment
abbrev pub WritableRange : List Segment → ℕ → ℕ → Type 0
WritableRange segments low high = (at n : ℕ) → low ≤ at → at + n ≤ high → 0 < n → in_writable segments at n ≡ true
