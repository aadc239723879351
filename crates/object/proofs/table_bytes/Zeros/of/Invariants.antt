-- `object::table_bytes::Zeros::of` meets its contract. The invariant: the first `i` places are right. Assumes nothing.
use mathlib.Core.Path.{◌≡◌}
use Prim.Native.Nat.{ℕ, ◌<◌, min}
use lib.ListN.{length, get_or}
use Rattle.words.specs.Memory.{mem}
use Rattle.object.specs.Steps.LastZero.{LastZero, none_segment}
use Rattle.object.proofs.table_bytes.Zeros.of.Given as goal

abbrev pub invariant-loop-i : goal.invariant-loop-i
invariant-loop-i l =
    (length l.before ≡ 16) × ((j : ℕ) → j < l.i → LastZero (mem l.image) (min (get_or l.bounds.segments.now j none_segment).vaddr l.bounds.span) (get_or l.before j 0))
