-- `object::hash_tables::walk_last` meets its contract. The invariant: the last symbol is that of what is left of the walk. Assumes nothing.
use Rattle.std.proofs.Common.{◌≡◌, ◌+◌, ◌-◌, ◌^◌, ◌≤◌}
use Rattle.object.specs.HashTable.{walk, fuel}
use Rattle.object.specs.SymbolCount.{last_reached}
use Rattle.object.proofs.hash_tables.walk_last.Given as goal

abbrev pub invariant-loop : goal.invariant-loop
invariant-loop l =
    (l.end ≤ 2 ^ 32) × (l.s ≤ 2 ^ 32 + l.counter) × (l.last ≤ 2 ^ 33)
    × (last_reached (walk l.image l.t (fuel l.image l.t) l.word) l.word ≡ last_reached (walk l.image l.t (l.end - l.counter) l.s) l.last)
