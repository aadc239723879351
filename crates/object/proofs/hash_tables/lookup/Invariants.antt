-- `object::hash_tables::lookup` meets its contract. The invariant: the answer is the first exported hit of what is left of the walk. Assumes nothing.
use Rattle.std.proofs.Common.{◌≡◌, ◌+◌, ◌-◌, ◌^◌, ◌≤◌}
use Rattle.object.specs.HashTable.{find_by, first_in, is_exported_hit, walk}
use Rattle.object.proofs.hash_tables.lookup.Given as goal

abbrev pub invariant-loop : goal.invariant-loop
invariant-loop l =
    (l.end ≤ 2 ^ 32) × (l.s ≤ 2 ^ 32 + l.counter)
    × (find_by l.image l.v.symbols l.v.strings l.v.table l.name l.gnu l.elf
    ≡ first_in (is_exported_hit l.image l.v.symbols l.v.strings l.v.table l.name l.gnu) (walk l.image l.v.table (l.end - l.counter) l.s))
