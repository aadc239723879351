-- `object::hash_tables::symbol_count` meets its contract. Assumes nothing.
use Prim.Native.Nat.{◌≤◌}
use Rattle.object.specs.SymbolCount.{count_of}
use borrow.Author.Tests.{lt-ltb, le-ltb}
use native.Mathlib.Omega.{arith}
use Rattle.object.proofs.hash_tables.symbol_count.Goals as goal

pub returns-then-symbols-strings : goal.returns-then-symbols-strings
unfolding count_of
returns-then-symbols-strings c =
    rw (lt-ltb _ _ c.if-symbols-strings.true)

pub returns : goal.returns
unfolding count_of
returns c =
    let l : c.args.v.strings ≤ c.args.v.symbols = omega arith in
    rw (le-ltb _ _ l) c.table_count.ensures
