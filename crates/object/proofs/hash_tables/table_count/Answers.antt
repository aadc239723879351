-- `object::hash_tables::table_count` meets its contract. Assumes nothing.
use Rattle.object.specs.SymbolCount.{table_count}
use borrow.Author.Tests.{eq-eqb, ne_eqb}
use Rattle.object.proofs.hash_tables.table_count.Goals as goal

pub returns-then-h-eq0 : goal.returns-then-h-eq0
unfolding table_count
returns-then-h-eq0 c =
    let e = rw c.in-Gnu.is at c.highest_bucket-h.ensures.0 in
    rw (c.in-Gnu.is, ← e, eq-eqb _ _ c.if-h-eq0.true)

pub returns-in-Without : goal.returns-in-Without
unfolding table_count
returns-in-Without c =
    rw c.in-Without.is

pub returns-in-SysV : goal.returns-in-SysV
unfolding table_count
returns-in-SysV c =
    rw c.in-SysV.is

pub returns-else-h-eq0 : goal.returns-else-h-eq0
unfolding table_count
returns-else-h-eq0 c =
    let e = rw c.in-Gnu.is at c.highest_bucket-h.ensures.0 in
    let f = rw c.in-Gnu.is at c.walk_last.ensures.0 in
    rw (c.in-Gnu.is, ← e, ne_eqb _ _ c.if-h-eq0.false, ← f)
