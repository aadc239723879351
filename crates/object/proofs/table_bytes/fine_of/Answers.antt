-- `object::table_bytes::fine_of` meets its contract. Assumes nothing.
use Rattle.object.specs.TableBytes.{is_table}
use Rattle.object.proofs.FineLaws.{tables_runs}
use Rattle.object.proofs.table_bytes.fine_of.Goals as goal

pub returns : goal.returns
returns c =
    let a = c.args in
    rw c.saturating_sub.ensures (tables_runs a.image.now (is_table a.b.span (a.b.segments.now)) a.symbols a.strings a.b.span _ _ _ _ c.run_from-one.ensures c.run_from-two.ensures)
