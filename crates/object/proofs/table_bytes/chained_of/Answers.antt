-- `object::table_bytes::chained_of` meets its contract. Assumes nothing.
use Rattle.object.specs.TableBytes.{is_table}
use Rattle.object.proofs.FineLaws.{chained_runs}
use Rattle.object.proofs.table_bytes.chained_of.Goals as goal

pub returns : goal.returns
returns c =
    let a = c.args in
    chained_runs a.image.now (is_table a.b.span (a.b.segments.now)) a.b.span a.at a.chain _ _ c.run_from-one.ensures
