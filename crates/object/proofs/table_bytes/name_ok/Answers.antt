-- `object::table_bytes::name_ok` meets its contract. Assumes nothing.
use mathlib.Core.Path.{sym, ap, ◌∙◌}
use Prim.Native.Nat.{◌+◌}
use native.Mathlib.Omega.{arith}
use borrow.Author.Tests.{le-ltb}
use lib.ListN.{length}
use Rattle.words.specs.Names.{name_at}
use Rattle.object.specs.TableBytes.{table_name}
use Rattle.object.proofs.Ranges.{span_out}
use Rattle.object.proofs.table_bytes.name_ok.Goals as goal

pub returns-then-name-b : goal.returns-then-name-b
unfolding table_name
returns-then-name-b c =
    rw (← c.name_off-name.ensures) c.table_off.ensures

pub returns-else-name-b : goal.returns-else-name-b
unfolding table_name
returns-else-name-b c =
    let a = c.args in
    let e = ap length c.name_off-name.ensures in
    le-ltb _ _ (omega arith)
    ∙ sym (span_out a.b.span (a.b.segments.now) (a.at + a.k) (length (name_at a.image.now (a.at + a.k)) + 1) (omega arith) (omega arith))
