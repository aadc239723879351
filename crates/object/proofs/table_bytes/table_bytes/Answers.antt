-- `object::table_bytes::table_bytes` meets its contract. Assumes nothing.
use mathlib.Core.Path.{sym, ◌∙◌}
use native.Mathlib.Omega.{arith}
use borrow.Author.Tests.{lt-leb, leb-true, leb-false}
use Rattle.std.proofs.lemmas.Bool.{true≢false}
use Rattle.object.specs.TableBytes.{is_table}
use Rattle.object.proofs.Ranges.{table_none, table_all, span_out}
use Rattle.object.proofs.table_bytes.table_bytes.Goals.{then-n-b, else-n-b}
use Rattle.object.proofs.table_bytes.table_bytes.Goals as goal

pub returns-then-n-eq0 : goal.returns-then-n-eq0
returns-then-n-eq0 c =
    let a = c.args in rw c.if-n-eq0.true (sym (table_none (is_table a.b.span a.b.segments.now) a.at))

pub returns-then-at-b : goal.returns-then-at-b
returns-then-at-b c =
    let a = c.args in c.all_spare.ensures ∙ sym (table_all a.b.span a.b.segments.now a.at a.n (elim c.if-n-b.branch [
      | then-n-b w ↦ omega (arith, leb-true _ _ (sym w.value-is ∙ c.if-at-b.true))
      | else-n-b w ↦ absurd (true≢false (sym c.if-at-b.true ∙ (w.value-is ∙ lt-leb _ _ (omega arith))))
    ]))

pub returns-else-at-b : goal.returns-else-at-b
returns-else-at-b c =
    let a = c.args in (elim c.if-n-b.branch [
      | then-n-b w ↦
          let h = leb-false _ _ (sym w.value-is ∙ c.if-at-b.false) in
          c.if-at-b.false ∙ sym (span_out a.b.span a.b.segments.now a.at a.n (omega arith) (omega (arith, h)))
      | else-n-b w ↦ c.if-at-b.false ∙ (sym (span_out a.b.span a.b.segments.now a.at a.n (omega arith) (omega arith)))
    ])
