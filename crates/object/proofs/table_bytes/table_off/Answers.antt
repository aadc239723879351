-- `object::table_bytes::table_off` meets its contract. Assumes nothing.
use Rattle.std.proofs.Common.{rules, ◌∙◌, ◌<◌, ◌^◌, ◌-◌, ◌+◌}
use native.Mathlib.Omega.{arith}
use Rattle.object.proofs.Ranges.{table_cut}
use Rattle.object.proofs.table_bytes.table_off.Goals as goal

pub returns : goal.returns
returns c =
    let a = c.args in
    let h : a.b.span < 2 ^ 64 = search rules in
    let e = table_cut a.b.span a.b.segments.now (a.at + a.k) a.n (2 ^ 64 - 1) (omega arith) in
    let s = c.saturating_add.ensures in
    c.table_bytes.ensures ∙ rw s e
