use Rattle.start_stop.proofs.RowLaws.{read_next}
use Rattle.std.proofs.Common.{arith, slice_set, length-set, ap}
use Rattle.start_stop.proofs.rows.read_rows.Goals as goal

pub loop-k-preserved : goal.loop-k-preserved
loop-k-preserved c =
    let a = c.args in
    let l = c.loop-k in
    (simp length-set l.invariant.0, read_next a.set.now a.arena.now a.links.now l.rows _ l.k c.link-s.result _ _ (omega (arith, l.invariant.0, c.len-k-end.ensures.high, c.loop-k-test.true)) c.link-s.ensures c.part_of.ensures c.file.ensures (ap (slice_set l.rows l.k) c.read_row.ensures) l.invariant.1)
