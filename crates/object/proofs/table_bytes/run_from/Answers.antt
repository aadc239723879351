-- `object::table_bytes::run_from` meets its contract. Assumes nothing.
use native.Mathlib.Omega.{arith}
use lib.ListN.{get_or}
use Rattle.object.specs.Steps.LastZero.{none_segment}
use Rattle.object.proofs.LastZeroLaws.{rest_start, rest_turn, rest_end, nearer_within}
use Rattle.object.proofs.table_bytes.run_from.Goals as goal

pub loop-s-init : goal.loop-s-init
loop-s-init c =
    let a = c.args in (omega arith, omega arith, rest_start a.b.span a.b.segments.now a.p)

pub loop-s-preserved : goal.loop-s-preserved
loop-s-preserved c =
    let a = c.args in
    let l = c.loop-s in
    let r = c.before-run.result in
    let w = nearer_within (get_or a.b.segments.now l.s-index none_segment) a.p l.run.end l.run.low 0 r.end r.low l.invariant.0 c.before-run.ensures in (
      w.0,
      omega (arith, w.1),
      rest_turn a.b.span a.b.segments.now a.p l.s-index l.run.end r.end none_segment (omega arith) l.invariant.2 w.1 c.before-run.ensures.0,
    )

pub returns : goal.returns
returns c =
    let a = c.args in
    let l = c.loop-s in record {
      within = l.invariant.0;
      inside = l.invariant.1;
      bytes = rest_end a.b.span a.b.segments.now a.p l.s-index l.run.end l.invariant.2 (omega arith);
      last = c.last_zero.ensures;
    }
