-- `object::table_bytes::Zeros::both_in` meets its contract. Assumes nothing.
use native.Mathlib.Omega.{arith}
use borrow.Author.Tests.{lt-leb}
use lib.ListN.{get_or}
use Rattle.object.specs.Steps.LastZero.{none_segment}
use Rattle.object.specs.TableBytes.{is_table}
use Rattle.object.proofs.LastZeroLaws.{run_start, run_end, run_turn, bytes_yes, bytes_no, name_of_run}
use Rattle.object.proofs.table_bytes.Zeros.both_in.Goals as goal

pub loop-i-init : goal.loop-i-init
loop-i-init c =
    let a = c.args in
    let z = a.self.now in (
      run_start z.image.now z.bounds.span z.bounds.segments.now a.p c.requires.0 _ z.last.1,
      run_start z.image.now z.bounds.span z.bounds.segments.now a.q c.requires.1 _ z.last.1,
    )

pub loop-i-preserved : goal.loop-i-preserved
loop-i-preserved c =
    let a = c.args in
    let z = a.self.now in
    let l = c.loop-i in
    let zero = z.last.0 l.i (omega arith) in (
      run_turn z.image.now z.bounds.span z.bounds.segments.now a.p l.i l.one.end l.one.low l.invariant.0 none_segment (omega arith)
          (get_or z.before l.i 0) c.before-one.result.end c.before-one.result.low zero c.before-one.ensures,
      run_turn z.image.now z.bounds.span z.bounds.segments.now a.q l.i l.two.end l.two.low l.invariant.1 none_segment (omega arith)
          (get_or z.before l.i 0) c.before-two.result.end c.before-two.result.low zero c.before-two.ensures,
    )

pub returns-then-k-one : goal.returns-then-k-one
returns-then-k-one c =
    let a = c.args in
    let z = a.self.now in
    let l = c.loop-i in
    let r = l.invariant.0 in
    let e = run_end z.image.now z.bounds.span z.bounds.segments.now a.p l.i l.one.end l.one.low r (omega arith) in
    let f = run_end z.image.now z.bounds.span z.bounds.segments.now a.q l.i l.two.end l.two.low l.invariant.1 (omega arith) in
    rw (bytes_yes z.image.now (is_table z.bounds.span z.bounds.segments.now) a.p l.one.end r.within a.k e (omega (arith, r.within)))
    (name_of_run z.image.now z.bounds.span z.bounds.segments.now a.q l.i l.two.end l.two.low l.invariant.1 f)

pub returns-else-k-one : goal.returns-else-k-one
returns-else-k-one c =
    let a = c.args in
    let z = a.self.now in
    let l = c.loop-i in
    let r = l.invariant.0 in
    rw (bytes_no z.image.now (is_table z.bounds.span z.bounds.segments.now) a.p l.one.end r.within a.k r.stop (omega (arith, r.within)))
    (lt-leb _ _ c.if-k-one.false)
