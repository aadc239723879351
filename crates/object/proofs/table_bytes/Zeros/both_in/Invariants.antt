-- `object::table_bytes::Zeros::both_in` meets its contract. The invariant: the segments before the `i`th leave of each run what is before its end. Assumes nothing.
use Rattle.object.proofs.LastZeroLaws.{RunAt}
use Rattle.object.proofs.table_bytes.Zeros.both_in.Given as goal

abbrev pub invariant-loop-i : goal.invariant-loop-i
invariant-loop-i l =
    let z = l.self in
    RunAt z.image.now z.bounds.span z.bounds.segments.now l.i l.p l.one.end l.one.low × RunAt z.image.now z.bounds.span z.bounds.segments.now l.i l.q l.two.end l.two.low
