-- `binder::relocate::run_relatives` meets its contract. Assumes nothing.
use Rattle.std.proofs.Common.{arith}
use Rattle.binder.proofs.RelativeLaws.{relatives_passed}
use Rattle.binder.proofs.relocate.run_relatives.Goals as goal

pub returns : goal.returns
returns c =
    let a = c.args in
    let s = c.relatives in
    let g = c.in_reach.ensures c.if-not-in_reach.false in (
      s.ensures.0,
      s.ensures.1,
      relatives_passed a.links.now (c.applies_relative.ensures c.if-not-applies_relative.false) a.t a.at a.n a.w.low a.w.high g.entries
          a.start s.result a.arena.now s.new.part s.ensures.0 s.ensures.1 (omega (arith, g.span)) s.ensures.2,
    )
