use Rattle.std.proofs.Common.{refl, arith}
use Rattle.binder.proofs.KeptLaws.{kept_none}
use Rattle.binder.proofs.SymbolicLaws.{many_passed}
use Rattle.binder.proofs.relocate.run_many.Goals as goal

pub returns-then-not-is_symbolic : goal.returns-then-not-is_symbolic
returns-then-not-is_symbolic c =
    let a = c.args in
    let x = a.x.now in
    let f = c.run_relatives-next in (
      f.ensures.0,
      f.ensures.1,
      rw c.in-Some.is
          (many_passed x.links.now x.turn a.y a.at a.n c.in-Some.w a.arena.now f.new.arena f.new.arena a.s f.result (record { next = f.result; kept = a.s.kept }) f.ensures.2
          (λ r _ _ _ _ _. (refl, kept_none _ r _))),
    )

pub returns : goal.returns
returns c =
    let a = c.args in
    let x = a.x.now in
    let f = c.run_relatives-next in
    let s = c.symbolics in (
      omega (arith, f.ensures.0, s.ensures.0),
      s.ensures.1,
      rw c.in-Some.is (many_passed x.links.now x.turn a.y a.at a.n c.in-Some.w a.arena.now f.new.arena s.new.arena a.s f.result s.result f.ensures.2 s.ensures.2),
    )
