-- `binder::prepare::prepare_to_bind` meets its contract. Assumes nothing.
use Rattle.std.proofs.Common.{arith}
use Rattle.std.proofs.lemmas.Result.{err_from_is_err_and}
use Rattle.binder.proofs.OutcomeLaws.{refused_not}
use Rattle.binder.proofs.TypesLaws.{made, all_words, made_put, rows_put}
use Rattle.binder.proofs.prepare.prepare_to_bind.Goals as goal

pub returns-in_err-prepare-clause-made : goal.returns-in_err-prepare-clause-made
returns-in_err-prepare-clause-made c =
    let a = c.args in
    let p = err_from_is_err_and c.from_residual.result c.from_residual.ensures.1 in
    rw (p.1, p.2)
    (rw c.in_err-prepare.was at (made a.address a.types.now a.set.now a.arena.now c.prepare.new.arena c.prepare.result c.types_verdict.result c.prepare.new.table c.types_verdict.ensures c.prepare.ensures.made))

pub returns-in_err-prepare-clause-typed : goal.returns-in_err-prepare-clause-typed
returns-in_err-prepare-clause-typed c =
    let p = err_from_is_err_and c.from_residual.result c.from_residual.ensures.1 in
    rw p.1 (λ z. absurd (refused_not p.0.number p.0.object z))

pub put_types-requires : goal.put_types-requires
put_types-requires c =
    let a = c.args in
    let m = made a.address a.types.now a.set.now a.arena.now c.prepare.new.arena c.prepare.result c.types_verdict.result c.prepare.new.table c.types_verdict.ensures c.prepare.ensures.made in
    (omega (arith, c.prepare.auto.table, c.requires), all_words a.address a.types.now a.set.now a.arena.now c.prepare.new.arena c.prepare.result c.prepare.new.table m c.in_ok-prepare.was)

pub returns-clause-made : goal.returns-clause-made
returns-clause-made c =
    let a = c.args in
    let m = made a.address a.types.now a.set.now a.arena.now c.prepare.new.arena c.prepare.result c.types_verdict.result c.prepare.new.table c.types_verdict.ensures c.prepare.ensures.made in
    rw c.in_ok-prepare.was at
    (made_put a.address a.types.now a.set.now a.arena.now c.prepare.new.arena c.prepare.result c.prepare.new.table c.put_types.new.table c.put_types.ensures (omega (arith, c.prepare.auto.table, c.requires)) c.prepare.ensures.objects m)

pub returns-clause-typed : goal.returns-clause-typed
returns-clause-typed c =
    let a = c.args in
    λ z. rows_put a.address a.types.now a.set.now a.arena.now c.prepare.new.arena c.prepare.result c.prepare.new.table c.put_types.new.table c.put_types.ensures (omega (arith, c.prepare.auto.table, c.requires))
