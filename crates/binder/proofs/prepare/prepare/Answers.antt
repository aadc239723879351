-- `binder::prepare::prepare` meets its contract. Assumes nothing.
use Rattle.std.proofs.Common.{sym, ◌∙◌, arith}
use Rattle.std.proofs.lemmas.Result.{err_from_is_err_and}
use Rattle.sheet.proofs.ObjectLaws.{dup_some, dup_none}
use Rattle.binder.specs.Setting.{setting_at}
use Rattle.binder.proofs.PrepareLaws.{arena_bounds, prepare_two, prepare_types, prepare_three, prepare_unloaded, prepare_loads}
use Rattle.binder.proofs.prepare.prepare.Goals as goal

pub returns-then-not-arena_ok-clause-made : goal.returns-then-not-arena_ok-clause-made
returns-then-not-arena_ok-clause-made c =
    rw c.new.ensures (prepare_two (setting_at c.args.address) c.args.types c.args.set.now c.args.arena.now
    (sym c.arena_ok.ensures ∙ c.if-not-arena_ok.true) _ _)

pub returns-in_err-types-clause-made : goal.returns-in_err-types-clause-made
returns-in_err-types-clause-made c =
    let p = err_from_is_err_and c.from_residual.result c.from_residual.ensures.1 in
    rw (p.1, p.2)
    (prepare_types (setting_at c.args.address) c.args.types c.args.set.now c.args.arena.now (sym c.arena_ok.ensures ∙ c.if-not-arena_ok.false) _ c.in_err-types.was _ _)

pub returns-in-Some-clause-made : goal.returns-in-Some-clause-made
returns-in-Some-clause-made c =
    let d = dup_some c.args.set.now c.duplicate.ensures.is c.in-Some.is in
    rw c.new-in-Some.ensures (prepare_three (setting_at c.args.address) c.args.types c.args.set.now c.args.arena.now (sym c.arena_ok.ensures ∙ c.if-not-arena_ok.false) c.in_ok-types.was _ d.0 d.1 _ _)

pub load_all-requires : goal.load_all-requires
load_all-requires c =
    let b = arena_bounds _ c.args.address (sym c.arena_ok.ensures ∙ c.if-not-arena_ok.false) in
    (omega (arith, c.requires), b.0, b.1)

pub returns-in_err-load_all-clause-made : goal.returns-in_err-load_all-clause-made
returns-in_err-load_all-clause-made c =
    let p = err_from_is_err_and c.from_residual-in_err-load_all.result c.from_residual-in_err-load_all.ensures.1 in
    rw (p.1, p.2)
    (prepare_unloaded (setting_at c.args.address) c.args.types c.args.set.now c.args.arena.now (sym c.arena_ok.ensures ∙ c.if-not-arena_ok.false) c.in_ok-types.was (dup_none c.args.set.now c.duplicate.ensures.is c.in_default.is) _ _ c.in_err-load_all.was _ _ c.load_all.ensures)

pub put_set-requires : goal.put_set-requires
put_set-requires c =
    (omega (arith, c.load_all.auto.table, c.requires), c.len-count.ensures.high)

pub shape_of-table : goal.shape_of-table
shape_of-table c =
    c.put_set.auto.table ∙ c.load_all.auto.table

pub returns-clause-made : goal.returns-clause-made
returns-clause-made c =
    prepare_loads (setting_at c.args.address) c.args.types c.args.set.now c.args.arena.now
    (sym c.arena_ok.ensures ∙ c.if-not-arena_ok.false) c.in_ok-types.was (dup_none c.args.set.now c.duplicate.ensures.is c.in_default.is) _ _ _ _ (rw c.in_ok-load_all.was at c.load_all.ensures) (omega (arith, c.len-count.ensures))
    (c.put_set.ensures.said.0 ∙ c.len-count.ensures.is) c.put_set.ensures.said.1 c.put_set.ensures.links
    (λ before. c.put_set.ensures.filtered (λ k l. before k (omega (arith, c.len-count.ensures.is))))
