-- `binder::relocate::run_until` meets its contract. Assumes nothing.
use Rattle.std.proofs.Common.{ap, rules, ◌≡◌}
use Rattle.std.proofs.lemmas.Result.{err_from_is_err_and}
use Rattle.words.specs.Refusal.{refusal_number, refused_by}
use Rattle.binder.specs.declared.Refused.{Refused}
use Rattle.binder.proofs.PrepareLaws.{ok_mapped, err_mapped}
use Rattle.binder.proofs.RunLaws.{number_some}
use Rattle.binder.proofs.UntilLaws.{until_relr, until_stops, until_goes}
use Rattle.binder.proofs.relocate.run_until.Goals as goal

pub returns-in_err-map_err : goal.returns-in_err-map_err
returns-in_err-map_err c =
    let a = c.args in
    let p = err_from_is_err_and c.from_residual.result c.from_residual.ensures.1 in
    let q = err_mapped c.run_relrs.result _ _ c.in_err-map_err.ensures.cases c.in_err-map_err.ensures.variant in
    let told : c.in_err-map_err.field-0.0 ≡ record { number = refusal_number q.0; object = c.turn_of-turn.result.number } = search (rules, q.2) in
    rw (p.1, p.2) (λ ok. until_relr a.links.now a.k a.file.now a.entries a.p.now a.arena.now a.report.now c.turn_of-turn.ensures c.record_again-o.ensures ok (rw q.1 at c.run_relrs.ensures) (number_some q.0) told)

pub returns-in_err-run_table : goal.returns-in_err-run_table
returns-in_err-run_table c =
    let a = c.args in
    let p = err_from_is_err_and c.from_residual-in_err-run_table.result c.from_residual-in_err-run_table.ensures.1 in
    rw (p.1, p.2) (λ ok. until_stops a.links.now a.k a.file.now a.entries a.p.now a.arena.now a.report.now c.turn_of-turn.ensures c.record_again-o.ensures ok c.run_relrs.ensures (ap refused_by (ok_mapped Refused c.run_relrs.result c.in_ok-map_err.ensures.cases)) c.cut_to_32-relas.ensures c.min-front.ensures (rw c.forget.ensures at c.run_table.ensures) c.in_err-run_table.was)

pub returns : goal.returns
returns c =
    let a = c.args in
    λ ok. until_goes a.links.now a.k a.file.now a.entries a.p.now a.arena.now a.report.now c.turn_of-turn.ensures c.record_again-o.ensures ok c.run_relrs.ensures (ap refused_by (ok_mapped Refused c.run_relrs.result c.in_ok-map_err.ensures.cases)) c.cut_to_32-relas.ensures c.min-front.ensures (rw c.forget.ensures at c.run_table.ensures) c.in_ok-run_table.was c.cut_to_32.ensures c.min-back.ensures c.run_table-2.ensures
