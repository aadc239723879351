use Rattle.std.proofs.Common.{refl, ◌∙◌, arith}
use Rattle.std.proofs.lemmas.Result.{err_from_is_err_and}
use Rattle.object.specs.Record.{held_by}
use Rattle.binder.specs.Steps.Relocating.{row_at, keeps}
use Rattle.binder.proofs.SymbolicLaws.{runs_passed}
use Rattle.binder.proofs.KeptLaws.{kept_symbols, entry_kept}
use Rattle.binder.proofs.RunLaws.{entry_stops, entry_goes, entries_end}
use Rattle.binder.proofs.relocate.run_table.Goals as goal

pub returns-then-n-j : goal.returns-then-n-j
returns-then-n-j c =
    let a = c.args in
    let x = a.x.now in
    let r = held_by x.object.now in
    let l = c.loop-i in
    let g = c.run_many-r in
    let after = runs_passed x.links.now x.turn r c.symbols_of-y.result a.es.at a.es.first a.es.count l.w l.p l.arena g.new.arena l.report l.i g.result
    g.ensures.2 (rw c.bounds_of-b.ensures.segments at l.invariant.3) l.invariant.4 l.invariant.5 in
    entries_end x.links.now x.turn r a.es.at a.es.first a.es.count g.result.next (keeps g.result.kept l.p) g.new.arena l.report c.if-n-j.true after.0

pub returns-in_err-run_action : goal.returns-in_err-run_action
returns-in_err-run_action c =
    let a = c.args in
    let x = a.x.now in
    let r = held_by x.object.now in
    let l = c.loop-i in
    let g = c.run_many-r in
    let after = runs_passed x.links.now x.turn r c.symbols_of-y.result a.es.at a.es.first a.es.count l.w l.p l.arena g.new.arena l.report l.i g.result
    g.ensures.2 (rw c.bounds_of-b.ensures.segments at l.invariant.3) l.invariant.4 l.invariant.5 in
    let k = c.run_action in
    let p = err_from_is_err_and c.from_residual.result c.from_residual.ensures.1 in
    rw (p.1, p.2, ← c.in_err-run_action.was)
    (entry_stops x.links.now x.turn r a.es.at a.es.first a.es.count g.result.next (keeps g.result.kept l.p) g.new.arena l.report {met = k.result} {q = k.new.p} {b = k.new.arena} {noted = k.new.report}
    (omega (arith, c.if-n-j.false)) c.rela_in-e.ensures refl c.wrapping_add_u32-number.ensures.value k.ensures after.0 c.in_err-run_action.was)

pub loop-i-preserved : goal.loop-i-preserved
loop-i-preserved c =
    let a = c.args in
    let x = a.x.now in
    let r = held_by x.object.now in
    let l = c.loop-i in
    let g = c.run_many-r in
    let after = runs_passed x.links.now x.turn r c.symbols_of-y.result a.es.at a.es.first a.es.count l.w l.p l.arena g.new.arena l.report l.i g.result
    g.ensures.2 (rw c.bounds_of-b.ensures.segments at l.invariant.3) l.invariant.4 l.invariant.5 in
    let k = c.run_action in (
      k.auto.arena ∙ (g.auto.arena ∙ l.invariant.0),
      k.auto.report ∙ l.invariant.1,
      omega (arith, c.if-n-j.false),
      c.range_after-w.ensures,
      kept_symbols x.turn r c.symbols_of-y.result g.new.arena k.new.arena (entry_kept x.turn r x.links.now c.wrapping_add_u32-number.result c.rela_in-e.result (keeps g.result.kept l.p) g.new.arena l.report (row_at x.links.now c.rela_in-e.result.rtype) k.result k.new.p k.new.arena k.new.report k.ensures) after.1,
      entry_goes x.links.now x.turn r a.es.at a.es.first a.es.count g.result.next (keeps g.result.kept l.p) g.new.arena l.report {met = k.result} {q = k.new.p} {b = k.new.arena} {noted = k.new.report}
          (omega (arith, c.if-n-j.false)) c.rela_in-e.ensures refl c.wrapping_add_u32-number.ensures.value k.ensures after.0 c.in_ok-run_action.was,
    )

pub returns-after-loop-i : goal.returns-after-loop-i
returns-after-loop-i c =
    let x = c.args.x.now in
    let l = c.loop-i in
    entries_end x.links.now x.turn (held_by x.object.now) c.args.es.at c.args.es.first c.args.es.count l.i l.p l.arena l.report c.loop-i-test.false l.invariant.5
