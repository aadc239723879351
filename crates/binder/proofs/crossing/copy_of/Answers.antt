-- `binder::crossing::copy_of` meets its contract. Assumes nothing.
use Rattle.std.proofs.Common.{sym, ◌∙◌}
use Rattle.binder.specs.Steps.Relocating.{row_at}
use Rattle.object.specs.Record.{held_by}
use Rattle.binder.proofs.CrossCode.{copies_row_lem, copy_absent, copy_found}
use Rattle.binder.proofs.crossing.copy_of.Goals as goal

pub returns-in_err-found : goal.returns-in_err-found
returns-in_err-found c =
    let a = c.args in
    c.from_residual-in_err-found.ensures ∙ copy_absent a.links.now a.arena.now a.t (held_by a.o.now) a.e (copies_row_lem (row_at a.links.now a.e.rtype) (sym c.is_copy.ensures ∙ c.if-not-is_copy.false)) c.symbol_of.ensures (sym c.ok.ensures.value ∙ c.in_ok-y.was) c.search_copy.ensures c.in_err-found.was

pub returns : goal.returns
returns c =
    let a = c.args in
    copy_found a.links.now a.arena.now a.t (held_by a.o.now) a.e (copies_row_lem (row_at a.links.now a.e.rtype) (sym c.is_copy.ensures ∙ c.if-not-is_copy.false)) c.symbol_of.ensures (sym c.ok.ensures.value ∙ c.in_ok-y.was) c.search_copy.ensures c.in_ok-found.was c.min-n.ensures c.link-link.ensures c.copy_range.ensures
