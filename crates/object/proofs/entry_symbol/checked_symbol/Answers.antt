use Rattle.std.specs.Prelude.{Ok}
use Rattle.object.specs.Record.{checked_symbol}
use mathlib.Core.Path.{sym, ap, ◌∙◌}
use Rattle.object.proofs.entry_symbol.checked_symbol.Goals as goal

pub returns-then-not-index_ok : goal.returns-then-not-index_ok
unfolding checked_symbol
returns-then-not-index_ok c =
    rw (sym c.index_ok.ensures ∙ c.if-not-index_ok.true)

pub returns-then-not-symbol_ok : goal.returns-then-not-symbol_ok
unfolding checked_symbol
returns-then-not-symbol_ok c =
    rw (sym c.index_ok.ensures ∙ c.if-not-index_ok.false, ← c.bounds_of-b.ensures.span, ← c.bounds_of-b.ensures.segments, sym c.symbol_ok.ensures ∙ c.if-not-symbol_ok.true)

pub returns : goal.returns
unfolding checked_symbol
returns c =
    rw (sym c.index_ok.ensures ∙ c.if-not-index_ok.false, ← c.bounds_of-b.ensures.span, ← c.bounds_of-b.ensures.segments, sym c.symbol_ok.ensures ∙ c.if-not-symbol_ok.false) (ap Ok c.symbol_at.ensures)
