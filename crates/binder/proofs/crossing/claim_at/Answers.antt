-- `binder::crossing::claim_at` meets its contract. Assumes nothing.
use Rattle.std.proofs.Common.{◌≡◌, ◌+◌, ◌*◌, sym, ◌∙◌, arith, eq-eqb, ne_eqb}
use Rattle.binder.specs.Steps.Crossing as crossing-specs
use Rattle.object.specs.Entries as entries
use Rattle.object.specs.Symbol as symbols
use Rattle.binder.proofs.crossing.claim_at.Goals as goal

pub returns-then-word_off-ne5 : goal.returns-then-word_off-ne5
unfolding crossing-specs.claim_of entries.rela_at
returns-then-word_off-ne5 c =
    rw (ne_eqb _ _ (λ e. c.if-word_off-ne5.true (c.word_off.ensures ∙ e)))

pub returns-then-size-eq0 : goal.returns-then-size-eq0
unfolding crossing-specs.claim_of entries.rela_at symbols.symbol_from
returns-then-size-eq0 c =
    let a = c.args in
    let z : a.symbols + (24 * c.word_off-s.result + 16) ≡ a.symbols + 24 * c.word_off-s.result + 16 = omega arith in
    rw (← c.word_off-s.ensures, ← z, ← c.word_off-size.ensures, eq-eqb _ _ (sym c.word_off.ensures ∙ c.if-word_off-ne5.false), eq-eqb _ _ c.if-size-eq0.true)

pub returns : goal.returns
unfolding crossing-specs.claim_of entries.rela_at symbols.symbol_from
returns c =
    let a = c.args in
    let z : a.symbols + (24 * c.word_off-s.result + 16) ≡ a.symbols + 24 * c.word_off-s.result + 16 = omega arith in
    rw (← c.word_off-s.ensures, ← z, ← c.word_off-size.ensures, ← c.word_off-place.ensures, eq-eqb _ _ (sym c.word_off.ensures ∙ c.if-word_off-ne5.false), ne_eqb _ _ c.if-size-eq0.false)
