use Rattle.std.proofs.Common.{◌+◌, ◌*◌, sym, refl, ◌∙◌, subst, arith}
use Rattle.binder.specs.Steps.RunSteps.{EntryRead, EntryHere}
use Rattle.binder.proofs.KeptLaws.{kept_none}
use Rattle.binder.proofs.SymbolicLaws.{symbolic_turn, symbols_passed}
use Rattle.binder.proofs.relocate.symbolics.Goals as goal

pub returns-then-not-in_reach : goal.returns-then-not-in_reach
returns-then-not-in_reach c = (omega arith, c.requires, λ r _ _ _ _ _. (refl, kept_none _ r _))

pub loop-next-init : goal.loop-next-init
loop-next-init c = (omega arith, c.requires, refl, λ r _ _ _ _ _. (refl, kept_none _ r _))

pub returns-in_default : goal.returns-in_default
returns-in_default c = (c.loop-next.invariant.0, c.loop-next.invariant.1, c.loop-next.invariant.3)

pub returns-in_default-address_of : goal.returns-in_default-address_of
returns-in_default-address_of c = (c.loop-next.invariant.0, c.loop-next.invariant.1, c.loop-next.invariant.3)

pub loop-next-preserved-then-begins_run : goal.loop-next-preserved-then-begins_run
loop-next-preserved-then-begins_run c =
    let a = c.args in
    let x = a.x.now in
    let l = c.loop-next in
    let g = c.in_reach.ensures c.if-not-in_reach.false in
    let e = c.in-Some.e in
    let s = c.store_in in
    let m = c.kept_entries-r in
    let here : EntryHere x.links.now l.arena x.turn a.y (x.turn.offset + a.at + 24 * l.next) a.w.low a.w.high e.field e.place e.index e.name e.addend =
    subst (EntryRead x.links.now l.arena x.turn a.y (x.turn.offset + a.at + 24 * l.next) a.w.low a.w.high) c.in-Some.is (rw c.words-table.ensures.is at c.symbol_entry.ensures) in
    let one = symbolic_turn x.links.now x.turn a.y a.at a.n a.w.low a.w.high (record { next = l.next; kept = l.kept }) l.arena {found = c.in-Some-address_of.found} {b = s.new.s} c.loop-next-test.true g.entries
    (c.symbols_in.ensures c.if-not-symbols_in.false) refl here (sym c.in-Some-address_of.is ∙ c.address_of.ensures) (rw (← c.value-v.ensures) s.ensures) a.s a.arena.now l.invariant.3 in (
      omega (arith, l.invariant.0, m.ensures.0),
      m.ensures.1,
      m.auto.arena ∙ (s.auto.s ∙ l.invariant.2),
      symbols_passed x.links.now x.turn a.y a.at a.n a.w.low a.w.high a.arena.now s.new.s m.new.arena a.s _ m.result one (rw c.words-table.ensures.is at m.ensures.2),
    )

pub loop-next-preserved : goal.loop-next-preserved
loop-next-preserved c =
    let a = c.args in
    let x = a.x.now in
    let l = c.loop-next in
    let g = c.in_reach.ensures c.if-not-in_reach.false in
    let e = c.in-Some.e in
    let s = c.store_in in
    let here : EntryHere x.links.now l.arena x.turn a.y (x.turn.offset + a.at + 24 * l.next) a.w.low a.w.high e.field e.place e.index e.name e.addend =
    subst (EntryRead x.links.now l.arena x.turn a.y (x.turn.offset + a.at + 24 * l.next) a.w.low a.w.high) c.in-Some.is (rw c.words-table.ensures.is at c.symbol_entry.ensures) in (
      omega (arith, l.invariant.0),
      omega (arith, c.loop-next-test.true),
      s.auto.s ∙ l.invariant.2,
      symbolic_turn x.links.now x.turn a.y a.at a.n a.w.low a.w.high (record { next = l.next; kept = l.kept }) l.arena {found = c.in-Some-address_of.found} {b = s.new.s} c.loop-next-test.true g.entries
          (c.symbols_in.ensures c.if-not-symbols_in.false) refl here (sym c.in-Some-address_of.is ∙ c.address_of.ensures) (rw (← c.value-v.ensures) s.ensures) a.s a.arena.now l.invariant.3,
    )

pub returns : goal.returns
returns c = (c.loop-next.invariant.0, c.loop-next.invariant.1, c.loop-next.invariant.3)
