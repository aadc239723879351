use Rattle.std.proofs.Common.{◌≡◌, ◌+◌, ◌*◌, sym, refl, ◌∙◌, subst, arith}
use Rattle.binder.specs.Steps.RunSteps.{EntryRead, EntryHere}
use Rattle.binder.specs.Steps.Relocating.{kept_as}
use Rattle.binder.proofs.KeptLaws.{kept_none}
use Rattle.binder.proofs.SymbolicLaws.{kept_eq, kept_found, symbolic_turn}
use Rattle.binder.proofs.relocate.kept_entries.Goals as goal

pub loop-i-init : goal.loop-i-init
loop-i-init c = λ r _ _ _ _ _. (refl, kept_none _ r _)

pub returns-in_default-symbol_entry : goal.returns-in_default-symbol_entry
returns-in_default-symbol_entry c = (omega arith, omega (arith, c.loop-i-test.true), c.loop-i.invariant)

pub returns-then-load-kept : goal.returns-then-load-kept
returns-then-load-kept c = (omega arith, omega (arith, c.loop-i-test.true), c.loop-i.invariant)

pub loop-i-preserved : goal.loop-i-preserved
loop-i-preserved c =
    let a = c.args in
    let t = a.t in
    let l = c.loop-i in
    let k = c.in-Some.kept in
    let e = c.in-Some-symbol_entry.e in
    let s = c.store_in in
    let here : EntryHere a.table.now l.arena t a.y (t.offset + a.at + 24 * l.i) a.w.low a.w.high e.field e.place e.index e.name e.addend =
    subst (EntryRead a.table.now l.arena t a.y (t.offset + a.at + 24 * l.i) a.w.low a.w.high) c.in-Some-symbol_entry.is c.symbol_entry.ensures in
    let same : e.index ≡ k.symbol = here.index_is ∙ (sym c.load.ensures ∙ c.if-load-kept.false) in
    let kept : kept_as e.index k.address ≡ a.s.kept = kept_eq k e.index k.address (sym same) refl ∙ sym c.in-Some.is in
    rw kept at
    (symbolic_turn a.table.now t a.y a.at a.n a.w.low a.w.high (record { next = l.i; kept = a.s.kept }) l.arena {found = k.address} {b = s.new.s} c.loop-i-test.true c.requires.1.entries
    c.requires.2 refl here (kept_found a.s.kept k e.index _ c.in-Some.is same) (rw (← c.value-v.ensures) s.ensures) a.s a.arena.now l.invariant)

pub returns : goal.returns
returns c =
    let e : c.loop-i.i ≡ c.args.n = omega (arith, c.loop-i.auto.i, c.loop-i.auto.i-end, c.loop-i-test.false, c.requires) in
    (omega (arith, c.requires), omega arith, rw e at c.loop-i.invariant)
