-- `object::check::Walks::follow` meets its contract. Assumes nothing.
use Rattle.object.proofs.MarkLaws.{marked_use, passes_last, walk_fails, walk_cut, walk_turn}
use Rattle.object.specs.Steps.Marks.{Passes}
use Rattle.object.specs.Steps.Checked.{step_by}
use Prim.Native.Nat.{◌+◌, ◌-◌}
use mathlib.Core.Bool.{true}
use mathlib.Core.Path.{◌≡◌, sym, ◌∙◌}
use native.Mathlib.Omega.{arith}
use Rattle.object.proofs.walks.Walks.follow.Goals.{else-not-passes_at_once-via-then-not-passes_at_once+else-not-passes, else-not-passes_at_once-via-else-not-passes_at_once}
use Rattle.object.proofs.walks.Walks.follow.Goals as goal

pub returns-then-holds : goal.returns-then-holds
returns-then-holds c =
    let w = c.args.self.now in
    let m = c.args.seen.now in
    let l = c.loop in
    l.invariant.2.on (marked_use m.low m.step (Passes w.zeros.image.now w.view.table (step_by w)) l.s m.words c.requires.marked (c.holds.ensures c.if-holds.true))

pub returns-then-not-passes : goal.returns-then-not-passes
returns-then-not-passes c =
    let w = c.args.self.now in
    let l = c.loop in
    walk_fails w.zeros.image.now w.view.table (step_by w) c.args.word l.s (c.fuel_of-end.result - l.counter) l.invariant.2 (omega arith) (sym c.passes.ensures ∙ c.if-not-passes.true)

pub returns-then-is_last : goal.returns-then-is_last
returns-then-is_last c =
    let here : step_by c.args.self.now c.loop.s ≡ true =
    elim c.else-not-passes_at_once.branch [
      | else-not-passes_at_once-via-then-not-passes_at_once+else-not-passes u ↦ sym u.passes.ensures ∙ u.if-not-passes.false
      | else-not-passes_at_once-via-else-not-passes_at_once u ↦ c.passes_at_once.ensures u.if-not-passes_at_once.false
    ] in
    let w = c.args.self.now in
    let l = c.loop in
    l.invariant.2.on (passes_last w.zeros.image.now w.view.table (step_by w) l.s c.chain_word-w.result c.chain_word-w.ensures here (sym c.is_last.ensures ∙ c.if-is_last.true))

pub loop-preserved : goal.loop-preserved
loop-preserved c =
    let here : step_by c.args.self.now c.loop.s ≡ true =
    elim c.else-not-passes_at_once.branch [
      | else-not-passes_at_once-via-then-not-passes_at_once+else-not-passes u ↦ sym u.passes.ensures ∙ u.if-not-passes.false
      | else-not-passes_at_once-via-else-not-passes_at_once u ↦ c.passes_at_once.ensures u.if-not-passes_at_once.false
    ] in
    let w = c.args.self.now in
    let l = c.loop in
    let f = c.fuel_of-end.result in
    let e : f - (l.counter + 1) ≡ f - l.counter - 1 = omega arith in (
      l.invariant.0,
      omega (arith, l.invariant.1, c.next_symbol-s.ensures.1),
      rw e (walk_turn w.zeros.image.now w.view.table (step_by w) c.args.word l.s (f - l.counter) l.invariant.2 c.chain_word-w.result c.next_symbol-s.result (omega arith) c.chain_word-w.ensures here (sym c.is_last.ensures ∙ c.if-is_last.false) c.next_symbol-s.ensures.0),
    )

pub returns : goal.returns
returns c =
    let w = c.args.self.now in
    let l = c.loop in
    walk_cut w.zeros.image.now w.view.table (step_by w) c.args.word l.s (c.fuel_of-end.result - l.counter) l.invariant.2 (omega arith)
