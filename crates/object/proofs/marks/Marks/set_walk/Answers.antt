-- `object::marks::Marks::set_walk` meets its contract. Assumes nothing.
use Rattle.object.proofs.MarkLaws.{marked_more, passes_next}
use Rattle.object.specs.Steps.Marks.{Passes}
use mathlib.Core.Path.{sym, ◌∙◌}
use native.Mathlib.Omega.{arith}
use Rattle.object.proofs.marks.Marks.set_walk.Goals as goal

pub returns-then-set : goal.returns-then-set
returns-then-set c =
    let a = c.args in
    let l = c.loop in
    let m = a.self.now in
    let e = c.set.ensures in (
      e.0 ∙ l.invariant.2,
      e.1 ∙ l.invariant.3,
      λ p h mk.
          let r = l.invariant.4 p h mk in
          marked_more m.low m.step (Passes a.image.now a.t p) l.s l.self.words c.set.new.self.words r.1 (rw (l.invariant.2, l.invariant.3) at e.2) r.0,
    )

pub returns-then-is_last : goal.returns-then-is_last
returns-then-is_last c =
    let a = c.args in
    let l = c.loop in
    let m = a.self.now in
    let e = c.set.ensures in (
      e.0 ∙ l.invariant.2,
      e.1 ∙ l.invariant.3,
      λ p h mk.
          let r = l.invariant.4 p h mk in
          marked_more m.low m.step (Passes a.image.now a.t p) l.s l.self.words c.set.new.self.words r.1 (rw (l.invariant.2, l.invariant.3) at e.2) r.0,
    )

pub loop-preserved : goal.loop-preserved
loop-preserved c =
    let a = c.args in
    let l = c.loop in
    let m = a.self.now in
    let e = c.set.ensures in (
      l.invariant.0,
      omega (arith, l.invariant.1, c.next_symbol-s.ensures.1),
      e.0 ∙ l.invariant.2,
      e.1 ∙ l.invariant.3,
      λ p h mk.
          let r = l.invariant.4 p h mk in (
            rw c.next_symbol-s.ensures.0 (passes_next a.image.now a.t p l.s c.chain_word-w.result c.chain_word-w.ensures (sym c.is_last.ensures ∙ c.if-is_last.false) r.0),
            marked_more m.low m.step (Passes a.image.now a.t p) l.s l.self.words c.set.new.self.words r.1 (rw (l.invariant.2, l.invariant.3) at e.2) r.0,
          ),
    )
