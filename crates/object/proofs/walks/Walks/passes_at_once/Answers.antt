-- `object::walks::Walks::passes_at_once` meets its contract. Assumes nothing.
use mathlib.Core.Path.{◌≡◌, sym, ◌∙◌}
use mathlib.Core.Bool.{true}
use native.Mathlib.Omega.{arith}
use borrow.Author.Tests.{ltb-true}
use lib.Dec.{ltb}
use Rattle.object.proofs.FineLaws.{at_once}
use Rattle.object.proofs.walks.Walks.passes_at_once.Goals.{then-saturating_sub-self, else-saturating_sub-self}
use Rattle.object.proofs.walks.Walks.passes_at_once.Goals as goal

pub returns-then-s-self : goal.returns-then-s-self
returns-then-s-self c =
    let w = c.args.self.now in
    let s = c.args.s in
    λ e. elim c.if-saturating_sub-self.branch [
      | then-saturating_sub-self u ↦
          let f : ltb s w.fits ≡ true = cc in
          let d = u.if-saturating_sub-self.true in
          at_once w.zeros.bounds w.zeros.image.now w.view w.fits w.ends w.chained w.low s w.shortcuts (omega (arith, c.saturating_sub.ensures, d)) (ltb-true _ _ f)
          (rw c.word_off.ensures at (ltb-true c.word_off.result w.ends e))
      | else-saturating_sub-self u ↦
          let f : ltb c.saturating_sub.result w.chained ≡ true = sym u.value-is ∙ c.if-s-self.true in
          absurd (omega (arith, ltb-true c.saturating_sub.result w.chained f, u.if-saturating_sub-self.false))
    ]
