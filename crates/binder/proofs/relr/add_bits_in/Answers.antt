use Rattle.std.proofs.Common.{◌≡◌, ℕ, ◌+◌, ◌-◌, ◌/◌, length, sym, refl, ap, ◌∙◌, arith}
use Rattle.binder.specs.Steps.Relocating.{add_bits}
use Rattle.binder.proofs.BitLaws.{bit_0, bit_1, none}
use Rattle.binder.proofs.relr.add_bits_in.Goals as goal
use Rattle.binder.proofs.relr.add_bits_in.Goals.{then-left-eq1, else-left-eq1}

pub loop-init : goal.loop-init
loop-init c = (refl, omega arith, omega arith, omega (arith, c.requires), λ ss w. refl)

pub loop-preserved : goal.loop-preserved
loop-preserved c =
    let a = c.args in
    let l = c.loop in
    let e : 63 - (l.counter + 1) ≡ 63 - l.counter - 1 = omega arith in
    elim c.if-left-eq1.branch [
      | then-left-eq1 w ↦ (
        ap length w.part-is ∙ (w.add_word_in.auto.part ∙ l.invariant.0),
        omega arith,
        omega arith,
        l.invariant.3,
        λ ss wr.
            ap (λ (k : ℕ). add_bits a.base ss k (l.p + 8) (l.left / 2) c.if-left-eq1.part) e ∙ (ap (add_bits a.base ss (63 - l.counter - 1) (l.p + 8) (l.left / 2)) (w.part-is ∙ w.add_word_in.ensures)
            ∙ (sym (bit_1 a.base ss (63 - l.counter) l.p l.left l.part (omega arith) w.if-left-eq1.true (wr l.p 8 (omega arith) (omega arith) (omega arith)))
            ∙ l.invariant.4 ss wr)),
      )
      | else-left-eq1 w ↦ (
        ap length w.part-is ∙ l.invariant.0,
        omega arith,
        omega arith,
        l.invariant.3,
        λ ss wr.
            ap (λ (k : ℕ). add_bits a.base ss k (l.p + 8) (l.left / 2) c.if-left-eq1.part) e ∙ (ap (add_bits a.base ss (63 - l.counter - 1) (l.p + 8) (l.left / 2)) w.part-is
            ∙ (sym (bit_0 a.base ss (63 - l.counter) l.p l.left l.part (omega arith) w.if-left-eq1.false) ∙ l.invariant.4 ss wr)),
      )
    ]

pub shape_of-part : goal.shape_of-part
shape_of-part c = c.loop.invariant.0

pub returns : goal.returns
returns c =
    let a = c.args in
    let l = c.loop in
    λ ss wr. sym (none a.base ss (63 - l.counter) l.p l.left l.part (omega arith)) ∙ l.invariant.4 ss wr
