use Rattle.std.proofs.Common.{◌≡◌, ℕ, ◌+◌, ◌-◌, ◌/◌, length, sym, refl, ap, ◌∙◌, arith}
use Rattle.binder.specs.Steps.Relocating.{add_bits}
use Rattle.binder.proofs.BitLaws.{bit_0, bit_1, refused, none}
use Rattle.binder.proofs.relr.add_bits.Goals as goal
use Rattle.binder.proofs.relr.add_bits.Goals.{then-left-eq1+else-not-in_writable, else-left-eq1}

pub loop-init : goal.loop-init
loop-init c = (refl, omega arith, refl)

pub shape_of-part-then-not-in_writable : goal.shape_of-part-then-not-in_writable
shape_of-part-then-not-in_writable c = c.loop.invariant.0

pub returns-then-not-in_writable : goal.returns-then-not-in_writable
returns-then-not-in_writable c =
    let a = c.args in
    let l = c.loop in
    sym (refused a.base (a.b.segments.now) (63 - l.counter) l.p l.left l.part (omega arith) c.if-left-eq1.true (sym c.in_writable.ensures ∙ c.if-not-in_writable.true))
    ∙ l.invariant.2

pub loop-preserved : goal.loop-preserved
loop-preserved c =
    let a = c.args in
    let l = c.loop in
    let ss = a.b.segments.now in
    let e : 63 - (l.counter + 1) ≡ 63 - l.counter - 1 = omega arith in
    elim c.if-left-eq1.branch [
      | then-left-eq1+else-not-in_writable w ↦ (
        ap length w.part-is ∙ (w.add_word.auto.part ∙ l.invariant.0),
        omega arith,
        ap (λ (k : ℕ). add_bits a.base ss k (l.p + 8) (l.left / 2) c.if-left-eq1.part) e ∙ (ap (add_bits a.base ss (63 - l.counter - 1) (l.p + 8) (l.left / 2)) (w.part-is ∙ w.add_word.ensures)
            ∙ (sym (bit_1 a.base ss (63 - l.counter) l.p l.left l.part (omega arith) w.if-left-eq1.true (sym w.in_writable.ensures ∙ w.if-not-in_writable.false))
            ∙ l.invariant.2)),
      )
      | else-left-eq1 w ↦ (
        ap length w.part-is ∙ l.invariant.0,
        omega arith,
        ap (λ (k : ℕ). add_bits a.base ss k (l.p + 8) (l.left / 2) c.if-left-eq1.part) e ∙ (ap (add_bits a.base ss (63 - l.counter - 1) (l.p + 8) (l.left / 2)) w.part-is
            ∙ (sym (bit_0 a.base ss (63 - l.counter) l.p l.left l.part (omega arith) w.if-left-eq1.false) ∙ l.invariant.2)),
      )
    ]

pub shape_of-part : goal.shape_of-part
shape_of-part c = c.loop.invariant.0

pub returns : goal.returns
returns c =
    let a = c.args in
    let l = c.loop in
    sym (none a.base (a.b.segments.now) (63 - l.counter) l.p l.left l.part (omega arith)) ∙ l.invariant.2
