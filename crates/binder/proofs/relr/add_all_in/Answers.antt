use Rattle.std.proofs.Common.{◌≡◌, ℕ, ◌+◌, ◌-◌, ◌^◌, sym, refl, ap, ◌∙◌, arith}
use Rattle.binder.specs.Steps.Relocating.{add_bits}
use Rattle.binder.proofs.BitLaws.{bit_of_all, none}
use Rattle.binder.proofs.relr.add_all_in.Goals as goal

pub loop-init : goal.loop-init
loop-init c = (refl, omega arith, omega arith, omega (arith, c.requires), λ ss w. refl)

pub loop-preserved : goal.loop-preserved
loop-preserved c =
    let l = c.loop in
    let e : 63 - (l.counter + 1) ≡ 63 - l.counter - 1 = omega arith in
    let s = c.add_word_in in (
      s.auto.part ∙ l.invariant.0,
      omega arith,
      omega arith,
      l.invariant.3,
      λ ss wr.
          ap (λ (k : ℕ). add_bits c.args.base ss k (l.p + 8) (2 ^ k - 1) s.new.part) e ∙ (ap (add_bits c.args.base ss (63 - l.counter - 1) (l.p + 8) (2 ^ (63 - l.counter - 1) - 1)) s.ensures
          ∙ (sym (bit_of_all c.args.base ss (63 - l.counter) l.p l.part (omega arith) (wr l.p 8 (omega arith) (omega arith) (omega arith)))
          ∙ l.invariant.4 ss wr)),
    )

pub shape_of-part : goal.shape_of-part
shape_of-part c = c.loop.invariant.0

pub returns : goal.returns
returns c = λ ss wr. sym (none c.args.base ss (63 - c.loop.counter) c.loop.p (2 ^ (63 - c.loop.counter) - 1) c.loop.part (omega arith)) ∙ c.loop.invariant.4 ss wr
