use Rattle.std.proofs.Common.{◌≡◌, ℕ, ◌+◌, ◌*◌, List, length, set, sym, ap, ◌∙◌, arith, length-set}
use Rattle.words.proofs.Slices.{patch_none, patch_next}
use Rattle.binder.specs.SetOrder.{number_of}
use Rattle.binder.specs.Bind.{names_of}
use Rattle.binder.proofs.NeedsLaws.{number_at, row_none, row_is}
use Rattle.binder.proofs.needs.put_needs.Goals as goal

pub returns-in_default : goal.returns-in_default
returns-in_default c =
    let a = c.args in
    row_none a.set.now a.image.now a.strings a.file.now a.k a.needs.now (sym c.dynamic_at.ensures ∙ c.in_default.is)

pub loop-i-init : goal.loop-i-init
loop-i-init c = (c.requires.0, c.requires.1, omega (arith, c.deref-n-items.ensures.1), sym (patch_none _ _ _))

pub loop-i-preserved : goal.loop-i-preserved
unfolding number_at
loop-i-preserved c =
    let a = c.args in
    let names : List (List ℕ) = names_of a.set.now in (
      c.requires.0,
      simp length-set (omega (arith, c.loop-i.invariant.1)),
      c.loop-i.invariant.2,
      patch_next a.needs.now (64 * a.k) c.loop-i.i _ c.loop-i.invariant.3
          (ap (λ (v : ℕ). set c.loop-i.needs (64 * a.k + c.loop-i.i) v)
          (c.unwrap_or.ensures ∙ c.library_named.ensures.is ∙ ap (λ (n : List ℕ). number_of n 2 names) c.name_off-name.ensures)),
    )

pub returns : goal.returns
returns c =
    let a = c.args in
    let items : List ℕ = c.deref-n-items.result.now in
    let i : c.loop-i.i ≡ length items = omega arith in
    row_is a.set.now a.image.now a.strings a.file.now a.k a.needs.now c.in-Some.at items _ (sym c.dynamic_at.ensures ∙ c.in-Some.is)
    (c.deref-n-items.ensures.0 ∙ c.in-Ok.ensures.1) (rw i at c.loop-i.invariant.3)
