use Rattle.std.proofs.Common.{◌≡◌, ℕ, ◌+◌, ◌-◌, length, take, drop, refl, ap, ◌∙◌, arith, length-drop, length-set, take_all, Option}
use Rattle.model.specs.Relocation.{address_or0}
use Rattle.scope.specs.declared.scope.Hit.{Hit}
use Rattle.binder.specs.Steps.ScopeModel.{scoped_of}
use Rattle.binder.specs.Steps.AllNames.{link_address, link_addresses}
use Rattle.binder.proofs.AllNamesLaws.{fill_begin, fill_end, fill_inside, fill_turn}
use Rattle.binder.proofs.query_all.resolve_all.Goals as goal

pub loop-word-init : goal.loop-word-init
loop-word-init c =
    let a = c.args in
    (fill_begin (link_address a.arena.now a.links.now a.requester) a.list.now a.words.now c.requires, refl)

pub slice_bounds-rest-count : goal.slice_bounds-rest-count
slice_bounds-rest-count c =
    omega (arith, fill_inside _ _ _ _ _ c.loop-word.invariant.0 (omega (arith, c.loop-word-test.true)) _ c.name_at-name.ensures)

pub slice_bounds-rest-start : goal.slice_bounds-rest-start
slice_bounds-rest-start c =
    omega (arith, fill_inside _ _ _ _ _ c.loop-word.invariant.0 (omega (arith, c.loop-word-test.true)) _ c.name_at-name.ensures)

pub loop-word-preserved : goal.loop-word-preserved
loop-word-preserved c =
    let v = c.address_or_0.ensures ∙ ap (λ (s : Option Hit). address_or0 (scoped_of s)) (rw c.gnu_hash-gnu.ensures at c.resolve-s.ensures) in
    let l = c.loop-word in
    let n : ℕ = length c.name_at-name.result.now + 1 in
    let tail : take (length l.rest.now - n) (drop n l.rest.now) ≡ drop n l.rest.now = take_all _ _ (omega (arith, length-drop n l.rest.now)) in
    (rw tail (fill_turn _ _ _ _ _ l.invariant.0 (omega (arith, c.loop-word-test.true)) _ c.name_at-name.ensures _ v), simp length-set l.invariant.1)

pub returns : goal.returns
unfolding link_addresses
returns c =
    fill_end _ _ _ _ _ c.loop-word.invariant.0 (omega (arith, c.loop-word-test.false))
