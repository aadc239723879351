-- `scope::links::Links::rules_out` meets its contract. Assumes nothing.
use Rattle.std.proofs.Common.{◌∙◌, ap, subst, List, ℕ, ◌+◌, ◌%◌, ◌^◌}
use borrow.Author.Tests.{eq-eqb}
use Rattle.words.specs.Memory.{mem}
use Rattle.words.specs.Words.{le_at}
use Rattle.scope.specs.Steps.Links.{word_at, link_at}
use Rattle.scope.specs.Steps.ScopeCode.{Lacks}
use Rattle.scope.proofs.BloomLaws.{untold, lacks_name}
use Rattle.scope.proofs.links.Links.rules_out.Goals as goal

pub returns : goal.returns
returns c =
    let a = c.args in
    let t = c.self.inside.words.now in
    let k = a.k in
    let row = c.self.invariant.rows k (rw c.self.view_is c.requires.1) in
    λ h. subst (λ (l : List ℕ). Lacks a.arena.now (link_at l k) a.gnu) c.self.view_is
    (lacks_name a.arena.now a.gnu c.load-w.result (word_at t k 10) (word_at t k 11) (word_at t k 12) c.if-bits-ge32.false
    (c.load-w.ensures ∙ ap (λ (n : ℕ). le_at 8 (mem a.arena.now) (word_at t k 10 % 2 ^ 32 + n)) c.bloom_place.ensures.0)
    (λ is. untold (rw (eq-eqb _ _ is) at h)) (link_at t k) row)
