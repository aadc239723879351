-- The searches over the table of links are the model's `resolve` and `resolve_copy`, where each link is that of its object. Assumes nothing.
use Rattle.std.proofs.Common.{◌≡◌, ℕ, suc, ◌+◌, ◌-◌, ◌<◌, Bool, true, false, List, [], ◌∷◌, length, get_or, sym, refl, ap, ◌∙◌, subst, mod-eq_of_lt, arith, None, Some, Option}
use Rattle.words.specs.Choice.{pick}
use Rattle.words.specs.Words.{sum64}
use Rattle.words.specs.Hash.{gnu_hash, elf_hash}
use Rattle.model.specs.Symbols as symbols
use Rattle.model.specs.Symbols.{address}
use Rattle.model.specs.Objects.{Obj, Objs, obj, count}
use Rattle.model.specs.Scope as model
use Rattle.object.specs.declared.hash_tables.Definition.{Definition}
use Rattle.scope.specs.declared.links.Link.{Link}
use Rattle.scope.specs.declared.scope.Hit.{Hit}
use Rattle.scope.specs.Steps.ScopeCode.{hit_at}
use Rattle.scope.specs.Steps.Links as links-specs
use Rattle.scope.specs.Steps.Links.{link_at, links_from, count_in, address_in}
use Rattle.binder.specs.Instance.{definition_of, exported_of}
use Rattle.scope.specs.Steps.ScopeCode as searches
use Rattle.scope.specs.Steps.ScopeCode.{answer_at, scoped_by, protected_by, or_else, link_answer, own_answer, scan_links, resolve_links, resolve_copy_links}
use Rattle.binder.specs.Steps.ScopeModel.{scoped_of, LinkOf, LinkedFor}

scoped_else : (a b : Option Hit) → scoped_of (or_else a b) ≡ model.or_else (scoped_of a) (scoped_of b)
unfolding searches.or_else scoped_of
scoped_else None b = refl
scoped_else (Some hit) b = refl

-- ---- one object

by_found : (k base : ℕ) (o : Obj) (a : Option Definition) → base ≡ o.base → scoped_of (scoped_by k base a) ≡ model.scope_answer k o (exported_of a)
unfolding scoped_of searches.scoped_by model.scope_answer symbols.address
by_found k base o None h = refl
by_found k base o (Some d) h = rw h

picked : (hit : Hit) (t : Bool) → scoped_of (pick t (Some hit) None) ≡ pick t (symbols.answer hit.object (definition_of hit.definition) hit.address) symbols.absent
unfolding scoped_of
picked hit true = refl
picked hit false = refl

by_protected :
    (k base : ℕ) (o : Obj) (a : Option Definition) → base ≡ o.base → scoped_of (protected_by (scoped_by k base a)) ≡ model.protected_of k o (exported_of a)
unfolding scoped_of searches.scoped_by searches.protected_by model.protected_of symbols.address
by_protected k base o None h = refl
by_protected k base o (Some d) h =
    rw h (picked (record { object = k; definition = d; address = address o.base (definition_of d) }) d.protected)

module _ (at : ℕ) (arena table name : List ℕ) where
  module _ (k : ℕ) (o : Obj) (s : Link) (h : LinkOf at arena o s) where
    base_is : sum64 at s.offset ≡ o.base
    base_is = mod-eq_of_lt h.small ∙ sym h.base

    link_is : scoped_of (link_answer at arena k s name (gnu_hash name) (elf_hash name)) ≡ model.scope_answer k o (o.find (symbols.by_name name))
    unfolding searches.link_answer
    link_is =
        by_found k (sum64 at s.offset) o (answer_at arena s name (gnu_hash name) (elf_hash name)) base_is
        ∙ ap (model.scope_answer k o) (sym (h.find name))

    own_is : scoped_of (own_answer at arena k s name (gnu_hash name) (elf_hash name)) ≡ model.protected_of k o (o.find (symbols.by_name name))
    unfolding searches.own_answer searches.link_answer
    own_is =
        by_protected k (sum64 at s.offset) o (answer_at arena s name (gnu_hash name) (elf_hash name)) base_is
        ∙ ap (model.protected_of k o) (sym (h.find name))

  -- ---- the objects from number `k` on

  scan_is :
      (d : Obj) (os : List Obj) (k : ℕ) → ((j : ℕ) → j < length os → LinkOf at arena (get_or os j d) (link_at table (k + j)))
      → scoped_of (scan_links at arena k (links_from table k (length os)) name (gnu_hash name) (elf_hash name)) ≡ model.scan k os (symbols.by_name name)
  unfolding searches.scan_links links-specs.links_from scoped_of model.scan
  scan_is d [] k h = refl
  scan_is d (o ∷ os) k h =
      let z : k + 0 ≡ k = omega arith in
      let first : LinkOf at arena o (link_at table k) = subst (λ (m : ℕ). LinkOf at arena o (link_at table m)) z (h 0 (omega arith)) in
      let others : (j : ℕ) → j < length os → LinkOf at arena (get_or os j d) (link_at table (suc k + j)) = λ j l.
      let e : k + suc j ≡ suc k + j = omega arith in
      subst (λ (m : ℕ). LinkOf at arena (get_or os j d) (link_at table m)) e (h (suc j) (omega arith)) in
      rw (scoped_else, link_is k o (link_at table k) first, scan_is d os (suc k) others)

  -- ---- the searches

  module _ (S : Objs) (is : address_in table ≡ at) (c : count_in table ≡ count S) (h : LinkedFor at arena table S) where
    -- where the requester is an object of the set
    pub resolve_is : (r : ℕ) → r < count S → scoped_of (resolve_links arena table r name (gnu_hash name) (elf_hash name)) ≡ model.resolve S r (symbols.by_name name)
    unfolding searches.resolve_links model.resolve
    resolve_is r l =
        let m : count_in table - 1 ≡ length (S.program ∷ S.libs) = omega arith in
        let links : (j : ℕ) → j < length (S.program ∷ S.libs) → LinkOf at arena (get_or (S.program ∷ S.libs) j S.host) (link_at table (1 + j)) = λ j q.
        let e : suc j ≡ 1 + j = omega arith in
        subst (λ (i : ℕ). LinkOf at arena (get_or (S.program ∷ S.libs) j S.host) (link_at table i)) e (h (suc j) (omega arith)) in
        rw (
          is,
          m,
          scoped_else,
          scoped_else,
          own_is r (obj S r) (link_at table r) (h r (omega arith)),
          scan_is S.host (S.program ∷ S.libs) 1 links,
          link_is 0 S.host (link_at table 0) (h 0 (omega arith)),
        )

    pub resolve_copy_is : scoped_of (resolve_copy_links arena table name (gnu_hash name) (elf_hash name)) ≡ model.resolve_copy S (symbols.by_name name)
    unfolding searches.resolve_copy_links model.resolve_copy
    resolve_copy_is =
        let m : count_in table - 2 ≡ length S.libs = omega arith in
        let links : (j : ℕ) → j < length S.libs → LinkOf at arena (get_or S.libs j S.host) (link_at table (2 + j)) = λ j q.
        let e : suc (suc j) ≡ 2 + j = omega arith in
        subst (λ (i : ℕ). LinkOf at arena (get_or S.libs j S.host) (link_at table i)) e (h (suc (suc j)) (omega arith)) in
        rw (is, m, scoped_else, scan_is S.host S.libs 2 links, link_is 0 S.host (link_at table 0) (h 0 (omega arith)))
