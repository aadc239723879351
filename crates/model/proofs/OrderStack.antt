-- The Rust's loop ends, and with the order of `order_of`. Assumes nothing.
use Prim.Native.Nat.{ℕ, zero, suc, ◌+◌, ◌≤◌, ◌<◌}
use mathlib.Core.Path.{◌≡◌, refl, sym, ap, subst, ◌∙◌}
use mathlib.Core.Bool.{Bool, true, false, not, true≢false}
use mathlib.Core.Logic.{⊎_elim}
use mathlib.Core.List.{List, [], ◌∷◌, ◌++◌}
use native.Mathlib.Omega.{arith}
use lib.Dec.{eqb}
use lib.ListN.{length}
use Rattle.words.specs.Choice.{pick, both, either}
use Rattle.words.proofs.Choice.{either_left, either_right}
use Rattle.model.specs.Order.{has, listed, fresh, first_first, last_first, up_from, visit, order_of}
use Rattle.model.specs.Order.Distinct.{none}
use Rattle.model.specs.EventStack.{Event, push, Runs, discover_all}
use Rattle.model.specs.EventStack.Event.{discover, emit}
use Rattle.model.specs.EventStack.Runs.{done, emits, skips, opens}
use Rattle.model.proofs.OrderLaws.{Way, way_cons, short, decide, either_assoc, range_listed, has_head, has_cases, has_snoc, passed, visit_fresh}

seen_not_fresh : (l p o : Bool) → either p o ≡ true → both l (both (not p) (not o)) ≡ false
seen_not_fresh false p o h = refl
seen_not_fresh true true o h = refl
seen_not_fresh true false true h = refl
seen_not_fresh true false false h = sym h

unseen_fresh : (l p o : Bool) → l ≡ true → either p o ≡ false → both l (both (not p) (not o)) ≡ true
unseen_fresh l true o e h = absurd (true≢false h)
unseen_fresh l false true e h = absurd (true≢false h)
unseen_fresh l false false e h = rw e

moved : (e p o : Bool) → either (either e p) o ≡ either p (either o e)
moved true true o = refl
moved true false true = refl
moved true false false = refl
moved false true o = refl
moved false false true = refl
moved false false false = refl

off_path : (p o : Bool) → either p o ≡ false → p ≡ false
off_path true o h = h
off_path false o h = refl

module _ (needs : ℕ → List ℕ) (count : ℕ) where
  -- what the Rust has marked is on the path or in the order
  abbrev Agree : List ℕ → List ℕ → List ℕ → Type 0
  Agree path out seen = (j : ℕ) → listed count j ≡ true → has j seen ≡ either (has j path) (has j out)

  abbrev More : List ℕ → List ℕ → Type 0
  More seen seen' = (x : ℕ) → has x seen ≡ true → has x seen' ≡ true

  -- the loop, with k on top of the stack, goes on with the stack below it and the order after a visit of k
  abbrev Visits : List ℕ → (List ℕ → List ℕ) → (List Event → List Event) → Type 0
  Visits path f events = (out seen r : List ℕ) (stack : List Event) → Agree path out seen
      → ((seen' : List ℕ) → Agree path (f out) seen' → More seen seen' → Runs needs count r stack seen' (f out)) → Runs needs count r (events stack) seen out

  needs_run : (f : ℕ → List ℕ → List ℕ) (path : List ℕ) → ((k : ℕ) (out : List ℕ) → fresh count path k out ≡ false → f k out ≡ out) → ((k : ℕ) → listed count k ≡ true → Visits path (f k) (λ s. discover k ∷ s))
      → (marked : List ℕ) (ks : List ℕ) (out seen r : List ℕ) (stack : List Event) → More marked seen → Agree path out seen
      → ((seen' : List ℕ) → Agree path (last_first f ks out) seen' → More seen seen' → Runs needs count r stack seen' (last_first f ks out)) → Runs needs count r (push count marked ks stack) seen out
  needs_run f path pass each marked [] out seen r stack m a go = go seen a (λ x h. h)
  needs_run f path pass each marked (k ∷ ks) out seen r stack m a go =
      needs_run f path pass each marked ks out seen r (pick (both (listed count k) (not (has k marked))) (discover k ∷ stack) stack) m a
      (λ seen₁ a₁ m₁. ⊎_elim
      (λ (l : listed count k ≡ true). ⊎_elim
      (λ (t : has k marked ≡ true).
      let e : f k (last_first f ks out) ≡ last_first f ks out = pass k (last_first f ks out) (seen_not_fresh (listed count k) (has k path) (has k (last_first f ks out)) (sym (a₁ k l) ∙ m₁ k (m k t))) in
      rw (l, t) (subst (λ (o : List ℕ). Runs needs count r stack seen₁ o) e (go seen₁ (rw e a₁) m₁)))
      (λ (t : has k marked ≡ false). rw (l, t) (each k l (last_first f ks out) seen₁ r stack a₁ (λ seen₂ a₂ m₂. go seen₂ a₂ (λ x h. m₂ x (m₁ x h)))))
      (decide (has k marked)))
      (λ (l : listed count k ≡ false).
      let e : f k (last_first f ks out) ≡ last_first f ks out = pass k (last_first f ks out) (rw l) in
      rw l (subst (λ (o : List ℕ). Runs needs count r stack seen₁ o) e (go seen₁ (rw e a₁) m₁)))
      (decide (listed count k)))

  skipped : (d : ℕ) (path : List ℕ) (k : ℕ) → listed count k ≡ true → (out seen r : List ℕ) (stack : List Event) → Agree path out seen → has k seen ≡ true
      → (Agree path (visit needs count d path k out) seen → Runs needs count r stack seen (visit needs count d path k out)) → Runs needs count r (discover k ∷ stack) seen out
  skipped d path k l out seen r stack a t go =
      let e : visit needs count d path k out ≡ out = (passed needs count d path k out (seen_not_fresh (listed count k) (has k path) (has k out) (sym (a k l) ∙ t))) in
      skips t (subst (λ (o : List ℕ). Runs needs count r stack seen o) e (go (rw e a)))

  visit_runs : (d : ℕ) (path : List ℕ) → d + length path ≡ count → Way needs count path → (k : ℕ) → listed count k ≡ true → Visits path (visit needs count d path k) (λ s. discover k ∷ s)
  visit_runs zero path full w k l out seen r stack a go = ⊎_elim
      (λ (t : has k path ≡ true). skipped zero path k l out seen r stack a (a k l ∙ either_left (has k path) (has k out) t) (λ a'. go seen a' (λ x h. h)))
      (λ (t : has k path ≡ false). absurd (let s = short needs count (k ∷ path) (way_cons needs count path k w l t) in omega arith))
      (decide (has k path))
  visit_runs (suc d) path full w k l out seen r stack a go = ⊎_elim
      (λ (t : has k seen ≡ true). skipped (suc d) path k l out seen r stack a t (λ a'. go seen a' (λ x h. h)))
      (λ (t : has k seen ≡ false).
      let free : either (has k path) (has k out) ≡ false = sym (a k l) ∙ t in
      let new : List ℕ = last_first (visit needs count d (k ∷ path)) (needs k) out in
      let e : visit needs count (suc d) path k out ≡ new ++ (k ∷ []) = visit_fresh needs count (suc d) d path k out refl (unseen_fresh (listed count k) (has k path) (has k out) l free) in
      opens t
      (needs_run (visit needs count d (k ∷ path)) (k ∷ path) (λ j o h. passed needs count d (k ∷ path) j o h)
      (visit_runs d (k ∷ path) (omega arith) (way_cons needs count path k w l (off_path (has k path) (has k out) free)))
      (k ∷ seen) (needs k) out (k ∷ seen) r (emit k ∷ stack) (λ x h. h)
      (λ j lj. ap (λ (b : Bool). either (eqb j k) b) (a j lj) ∙ either_assoc (eqb j k) (has j path) (has j out))
      (λ seen' a' m'. emits (subst (λ (o : List ℕ). Runs needs count r stack seen' o) e
      (go seen'
      (rw e (λ j lj. a' j lj ∙ moved (eqb j k) (has j path) (has j new) ∙ ap (λ (b : Bool). either (has j path) b) (sym (has_snoc j k new))))
      (λ x h. m' x (either_right (eqb x k) (has x seen) h)))))))
      (decide (has k seen))

  all_run : (ks : List ℕ) → ((k : ℕ) → has k ks ≡ true → listed count k ≡ true) → (out seen : List ℕ) → Agree [] out seen → Runs needs count (first_first (visit needs count count []) ks out) (discover_all ks) seen out
  all_run [] l out seen a = done refl
  all_run (k ∷ ks) l out seen a =
      visit_runs count [] (omega arith) (record { distinct = none; libs = λ x h. absurd (true≢false (sym h)) }) k (l k (has_head k ks)) out seen (first_first (visit needs count count []) (k ∷ ks) out) (discover_all ks) a
      (λ seen' a' m. all_run ks (λ j h. l j (either_right (eqb j k) (has j ks) h)) (visit needs count count [] k out) seen' a')

from_up : (a n k : ℕ) → has k (up_from a n) ≡ true → (a ≤ k) × (k < a + n)
from_up a zero k h = absurd (true≢false (sym h))
from_up a (suc n) k h = ⊎_elim (λ (e : k ≡ a). omega arith) (λ (m : has k (up_from (suc a) n) ≡ true). let r = from_up (suc a) n k m in omega arith) (has_cases k a (up_from (suc a) n) h)

-- from the stack of all libraries the loop ends with an order, and with the program after it that is `order_of`
pub rust_order :
    (needs : ℕ → List ℕ) (count : ℕ)
    → (r : List ℕ) × Runs needs count r (discover_all (up_from 2 count)) [] [] × (order_of needs count ≡ r ++ (1 ∷ []))
unfolding order_of
rust_order needs count = (
  first_first (visit needs count count []) (up_from 2 count) [],
  all_run needs count (up_from 2 count) (λ k h. let b = from_up 2 count k h in range_listed count k b.0 (omega arith)) [] [] (λ j l. refl),
  refl,
)
