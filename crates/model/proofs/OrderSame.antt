-- The order depends on the listed needs of libraries only ("unlisted ones are ignored"): numbers that are no library's may be among the needs or
-- not, and the needs of what is no library may be anything. Assumes nothing.
use Prim.Native.Nat.{ℕ, zero, suc, ◌+◌, ◌≤◌, ◌<◌}
use mathlib.Core.Path.{◌≡◌, refl, sym, ap, ◌∙◌, fun_ext}
use mathlib.Core.Bool.{true, false}
use mathlib.Core.Logic.{⊎_elim}
use mathlib.Core.List.{List, [], ◌∷◌, ◌++◌}
use Rattle.words.specs.Choice.{pick}
use Rattle.model.specs.Order.{listed, fresh, first_first, last_first, up_from, visit, order_of, keep}
use Rattle.model.proofs.OrderLaws.{decide, listed_range}

module _ (needs : ℕ → List ℕ) (count : ℕ) where
  unlisted_passed : (d : ℕ) (path : List ℕ) (k : ℕ) (out : List ℕ) → listed count k ≡ false → visit needs count d path k out ≡ out
  unfolding visit
  unlisted_passed zero path k out h = refl
  unlisted_passed (suc d) path k out h = rw h

  kept : (d : ℕ) (path ks out : List ℕ) → last_first (visit needs count d path) ks out ≡ last_first (visit needs count d path) (keep count ks) out
  kept d path [] out = refl
  kept d path (k ∷ ks) out = ⊎_elim
      (λ (t : listed count k ≡ true). rw t (ap (λ (l : List ℕ). visit needs count d path k l) (kept d path ks out)))
      (λ (t : listed count k ≡ false). rw t (unlisted_passed d path k _ t ∙ kept d path ks out))
      (decide (listed count k))

-- two ways to say what is needed that agree on the listed needs of each library
module _
    (needs needs' : ℕ → List ℕ) (count : ℕ)
    (same : (k : ℕ) → 2 ≤ k → k < count + 2 → keep count (needs k) ≡ keep count (needs' k))
  where
    visit_same : (d : ℕ) (path : List ℕ) (k : ℕ) (out : List ℕ) → visit needs count d path k out ≡ visit needs' count d path k out
    unfolding visit
    visit_same zero path k out = refl
    visit_same (suc d) path k out = ⊎_elim
        (λ (t : listed count k ≡ true).
        let r = listed_range count k t in
        let inner : visit needs count d (k ∷ path) ≡ visit needs' count d (k ∷ path) = fun_ext (λ j. fun_ext (λ o. visit_same d (k ∷ path) j o)) in
        let all : last_first (visit needs count d (k ∷ path)) (needs k) out ≡ last_first (visit needs' count d (k ∷ path)) (needs' k) out
        = kept needs count d (k ∷ path) (needs k) out
        ∙ ap (λ (l : List ℕ). last_first (visit needs count d (k ∷ path)) l out) (same k r.0 r.1)
        ∙ ap (λ (f : ℕ → List ℕ → List ℕ). last_first f (keep count (needs' k)) out) inner
        ∙ sym (kept needs' count d (k ∷ path) (needs' k) out) in
        ap (λ (l : List ℕ). pick (fresh count path k out) (l ++ (k ∷ [])) out) all)
        (λ (t : listed count k ≡ false). rw t)
        (decide (listed count k))

    pub order_same : order_of needs count ≡ order_of needs' count
    unfolding order_of
    order_same = ap (λ (f : ℕ → List ℕ → List ℕ). first_first f (up_from 2 count) [] ++ (1 ∷ [])) (fun_ext (λ j. fun_ext (λ o. visit_same count [] j o)))
