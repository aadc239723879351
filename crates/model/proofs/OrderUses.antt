-- What a walk over the order meets, and that the Rust's loop has one outcome. Assumes nothing.
use Prim.Native.Nat.{ℕ, zero, suc, ◌+◌, ◌≤◌, ◌<◌}
use mathlib.Core.Path.{◌≡◌, sym, ap, ◌∙◌}
use mathlib.Core.Bool.{true}
use mathlib.Core.Logic.{⊎_elim}
use mathlib.Core.List.{List, [], ◌∷◌, ◌++◌}
use native.Mathlib.Omega.{arith}
use lib.ListN.{length, get_or}
use Rattle.model.specs.Order.{has, order_of}
use Rattle.model.specs.EventStack.{Event, Runs, RustOrder}
use Rattle.model.specs.EventStack.Runs.{done, emits, skips, opens}
use Rattle.model.proofs.OrderLaws.{has_head, has_cons, clash, nothing_else, order_length}
use Rattle.model.proofs.OrderStack.{rust_order}

has_at : (xs : List ℕ) (i : ℕ) → i < length xs → has (get_or xs i 0) xs ≡ true
has_at [] i h = absurd (omega arith)
has_at (x ∷ xs) zero h = has_head x xs
has_at (x ∷ xs) (suc i) h = has_cons (get_or xs i 0) x xs (has_at xs i (omega arith))

-- each number of the order is an object's, and not the host's
pub order_range :
    (needs : ℕ → List ℕ) (count i : ℕ) → i < count + 1
    → (1 ≤ get_or (order_of needs count) i 0) × (get_or (order_of needs count) i 0 < count + 2)
order_range needs count i h =
    let k : ℕ = get_or (order_of needs count) i 0 in
    ⊎_elim (λ (e : k ≡ 1). omega arith) (λ (b : (2 ≤ k) × (k < count + 2)). omega arith)
    (nothing_else needs count k (has_at (order_of needs count) i (omega (arith, order_length needs count))))

-- the Rust's loop has one outcome
pub one_outcome :
    {needs : ℕ → List ℕ} {count : ℕ} {r r' : List ℕ} {stack : List Event} {seen out : List ℕ}
    → Runs needs count r stack seen out
    → Runs needs count r' stack seen out
    → r ≡ r'
one_outcome (done e) (done e') = e ∙ sym e'
one_outcome (emits a) (emits b) = one_outcome a b
one_outcome (skips h a) (skips h' b) = one_outcome a b
one_outcome (skips h a) (opens h' b) = absurd (clash h h')
one_outcome (opens h a) (skips h' b) = absurd (clash h' h)
one_outcome (opens h a) (opens h' b) = one_outcome a b

-- so whatever order it ends with is `order_of`
pub rust_order_is : RustOrder
rust_order_is needs count r h =
    let o = rust_order needs count in
    o.2 ∙ ap (λ (l : List ℕ). l ++ (1 ∷ [])) (one_outcome o.1 h)
