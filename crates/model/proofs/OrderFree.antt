-- Where only the program has COPY entries, every order leaves the same memory. Assumes nothing.
use mathlib.Core.Path.{◌≡◌, refl, sym, ap, ◌∙◌, fun_ext}
use mathlib.Core.Logic.{◌⊎◌, inl, inr, ⊎_elim}
use mathlib.Core.List.{List, [], ◌∷◌}
use Prim.Native.Nat.{ℕ, zero, suc, ◌<◌}
use native.Mathlib.Omega.{arith}
use native.Mathlib.Decide.{dec_lt, ℕ_discrete}
use Rattle.words.specs.Memory.{Mem}
use Rattle.model.specs.Objects.{Objs, count, obj, InSpan}
use Rattle.model.specs.Relocation.{relocate, run, placed, bound}
use Rattle.model.specs.Sound.{Sound}
use Rattle.model.specs.Longer.{OrderFree}
use Rattle.words.proofs.Memory.{in_or_out}
use Rattle.model.proofs.Frame.{OutSpan, relocate_frame}
use Rattle.model.proofs.Orders.{Only, only_tail, times_head, times_early, run_append, run_keeps, run_once}

-- in a span, or outside all of them
find_span :
    (S : Objs) (i n : ℕ)
    → ((k : ℕ) × (k < n) × InSpan (obj S k) i)
    ⊎ ((k : ℕ) → k < n → OutSpan (obj S k) i)
find_span S i zero = inr (λ k l. absurd (omega arith))
find_span S i (suc n) =
    ⊎_elim
    (λ f. inl (f.0, omega arith, f.2))
    (λ below. ⊎_elim (λ w. inl (n, omega arith, w)) (λ w. inr (λ k l. last k l below w (ℕ_discrete k n)))
    (in_or_out (obj S n).offset (obj S n).span i))
    (find_span S i n)
  where
    last :
        (k : ℕ) → k < suc n → ((j : ℕ) → j < n → OutSpan (obj S j) i)
        → OutSpan (obj S n) i → Dec (k ≡ n)
        → OutSpan (obj S k) i
    last k l below w (yes e) = rw e w
    last k l below w (no e) = below k (omega arith)

run_outside :
    (S : Objs) → Sound S → (ks : List ℕ) → Only (count S) ks → (m : Mem) (i : ℕ)
    → ((k : ℕ) → k < count S → OutSpan (obj S k) i)
    → run S ks m i ≡ m i
unfolding run
run_outside S sound [] only m i w = refl
run_outside S sound (k ∷ ks) only m i w =
    let r = only k (times_head k ks) in
    run_outside S sound ks (only_tail (count S) k ks only) (relocate S k m) i w
    ∙ relocate_frame S sound k (omega arith) r.1 m i (w k r.1)

pub order_free : OrderFree
unfolding bound run
order_free S order order' sound only o o' i =
    rw (o.split, o'.split, run_append S o.front (1 ∷ []) (placed S), run_append S o'.front (1 ∷ []) (placed S))
    (ap (λ (m : Mem). relocate S 1 m i) (fun_ext front))
  where
    front : (j : ℕ) → run S o.front (placed S) j ≡ run S o'.front (placed S) j
    front j = ⊎_elim
        (λ f. inside f.0 f.1 f.2 (dec_lt f.0 2))
        (λ w. run_outside S sound o.front o.only (placed S) j w
        ∙ sym (run_outside S sound o'.front o'.only (placed S) j w))
        (find_span S j (count S))
      where
        inside :
            (k : ℕ) → k < count S → InSpan (obj S k) j → Dec (k < 2)
            → run S o.front (placed S) j ≡ run S o'.front (placed S) j
        inside k h w (yes l) =
            run_keeps S sound o.front o.only k h (times_early (count S) o.front k o.only l) (placed S) j w
            ∙ sym (run_keeps S sound o'.front o'.only k h (times_early (count S) o'.front k o'.only l) (placed S) j w)
        inside k h w (no l) =
            run_once S sound o.front o.only k (omega arith) h (o.once k (omega arith) h) (only k (omega arith) h) (placed S) j w
            ∙ sym
            (run_once S sound o'.front o'.only k (omega arith) h (o'.once k (omega arith) h) (only k (omega arith) h) (placed S) j w)
