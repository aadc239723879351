-- Words that go to a list one after another, and what the loops over an order leave. Assumes nothing.
use mathlib.Core.Path.{◌≡◌, refl, sym, ap, ◌∙◌, subst}
use mathlib.Core.List.{List, [], ◌∷◌, ◌++◌}
use mathlib.Core.Logic.{◌⊎◌, inl, inr, ⊎_elim}
use native.Mathlib.Decide.{dec_lt}
use Prim.Native.Nat.{ℕ, zero, suc, ◌+◌, ◌-◌, ◌≤◌, ◌<◌}
use native.Mathlib.Omega.{arith}
use lib.ListN.{length, get_or, drop, set, replicate, drop_of_length-le, length-append, length-replicate, get_or-replicate, get_or-append}
use lib.Seq.{drop-cons, get_or-append-add}
use Rattle.words.specs.Memory.{mem, write, patch}
use Rattle.words.proofs.Slices.{mem_ext, length_patch, mem_patch_at, patch_none, patch_same, patch_past, patch_one, patch_join}
use Rattle.words.proofs.Memory.{write_in, write_out}
use Rattle.start_stop.specs.StartStop.{in_turn, padded}
use Rattle.start_stop.specs.Steps.Listed.{Put}

split : (a b : ℕ) → (a < b) ⊎ (b ≤ a)
split a b = go (dec_lt a b)
  where
    go : Dec (a < b) → (a < b) ⊎ (b ≤ a)
    go (yes h) = inl h
    go (no h) = inr (omega arith)

-- ---- the memory of two lists, one after the other

mem_left : (a b : List ℕ) (k : ℕ) → k < length a → mem a k ≡ mem (a ++ b) k
unfolding mem
mem_left a b k l = sym (get_or-append a b 0 k l)

mem_right : (a b : List ℕ) (k : ℕ) → mem b k ≡ mem (a ++ b) (length a + k)
unfolding mem
mem_right a b k = sym (get_or-append-add a b k 0)

-- ---- Put

pub put_none : (n : ℕ) (xs : List ℕ) → Put [] n xs xs n
put_none n xs = record { list = sym (patch_none xs n (mem [])); next = omega arith }

pub put_both :
    {a b : List ℕ} {n m r : ℕ} {xs ys zs : List ℕ} → Put a n xs ys m → Put b m ys zs r → Put (a ++ b) n xs zs r
put_both {a} {b} {n} {m} {r} {xs} {ys} {zs} p q =
    record {
      list =
          q.list
          ∙ (ap (λ (l : List ℕ). patch l m (length b) (mem b)) p.list
          ∙ (ap (λ (i : ℕ). patch (patch xs n (length a) (mem a)) i (length b) (mem b)) p.next
          ∙ (patch_join xs n (length a) (length b) (mem a) (mem b) (mem (a ++ b)) (λ k l. mem_left a b k l) (λ k l. mem_right a b k)
          ∙ ap (λ (i : ℕ). patch xs n i (mem (a ++ b))) (sym (length-append a b)))));
      next = omega (arith, q.next, p.next, length-append a b);
    }

-- one word
one_word : (v k : ℕ) → k < 1 → v ≡ mem (v ∷ []) k
unfolding mem
one_word v zero l = refl
one_word v (suc k) l = absurd (omega arith)

pub put_one : (n v : ℕ) {xs ys : List ℕ} → ys ≡ patch xs n 1 (λ _. v) → Put (v ∷ []) n xs ys (n + 1)
put_one n v {xs} {ys} e =
    record { list = e ∙ patch_same xs n 1 (λ _. v) (mem (v ∷ [])) (λ k l. one_word v k l); next = omega arith }

pub put_word : (n v : ℕ) {xs ys : List ℕ} → ys ≡ set xs n v → Put (v ∷ []) n xs ys (n + 1)
put_word n v {xs} {ys} e = put_one n v (e ∙ patch_one xs n v)

-- one that falls past the end
pub put_past : (n v : ℕ) (xs : List ℕ) → length xs ≤ n → Put (v ∷ []) n xs xs (n + 1)
put_past n v xs past = put_one n v (sym (patch_past xs n 1 (λ _. v) past))

mem_zeros : (n i : ℕ) → i < n → mem (replicate n 0) i ≡ 0
unfolding mem
mem_zeros n i h = get_or-replicate n i 0 0 h

-- what a list of zeros holds then
pub put_zeros : (ws xs ys : List ℕ) (r : ℕ) → Put ws 0 xs ys r → xs ≡ replicate (length xs) 0 → length ws ≤ length xs → ys ≡ padded (length xs) ws
put_zeros ws xs ys r p z l =
    mem_ext ys (padded (length xs) ws) long (λ i h. at i (omega (arith, same_length)))
  where
    same_length : length ys ≡ length xs
    same_length = ap length p.list ∙ length_patch xs 0 (length ws) (mem ws)

    long : length ys ≡ length (padded (length xs) ws)
    long =
        let rest : List ℕ = replicate (length xs - length ws) 0 in
        let a : length (padded (length xs) ws) ≡ length ws + length rest = length-append ws (replicate (length xs - length ws) 0) in
        let b : length rest ≡ length xs - length ws = length-replicate (length xs - length ws) 0 in
        omega (arith, same_length, a, b)

    zero_at : (i : ℕ) → i < length xs → mem xs i ≡ 0
    zero_at i h = ap (λ (l : List ℕ). mem l i) z ∙ mem_zeros (length xs) i h

    at : (i : ℕ) → i < length xs → mem ys i ≡ mem (padded (length xs) ws) i
    at i h =
        ap (λ (l : List ℕ). mem l i) p.list ∙ (mem_patch_at xs 0 (length ws) (mem ws) i h ∙ ⊎_elim written kept (split i (length ws)))
      where
        written : i < length ws → write (mem xs) 0 (length ws) (mem ws) i ≡ mem (padded (length xs) ws) i
        written l =
            let n : i - 0 ≡ i = omega arith in
            write_in (mem xs) 0 (length ws) (mem ws) i (omega arith) ∙ (ap (mem ws) n ∙ mem_left ws (replicate (length xs - length ws) 0) i l)

        kept : length ws ≤ i → write (mem xs) 0 (length ws) (mem ws) i ≡ mem (padded (length xs) ws) i
        kept l =
            let n : i ≡ length ws + (i - length ws) = omega arith in
            write_out (mem xs) 0 (length ws) (mem ws) i (inr (omega arith))
            ∙ (zero_at i h
            ∙ (sym (mem_zeros (length xs - length ws) (i - length ws) (omega arith))
            ∙ (mem_right ws (replicate (length xs - length ws) 0) (i - length ws) ∙ ap (λ (k : ℕ). mem (padded (length xs) ws) k) (sym n))))

-- ---- the objects of an order, one after another

-- the first of what is left
pub turn_next :
    (gives : ℕ → List ℕ) (l : List ℕ) (i : ℕ) → i < length l → in_turn gives (drop i l) ≡ gives (get_or l i 0) ++ in_turn gives (drop (i + 1) l)
unfolding in_turn
turn_next gives l i h =
    let n : suc i ≡ i + 1 = omega arith in
    ap (in_turn gives) (drop-cons l i 0 h) ∙ ap (λ (k : ℕ). gives (get_or l i 0) ++ in_turn gives (drop k l)) n

-- nothing is left
pub turns_end : (gives : ℕ → List ℕ) (l : List ℕ) (i : ℕ) → length l ≤ i → in_turn gives (drop i l) ≡ []
unfolding in_turn
turns_end gives l i h = ap (in_turn gives) (drop_of_length-le l {i = i} h)

-- what the loop leaves is what is left, put after what was
abbrev pub Left : List ℕ → ℕ → List ℕ → List ℕ → ℕ → List ℕ → Type 0
Left all n₀ xs₀ rest n xs = (ys : List ℕ) (r : ℕ) → Put rest n xs ys r → Put all n₀ xs₀ ys r

pub left_next :
    {all rest a b : List ℕ} {n₀ n m : ℕ} {xs₀ xs ys : List ℕ} → Left all n₀ xs₀ rest n xs → rest ≡ a ++ b → Put a n xs ys m
    → Left all n₀ xs₀ b m ys
left_next {all} {rest} {a} {b} {n₀} {n} {m} {xs₀} {xs} {ys} left e p zs r q =
    left zs r (subst (λ (l : List ℕ). Put l n xs zs r) (sym e) (put_both p q))

pub left_end : {all rest : List ℕ} {n₀ n : ℕ} {xs₀ xs : List ℕ} → Left all n₀ xs₀ rest n xs → rest ≡ [] → Put all n₀ xs₀ xs n
left_end {all} {rest} {n₀} {n} {xs₀} {xs} left e = left xs n (subst (λ (l : List ℕ). Put l n xs xs n) (sym e) (put_none n xs))
