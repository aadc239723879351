-- The numbers below `n` as an iterator gives them, upwards or downwards, each by a function. Assumes nothing.
use mathlib.Core.Path.{◌≡◌, sym, ap, ◌∙◌}
use mathlib.Core.Bool.{true}
use mathlib.Core.List.{List, [], ◌∷◌, map, reverse, reverse_aux}
use Prim.Native.Nat.{ℕ, suc, ◌+◌, ◌-◌, ◌<◌}
use native.Mathlib.Omega.{arith}
use native.Mathlib.Decide.{dec_lt}
use lib.ListN.{length, get_or, length-map, length-reverse}
use Rattle.std.specs.Prelude.{Option, Some}
use Rattle.std.specs.Option.{option_map}
use Rattle.std.specs.Iterator.Runs.{Run}
use Rattle.std.specs.declared.ops.Range.{Range}
use Rattle.std.proofs.iter.Yields.{nat_range_steps}
use Rattle.std.proofs.iter.runs.Sources.{nat_range_steps_back, range_runs, range_runs_back}
use Rattle.std.proofs.lemmas.List.{get_or-map}
use Rattle.words.specs.Memory.{mem, tab}
use Rattle.words.proofs.Slices.{mem_ext, length_tab, mem_tab}

-- ---- a list backwards

past_reversed : (l r : List ℕ) (j : ℕ) → mem (reverse_aux l r) (length l + j) ≡ mem r j
unfolding mem
past_reversed [] r j = ap (λ (i : ℕ). mem r i) (omega arith)
past_reversed (x ∷ xs) r j =
    let n : suc (length xs) + j ≡ length xs + suc j = omega arith in
    ap (λ (i : ℕ). mem (reverse_aux xs (x ∷ r)) i) n ∙ past_reversed xs (x ∷ r) (suc j)

mem_reversed : (l r : List ℕ) (i : ℕ) → i < length l → mem (reverse_aux l r) i ≡ mem l (length l - 1 - i)
unfolding mem
mem_reversed [] r i h = absurd (omega arith)
mem_reversed (x ∷ xs) r i h = go (dec_lt i (length xs)) (mem_reversed xs (x ∷ r) i)
  where
    go :
        Dec (i < length xs) → (i < length xs → mem (reverse_aux xs (x ∷ r)) i ≡ mem xs (length xs - 1 - i))
        → mem (reverse_aux xs (x ∷ r)) i ≡ mem (x ∷ xs) (suc (length xs) - 1 - i)
    go (yes l) before =
        let n : suc (length xs - 1 - i) ≡ suc (length xs) - 1 - i = omega arith in
        before l ∙ ap (λ (k : ℕ). mem (x ∷ xs) k) n
    go (no l) before =
        let n : i ≡ length xs + 0 = omega arith in
        let m : 0 ≡ suc (length xs) - 1 - i = omega arith in
        ap (λ (k : ℕ). mem (reverse_aux xs (x ∷ r)) k) n ∙ (past_reversed xs (x ∷ r) 0 ∙ ap (λ (k : ℕ). mem (x ∷ xs) k) m)

mem_back : (n : ℕ) (f : ℕ → ℕ) (i : ℕ) → i < n → mem (reverse (tab n f)) i ≡ f (n - 1 - i)
mem_back n f i l =
    let many : length (tab n f) ≡ n = length_tab n f in
    mem_reversed (tab n f) [] i (omega (arith, many))
    ∙ (ap (λ (k : ℕ). mem (tab n f) (k - 1 - i)) many ∙ mem_tab n f (n - 1 - i) (omega arith))

-- ---- a run that went on to its end

module _ {S : Type 0} {steps : S → Option ℕ → S → Type 0} (p : Run steps) (f : ℕ → ℕ) where
  given : (i m : ℕ) → i < p.len → option_map (λ y. y) (p.at i) ≡ Some m → mem (map f p.items) i ≡ f m
  unfolding mem
  given i m l e =
      let s = sym (p.reads i 0 l) ∙ e in
      let item : get_or p.items i 0 ≡ m = cc in
      get_or-map f p.items i 0 0 (omega (arith, p.long)) ∙ ap f item

-- the numbers below `n`
abbrev pub below : ℕ → Range ℕ
below n = record { start = 0; end = n }

pub counted_up :
    (p : Run nat_range_steps) (n : ℕ) (f : ℕ → ℕ) → p.from ≡ below n → p.whole ≡ true → map f p.items ≡ tab n f
counted_up p n f is whole =
    let first : p.from.start ≡ 0 = ap (λ (r : Range ℕ). r.start) is in
    let end : p.from.end ≡ n = ap (λ (r : Range ℕ). r.end) is in
    let up = range_runs p p.seen in
    let many : p.len ≡ n = omega (arith, up.1 whole, first, end) in
    let long : length (map f p.items) ≡ n = omega (arith, length-map p.items f, p.long, many) in
    mem_ext (map f p.items) (tab n f) (long ∙ sym (length_tab n f))
    (λ i l.
    let k : p.from.start + i ≡ i = omega (arith, first) in
    given p f i i (omega (arith, long, many)) (up.3 i (omega (arith, long, many)) ∙ ap Some k) ∙ sym (mem_tab n f i (omega (arith, long))))

pub counted_down :
    (p : Run nat_range_steps_back) (n : ℕ) (f : ℕ → ℕ) → p.from ≡ below n → p.whole ≡ true → map f p.items ≡ reverse (tab n f)
counted_down p n f is whole =
    let first : p.from.start ≡ 0 = ap (λ (r : Range ℕ). r.start) is in
    let end : p.from.end ≡ n = ap (λ (r : Range ℕ). r.end) is in
    let down = range_runs_back p p.seen in
    let many : p.len ≡ n = omega (arith, down.1 whole, first, end) in
    let long : length (map f p.items) ≡ n = omega (arith, length-map p.items f, p.long, many) in
    mem_ext (map f p.items) (reverse (tab n f)) (long ∙ sym (length-reverse (tab n f) ∙ length_tab n f))
    (λ i l.
    let k : p.from.end - 1 - i ≡ n - 1 - i = omega (arith, end) in
    given p f i (n - 1 - i) (omega (arith, long, many)) (down.3 i (omega (arith, long, many)) ∙ ap Some k) ∙ sym (mem_back n f i (omega (arith, long))))
