-- The numbers below `n` from the last to the first, and the last of them that passes a test. Assumes nothing.
use mathlib.Core.Path.{◌≡◌, refl, ap, ◌∙◌}
use mathlib.Core.Bool.{Bool, true, false, cond}
use mathlib.Core.List.{List, [], ◌∷◌}
use Prim.Native.Nat.{ℕ, zero, suc, ◌<◌}
use native.Mathlib.Omega.{arith}
use lib.Dec.{eqb}
use Rattle.std.specs.Prelude.{Option, Some, None}
use Rattle.std.specs.List.{find}
use Rattle.std.specs.Option.{option_map}
use Rattle.std.specs.Iterator.{AlwaysYields}
use Rattle.std.specs.Iterator.Adapters.{rev_steps, rev_source}
use Rattle.std.specs.declared.ops.Range.{Range}
use Rattle.std.specs.declared.iter.Rev.{Rev}
use Rattle.std.proofs.iter.runs.Sources.{nat_range_steps_back}
use Rattle.words.specs.Choice.{pick}
use Rattle.object.specs.ProgramHeader.{type_at, segment_at, dynamic_in}

unfoldable pub down_from : ℕ → List ℕ
down_from zero = []
down_from (suc n) = n ∷ down_from n

pub back_yields : (n : ℕ) (s : Rev (Range ℕ)) → (rev_source s).start ≡ 0 → (rev_source s).end ≡ n
    → AlwaysYields (rev_steps nat_range_steps_back) (λ x. x) s (down_from n)
unfolding down_from
back_yields zero s a e = λ x j p. absurd (omega (arith, p.1.0, e))
back_yields (suc n) s a e = (
  (λ j p. absurd (omega (arith, p.1.0, a, e))),
  λ x j p. (omega (arith, p.1.1, p.1.2, e), back_yields n j (p.0 ∙ a) (omega (arith, p.1.2, e))),
)

abbrev option_size : Option ℕ → ℕ
option_size None = 0
option_size (Some i) = 1

none_some : {i : ℕ} → None ≡ Some i → ⊥
none_some {i} e = let t : 0 ≡ 1 = ap (λ (o : Option ℕ). option_size o) e in absurd (omega (arith, t))

module _ (file : List ℕ) where
  abbrev pub dynamic : ℕ → Bool
  dynamic i = eqb (type_at file i) 2

  pub last_is : (n : ℕ) → option_map (λ i. (segment_at file i).vaddr) (find dynamic (down_from n)) ≡ dynamic_in file n
  unfolding down_from dynamic_in
  last_is zero = refl
  last_is (suc n) = go (dynamic n) (last_is n)
    where
      go : (b : Bool) → option_map (λ i. (segment_at file i).vaddr) (find dynamic (down_from n)) ≡ dynamic_in file n
          → option_map (λ i. (segment_at file i).vaddr) (cond b (Some n) (find dynamic (down_from n))) ≡ pick b (Some (segment_at file n).vaddr) (dynamic_in file n)
      go true e = refl
      go false e = e

  pub last_below : (n i : ℕ) → find dynamic (down_from n) ≡ Some i → i < n
  unfolding down_from
  last_below zero i e = absurd (none_some e)
  last_below (suc n) i e = go (dynamic n) e (last_below n i)
    where
      go : (b : Bool) → cond b (Some n) (find dynamic (down_from n)) ≡ Some i → (find dynamic (down_from n) ≡ Some i → i < n) → i < suc n
      go true e h = let s : n ≡ i = cc in omega (arith, s)
      go false e h = omega (arith, h e)
