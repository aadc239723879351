-- The first items of a list: one more of them, and what the answer's value says. Assumes nothing.
use mathlib.Core.Path.{◌≡◌, sym, ◌∙◌}
use mathlib.Core.List.{List, [], ◌∷◌, ◌++◌}
use Prim.Native.Nat.{ℕ, ◌<◌, ◌≤◌}
use native.Mathlib.Omega.{arith}
use lib.ListN.{length, length-append}
use Rattle.std.specs.Prelude.{None, Some, Result, Ok, Err}
use Rattle.std.specs.Result.{result_ok}
use Rattle.std.proofs.lemmas.Option.{none-some, same_Some}
use Rattle.std.proofs.lemmas.List.{take_at, take-append-le}
use Rattle.words.specs.CopyVec.{CopyVec}
use Rattle.object.specs.Steps.FirstOf.{FirstOf}

-- one item more, where the table is full, and where there were more before
pub first_full : (n : ℕ) (xs : List ℕ) (x : ℕ) (v : CopyVec ℕ) → FirstOf n xs (Ok v) → length v.items ≡ n → FirstOf n (xs ++ x ∷ []) (Err v)
first_full n xs x v f e =
    let l : length xs ≡ n = rw (← f.1) e in
    (omega (arith, l, length-append xs (x ∷ [])), f.1 ∙ sym (take_at xs (x ∷ []) n l))

pub first_over : (n : ℕ) (xs : List ℕ) (x : ℕ) (v : CopyVec ℕ) → FirstOf n xs (Err v) → FirstOf n (xs ++ x ∷ []) (Err v)
first_over n xs x v f =
    (omega (arith, f.0, length-append xs (x ∷ [])), f.1 ∙ sym (take-append-le n xs (x ∷ []) (omega (arith, f.0))))

module _ {A : Type 0} (n : ℕ) (xs : List A) where
  pub first_all :
      (r : Result (CopyVec A) (CopyVec A)) (v : CopyVec A) → FirstOf n xs r → result_ok r ≡ Some v → (length xs ≤ n) × (v.items ≡ xs)
  first_all (Ok w) v f e = (f.0, rw (same_Some w v e) at f.1)
  first_all (Err w) v f e = absurd (none-some v e)

  pub first_more : (r : Result (CopyVec A) (CopyVec A)) → FirstOf n xs r → result_ok r ≡ None → n < length xs
  first_more (Ok w) f e = absurd (none-some w (sym e))
  first_more (Err w) f e = f.0
