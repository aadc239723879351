-- The words by which every definition chooses and tests. Assumes nothing.
use Rattle.std.specs.Prelude.{ℕ, zero, suc, Bool, true, false, List, [], ◌∷◌}

-- the first where the test holds, else the second
abbrev pub pick {ℓ} : {A : Type ℓ} → Bool → A → A → A
pick true a b = a
pick false a b = b

abbrev pub both : Bool → Bool → Bool
both true b = b
both false b = false

abbrev pub either : Bool → Bool → Bool
either true b = true
either false b = b

-- the test holds of each element, of some element
unfoldable pub every {ℓ} : {A : Type ℓ} → (A → Bool) → List A → Bool
every p [] = true
every p (x ∷ xs) = both (p x) (every p xs)

unfoldable pub some {ℓ} : {A : Type ℓ} → (A → Bool) → List A → Bool
some p [] = false
some p (x ∷ xs) = either (p x) (some p xs)

-- the test holds of each number below `n`
unfoldable pub below : (ℕ → Bool) → ℕ → Bool
below p zero = true
below p (suc n) = both (below p n) (p n)
