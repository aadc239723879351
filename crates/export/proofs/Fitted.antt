-- Words, and zeros after them. Assumes nothing.
use Prim.Native.Nat.{ℕ, zero, suc, min}
use mathlib.Core.Path.{◌≡◌, refl, ap}
use mathlib.Core.List.{List, [], ◌∷◌, ◌++◌}
use native.Mathlib.Omega.{arith}
use lib.ListN.{length, take, drop, replicate}
use Rattle.words.specs.Memory.{mem, tab}
use Rattle.export.specs.Calls.{fitted}

zeros : (size : ℕ) → replicate size 0 ≡ tab size (mem [])
unfolding mem tab
zeros zero = refl
zeros (suc n) = ap (λ (l : List ℕ). 0 ∷ l) (zeros n)

-- as many of the words as fit, and zeros to the end
pub words_fitted : (size : ℕ) (words : List ℕ) (n : ℕ) → n ≡ min (length words) size → take n words ++ drop n (replicate size 0) ≡ fitted size words
unfolding mem tab fitted
words_fitted zero words zero e = refl
words_fitted zero words (suc n) e = absurd (omega arith)
words_fitted (suc size) [] zero e = zeros (suc size)
words_fitted (suc size) [] (suc n) e = absurd (omega arith)
words_fitted (suc size) (w ∷ words) zero e = absurd (omega arith)
words_fitted (suc size) (w ∷ words) (suc n) e = ap (λ (l : List ℕ). w ∷ l) (words_fitted size words n (omega arith))
