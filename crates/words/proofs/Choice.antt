-- What the choices of specs/Choice.antt tell. Assumes nothing.
use Rattle.std.proofs.Common.{◌≡◌, Bool, true, false, ◌⊎◌, refl, inl, inr}
use Rattle.words.specs.Choice.{both, either}

pub both_true : (s t : Bool) → both s t ≡ true → (s ≡ true) × (t ≡ true)
both_true true t e = (refl, e)
both_true false true e = (e, refl)
both_true false false e = (e, e)

pub both_false : (s t : Bool) → t ≡ false → both s t ≡ false
both_false true t e = e
both_false false t e = refl

pub either_true : (s t : Bool) → either s t ≡ true → (s ≡ true) ⊎ (t ≡ true)
either_true true t e = inl refl
either_true false t e = inr e

pub either_left : (s t : Bool) → s ≡ true → either s t ≡ true
either_left true t e = refl
either_left false true e = refl
either_left false false e = e

pub either_right : (s t : Bool) → t ≡ true → either s t ≡ true
either_right true t e = refl
either_right false t e = e
