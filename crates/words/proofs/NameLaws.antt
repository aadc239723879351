-- The laws of names: the name at a place is the part up to its zero byte, and equal names are found to be equal. Assumes nothing.
use Rattle.std.proofs.Common.{◌≡◌, ℕ, suc, ◌+◌, ◌-◌, ◌<◌, ◌≤◌, min, Bool, true, false, eqb, ltb, List, [], ◌∷◌, length, get_or, take, drop, sym, refl, ap, ◌∙◌, add-one, arith, take_all, length-drop, drop_of_length-le, drop-cons, eq-eqb, ne_eqb, eqb-true}
use Rattle.std.specs.Prelude.{cond, position, unwrap_or}
use Rattle.std.specs.List.{position_or_len}
use Rattle.std.specs.Cmp.Lexicographic.{pointwise}
use Rattle.std.proofs.lemmas.List.Recursion.{is_position_or_len}
use native.Mathlib.Decide.{dec_lt}
use borrow.Author.Tests.{eqb-false, ltb-false}
use Rattle.words.specs.Choice.{pick}
use Rattle.words.specs.Names.{until_zero, name_at, same_bytes}
use Rattle.words.proofs.Choice.{both_true}

-- ---- the name at a place

-- a byte that is not 0 is the name's first
pub name_more : (xs : List ℕ) (i : ℕ) → i < length xs → (get_or xs i 0 ≡ 0 → ⊥) → name_at xs i ≡ get_or xs i 0 ∷ name_at xs (i + 1)
unfolding until_zero
name_more xs i l ne = rw (add-one, drop-cons xs i 0, ne_eqb (get_or xs i 0) 0 ne)

-- a 0 ends it
pub name_stop : (xs : List ℕ) (i : ℕ) → i < length xs → get_or xs i 0 ≡ 0 → name_at xs i ≡ []
unfolding until_zero
name_stop xs i l e = rw (drop-cons xs i 0, eq-eqb (get_or xs i 0) 0 e)

-- and so does the end
pub name_none : (xs : List ℕ) (i : ℕ) → length xs ≤ i → name_at xs i ≡ []
unfolding until_zero
name_none xs i l = ap until_zero (drop_of_length-le xs l)

front : (b : ℕ) (bs : List ℕ) (t : Bool) → take (length (until_zero bs)) bs ≡ until_zero bs
    → take (length (pick t [] (b ∷ until_zero bs))) (b ∷ bs) ≡ pick t [] (b ∷ until_zero bs)
front b bs true ih = refl
front b bs false ih = ap (λ (r : List ℕ). b ∷ r) ih

short : (b : ℕ) (bs : List ℕ) (t : Bool) → length (until_zero bs) ≤ length bs
    → length (pick t [] (b ∷ until_zero bs)) ≤ suc (length bs)
short b bs true ih = omega arith
short b bs false ih = omega arith

-- it is a front of what is there
pub name_front : (l : List ℕ) → take (length (until_zero l)) l ≡ until_zero l
unfolding until_zero
name_front [] = refl
name_front (b ∷ bs) = front b bs (eqb b 0) (name_front bs)

pub name_short : (l : List ℕ) → length (until_zero l) ≤ length l
unfolding until_zero
name_short [] = omega arith
name_short (b ∷ bs) = short b bs (eqb b 0) (name_short bs)

-- so the part up to the first 0, or to the end, is the name
name_length : (l : List ℕ) → length (until_zero l) ≡ position_or_len (λ b. eqb b 0) l
unfolding until_zero
name_length = is_position_or_len (λ l. length (until_zero l)) (λ b. eqb b 0) refl (λ b bs. one b bs (eqb b 0))
  where
    one : (b : ℕ) (bs : List ℕ) (t : Bool) → length (pick t [] (b ∷ until_zero bs)) ≡ cond t 0 (1 + length (until_zero bs))
    one b bs true = refl
    one b bs false = omega arith

name_end : (l : List ℕ) {n : ℕ} → n ≡ unwrap_or (position (λ b. eqb b 0) l) (length l) → n ≡ length (until_zero l)
name_end l {n} e = go (ltb (position_or_len (λ b. eqb b 0) l) (length l)) refl
  where
    go : (t : Bool) → ltb (position_or_len (λ b. eqb b 0) l) (length l) ≡ t → n ≡ length (until_zero l)
    go true h = rw h at e ∙ sym (name_length l)
    go false h = let e' : n ≡ length l = rw h at e in omega (arith, name_length l, name_short l, ltb-false _ _ h)

pub name_part : (l : List ℕ) {n : ℕ} → n ≡ unwrap_or (position (λ b. eqb b 0) l) (length l) → (n ≤ length l) × (take n l ≡ until_zero l)
name_part l e = (omega (arith, name_end l e, name_short l), rw (name_end l e) (name_front l))

-- a place past the end may as well be the end
pub name_end_at : (xs : List ℕ) (at : ℕ) {p : ℕ} → p ≡ min at (length xs) → name_at xs p ≡ name_at xs at
name_end_at xs at {p} e = go (dec_lt at (length xs))
  where
    go : Dec (at < length xs) → name_at xs p ≡ name_at xs at
    go (yes h) = let q : p ≡ at = omega arith in rw q
    go (no h) = name_none xs p (omega arith) ∙ sym (name_none xs at (omega arith))

-- and what is there is all from that place on
pub name_rest : (xs : List ℕ) (at : ℕ) {p : ℕ} → p ≡ min at (length xs) → until_zero (take (length xs - p) (drop p xs)) ≡ name_at xs at
name_rest xs at {p} e =
    ap until_zero (take_all (length xs - p) (drop p xs) (omega (arith, length-drop p xs))) ∙ name_end_at xs at e

-- ---- equal names

-- what is found to be the same is
pub same_sound : (xs ys : List ℕ) → same_bytes xs ys ≡ true → xs ≡ ys
unfolding same_bytes
same_sound [] [] e = refl
same_sound [] (y ∷ ys) e = cc
same_sound (x ∷ xs) [] e = cc
same_sound (x ∷ xs) (y ∷ ys) e =
    let h = both_true (eqb x y) (same_bytes xs ys) e in
    rw (eqb-true x y h.0, same_sound xs ys h.1)

-- and what is the same is found to be
pub same_refl : (xs : List ℕ) → same_bytes xs xs ≡ true
unfolding same_bytes
same_refl [] = refl
same_refl (x ∷ xs) = rw (eq-eqb x x refl, same_refl xs)

pub same_complete : (xs ys : List ℕ) → xs ≡ ys → same_bytes xs ys ≡ true
same_complete xs ys e = rw e (same_refl ys)

-- names of two lengths are not
pub same_lengths : (xs ys : List ℕ) → (length xs ≡ length ys → ⊥) → same_bytes xs ys ≡ false
same_lengths xs ys ne = go (same_bytes xs ys) refl
  where
    go : (t : Bool) → same_bytes xs ys ≡ t → same_bytes xs ys ≡ false
    go true e = absurd (ne (ap length (same_sound xs ys e)))
    go false e = e

-- the test of slices
pub same_test : (xs ys : List ℕ) → pointwise eqb xs ys ≡ same_bytes xs ys
unfolding same_bytes
same_test [] [] = refl
same_test [] (y ∷ ys) = refl
same_test (x ∷ xs) [] = refl
same_test (x ∷ xs) (y ∷ ys) = grind (arith, same_test xs ys)

-- ---- a name in an image against one that is given, from place `i` of both on

module _ (xs ys : List ℕ) (i : ℕ) where
  -- the same byte, and not 0: what follows decides
  pub from_more : i < length xs → i < length ys → get_or xs i 0 ≡ get_or ys i 0 → (get_or ys i 0 ≡ 0 → ⊥)
      → same_bytes (name_at xs i) (drop i ys) ≡ same_bytes (name_at xs (i + 1)) (drop (i + 1) ys)
  unfolding same_bytes
  from_more l l' e ne = rw (name_more xs i l (λ z. ne (sym e ∙ z)), add-one i, drop-cons ys i 0 l', eq-eqb _ _ e)

  -- the name in the image ended
  pub from_zero : i < length xs → i < length ys → get_or xs i 0 ≡ 0 → same_bytes (name_at xs i) (drop i ys) ≡ false
  unfolding same_bytes
  from_zero l l' z = rw (name_stop xs i l z, drop-cons ys i 0 l')

  -- another byte, or a 0
  pub from_other : i < length xs → i < length ys → (get_or xs i 0 ≡ get_or ys i 0 → get_or ys i 0 ≡ 0) → same_bytes (name_at xs i) (drop i ys) ≡ false
  unfolding same_bytes
  from_other l l' other = go (eqb (get_or xs i 0) 0) refl
    where
      go : (t : Bool) → eqb (get_or xs i 0) 0 ≡ t → same_bytes (name_at xs i) (drop i ys) ≡ false
      go true z = from_zero l l' (eqb-true _ _ z)
      go false z =
          let ne = eqb-false _ _ z in
          rw (name_more xs i l ne, drop-cons ys i 0 l', ne_eqb _ _ (λ e. ne (e ∙ other e)))

  -- the given name ended: so must the other
  module _ (past : length ys ≤ i) where
    pub from_end : name_at xs i ≡ [] → same_bytes (name_at xs i) (drop i ys) ≡ true
    unfolding same_bytes
    from_end e = rw (e, drop_of_length-le ys past)

    pub from_rest : i < length xs → same_bytes (name_at xs i) (drop i ys) ≡ eqb (get_or xs i 0) 0
    unfolding same_bytes
    from_rest l = go (eqb (get_or xs i 0) 0) refl
      where
        go : (t : Bool) → eqb (get_or xs i 0) 0 ≡ t → same_bytes (name_at xs i) (drop i ys) ≡ t
        go true z = from_end (name_stop xs i l (eqb-true _ _ z))
        go false z = rw (name_more xs i l (eqb-false _ _ z), drop_of_length-le ys past)
