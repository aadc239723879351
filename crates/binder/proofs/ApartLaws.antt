-- Copies that cross none of several earlier ones, in rounds. Assumes nothing.
use Rattle.std.proofs.Common.{◌≡◌, ℕ, ◌+◌, ◌≤◌, Bool, true, false, List, [], ◌∷◌, ◌++◌, length, take, drop, sym, refl, ap, ◌∙◌, subst, append_assoc, append-nil, arith, length-append, take-append-drop, take_all, take-add, Option, None, Some}
use Rattle.std.specs.List.{cons_option}
use Rattle.std.specs.Option.{option_to_list}
use Rattle.words.specs.Choice.{either, some}
use Rattle.words.proofs.Choice.{either_left, either_right}
use Rattle.model.proofs.OrderLaws.{either_assoc}
use Rattle.binder.specs.Copies.{crosses}
use Rattle.binder.specs.Steps.Crossing.{EachApart, Quiet}
use Rattle.binder.specs.declared.crossing.Copy.{Copy}

-- ---- some of several

pub some_append : {A : Type 0} (p : A → Bool) (xs ys : List A) → some p (xs ++ ys) ≡ either (some p xs) (some p ys)
unfolding some
some_append p [] ys = refl
some_append p (x ∷ xs) ys = ap (either (p x)) (some_append p xs ys) ∙ either_assoc (p x) (some p xs) (some p ys)

-- one of a part is one of all
pub some_part : (p : Copy → Bool) (n m : ℕ) (xs : List Copy) → some p (take m (drop n xs)) ≡ true → some p xs ≡ true
some_part p n m xs e =
    let rest : List Copy = drop n xs in
    let z : some p rest ≡ true =
    ap (some p) (sym (take-append-drop m rest))
    ∙ (some_append p (take m rest) (drop m rest) ∙ either_left (some p (take m rest)) (some p (drop m rest)) e) in
    ap (some p) (sym (take-append-drop n xs))
    ∙ (some_append p (take n xs) rest ∙ either_right (some p (take n xs)) (some p rest) z)

-- ---- apart, one after another

module _ (part : List Copy → List Copy) where
  pub apart_append :
      (earlier xs ys : List Copy) → EachApart part earlier xs → EachApart part (earlier ++ xs) ys → EachApart part earlier (xs ++ ys)
  unfolding EachApart
  apart_append earlier [] ys p q = subst (λ (l : List Copy). EachApart part l ys) (append-nil earlier) q
  apart_append earlier (x ∷ xs) ys p q = (
    p.0,
    apart_append (earlier ++ (x ∷ [])) xs ys p.1
        (subst (λ (l : List Copy). EachApart part l ys) (sym (append_assoc earlier (x ∷ []) xs)) q),
  )

  pub apart_left : (earlier xs ys : List Copy) → EachApart part earlier (xs ++ ys) → EachApart part earlier xs
  unfolding EachApart
  apart_left earlier [] ys p = Prim.tt {0}
  apart_left earlier (x ∷ xs) ys p = (p.0, apart_left (earlier ++ (x ∷ [])) xs ys p.1)

  pub apart_one : (xs : List Copy) (c : Copy) → EachApart part [] xs → some (crosses c) (part xs) ≡ false → EachApart part [] (xs ++ (c ∷ []))
  unfolding EachApart
  apart_one xs c p q = apart_append [] xs (c ∷ []) p (q, Prim.tt {0})

-- ---- a copy that may be none

pub cons_is : (c : Option Copy) (cs : List Copy) → cons_option c cs ≡ option_to_list c ++ cs
cons_is None cs = refl
cons_is (Some c) cs = refl

-- ---- rounds

-- from the first `n` earlier ones, and the `m` behind them
pub apart_more :
    (n m : ℕ) (earlier xs : List Copy) → EachApart (take n) earlier xs → EachApart (λ ys. take m (drop n ys)) earlier xs
    → EachApart (take (n + m)) earlier xs
unfolding EachApart
apart_more n m earlier [] p q = Prim.tt {0}
apart_more n m earlier (c ∷ cs) p q = (
  ap (some (crosses c)) (take-add n m earlier)
      ∙ (some_append (crosses c) (take n earlier) (take m (drop n earlier)) ∙ rw (p.0, q.0)),
  apart_more n m (earlier ++ (c ∷ [])) cs p.1 q.1,
)

-- there are no more
pub apart_all :
    (n : ℕ) (earlier xs : List Copy) → length earlier + length xs ≤ n → EachApart (take n) earlier xs → Quiet earlier xs
unfolding EachApart
apart_all n earlier [] l p = Prim.tt {0}
apart_all n earlier (c ∷ cs) l p = (
  ap (some (crosses c)) (sym (take_all n earlier (omega arith))) ∙ p.0,
  apart_all n (earlier ++ (c ∷ [])) cs (omega (arith, length-append earlier (c ∷ []))) p.1,
)
