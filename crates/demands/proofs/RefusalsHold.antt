-- Demand 1's statements on refusals hold. Assumes nothing.
use Rattle.std.proofs.Common.{Err}
use mathlib.Core.Path.{◌≡◌, refl, sym, ap, ◌∙◌}
use mathlib.Core.Bool.{true, false, true≢false}
use mathlib.Core.Logic.{◌⊎◌, inl, inr, ⊎_elim, ◌≢◌}
use mathlib.Core.List.{List, [], ◌∷◌, ◌++◌}
use Prim.Native.Nat.{ℕ, ◌+◌, ◌-◌, ◌≤◌, ◌<◌}
use native.Mathlib.Omega.{arith}
use borrow.Author.Tests.{ne_eqb, eqb-false, leb-true}
use lib.Dec.{eqb, leb, ltb}
use lib.ListN.{length, replicate, length-append, length-replicate}
use Rattle.words.proofs.Slices.{length_tab}
use Rattle.model.specs.Order.{has}
use Rattle.model.specs.Objects.{Objs}
use Rattle.model.specs.Scope.{resolve}
use Rattle.model.specs.Symbols as symbols
use Rattle.model.specs.Symbols.{by_name, absent, answer}
use Rattle.model.proofs.OrderLaws.{clash}
use Rattle.sheet.specs.Sheet.{Input, sheet_ok, set_of, arena_ok, duplicate_of}
use Rattle.binder.specs.declared.Policy.{Policy}
use Rattle.binder.specs.declared.Policy.TheVariants.{Strict, Lenient}
use Rattle.binder.specs.Setting.{Setting}
use Rattle.binder.specs.Instance.{File}
use Rattle.binder.specs.Verdict.{Verdict, passed, refused, first, order_verdict}
use Rattle.binder.specs.Report.{order_words, first_undefined}
use Rattle.binder.specs.Bind.{
  files_of,
  names_of,
  unless,
  prepare_verdict,
  allows,
  relocate_verdict,
  outcome,
  outcome_of,
  bind_in,
  types_verdict,
  replied,
  reply_of,
  replied_of,
  Reply,
}
use Rattle.object.specs.RelocationTypes.{Row}
use Rattle.binder.proofs.OutcomeLaws.{first_passed, unless_passed, objects_in, order_in, sheet_verdict, bind_one, query_one}
use Rattle.binder.proofs.PrepareLaws.{files_length}
use Rattle.demands.specs.Refusals.{without_object, ObjectOf, BindNumber, BindRefusals, QueryNumber, QueryRefusals, Answered, Lengths}
use Rattle.demands.proofs.PassedSet.{sheet_prepared, counts, order_objects}
use Rattle.demands.proofs.RefusalNumbers.{
  HostFirst,
  Meets,
  first_meets,
  first_then,
  unless_meets,
  load_meets,
  order_meets,
  first_undefined_lem,
  duplicate_later,
}

-- ---- a refusal's number and its object

-- of a set of `count` objects, whose refusals have numbers that satisfy N
abbrev pub Right : (ℕ → Type 0) → ℕ → ℕ → ℕ → Type 0
Right N count n k = N n × ObjectOf count n k

-- a refusal without an object
without : (count n : ℕ) → has n without_object ≡ true → n ≢ 3 → (14 ≤ n → n ≢ 20 → n ≢ 24 → ⊥) → ObjectOf count n 0
without count n e three entry =
    record {
      zero = λ _. refl;
      object = λ f. absurd (clash e f);
      later = λ z. absurd (three z);
      entry = λ l h i. absurd (entry l h i);
    }

not_without : (n : ℕ) → n ≢ 1 → n ≢ 2 → n ≢ 13 → n ≢ 20 → n ≢ 24 → has n without_object ≡ false
not_without n a b c d e = rw (ne_eqb n 1 a, ne_eqb n 2 b, ne_eqb n 13 c, ne_eqb n 20 d, ne_eqb n 24 e)

-- a refusal of object `k`
of_object :
    (count n k : ℕ) → n ≢ 1 → n ≢ 2 → n ≢ 13 → n ≢ 20 → n ≢ 24 → k < count → (n ≡ 3 → 3 ≤ k) → (14 ≤ n → n ≢ 20 → n ≢ 24 → 1 ≤ k)
    → ObjectOf count n k
of_object count n k a b c d y small later entry =
    record {
      zero = λ e. absurd (clash e (not_without n a b c d y));
      object = λ _. omega arith;
      later = λ e. omega (arith, later e);
      entry = λ l h i. omega (arith, entry l h i);
    }

host_first : (os : List Input) → HostFirst (files_of os)
unfolding files_of
host_first [] = tt
host_first (h ∷ os) = refl

-- 24
pub types_right : (setting : Setting) (count : ℕ) → Meets (Right BindNumber count) (types_verdict setting)
types_right setting count =
    unless_meets (Right BindNumber count) setting.typed 24 0 (λ _. (omega arith, without count 24 refl (λ e. omega arith) (λ l h i. i refl)))

numbered : (n : ℕ) → 14 ≤ n → n ≤ 28 → n ≢ 23 → n ≢ 26 → n ≢ 27 → BindNumber n
numbered n low high a b c = omega arith

module _ (setting : Setting) (sheet bytes : List ℕ) (size : ℕ) where
  abbrev os : List Input
  os = set_of sheet bytes

  -- 1 to 12 and 21, and what is met between 2 and 3
  pub prepare_right :
      (N : ℕ → Type 0) → ((n : ℕ) → 1 ≤ n → n ≤ 12 → N n) → N 21 → (types : Verdict) → Meets (Right N (length os)) types
      → Meets (Right N (length os)) (sheet_verdict setting types sheet bytes size)
  unfolding prepare_verdict
  prepare_right N ok aligned types typed =
      first_meets (Right N (length os)) (unless (sheet_ok sheet (length bytes)) 1 0) _
      (unless_meets (Right N (length os)) (sheet_ok sheet (length bytes)) 1 0
      (λ _. (ok 1 (omega arith) (omega arith), without (length os) 1 refl (λ e. omega arith) (λ l h i. omega arith))))
      (first_meets (Right N (length os)) (unless (arena_ok size setting.address) 2 0) _
      (unless_meets (Right N (length os)) (arena_ok size setting.address) 2 0
      (λ _. (ok 2 (omega arith) (omega arith), without (length os) 2 refl (λ e. omega arith) (λ l h i. omega arith))))
      (first_meets (Right N (length os)) types _ typed
      (first_meets (Right N (length os)) (unless (eqb (duplicate_of os) 0) 3 (duplicate_of os)) _
      (unless_meets (Right N (length os)) (eqb (duplicate_of os) 0) 3 (duplicate_of os)
      (λ e.
      let t = duplicate_later os (eqb-false (duplicate_of os) 0 e) in (
        ok 3 (omega arith) (omega arith),
        of_object (length os) 3 (duplicate_of os) (λ e. omega arith) (λ e. omega arith) (λ e. omega arith) (λ e. omega arith) (λ e. omega arith) t.1
            (λ _. t.0) (λ l h i. absurd (omega arith)),
      )))
      (load_meets (Right N (length os)) (objects_in setting os) size 0 (files_of os) (λ z. host_first os)
      (λ n j q b.
      ⊎_elim
      (λ (r : (4 ≤ n) × (n ≤ 12)). (
        ok n (omega arith) (omega arith),
        of_object (length os) n j (λ e. omega arith) (λ e. omega arith) (λ e. omega arith) (λ e. omega arith)
            (λ e. omega arith) (omega (arith, files_length os)) (λ e. absurd (omega arith)) (λ g i j. absurd (omega arith)),
      ))
      (λ (r : (n ≡ 21) × (1 ≤ j)). (
        rw r.0 aligned,
        of_object (length os) n j (λ e. omega arith) (λ e. omega arith) (λ e. omega arith) (λ e. omega arith)
            (λ e. omega arith) (omega (arith, files_length os)) (λ e. absurd (omega arith)) (λ g i j. r.1),
      ))
      q)))))

  -- 14 to 20, 22, 25 and 28, in any order
  pub relocate_right :
      sheet_ok sheet (length bytes) ≡ true → (order : List ℕ) → ((k : ℕ) → has k order ≡ true → (1 ≤ k) × (k < length (names_of os) + 2))
      → (policy : Policy) (words : ℕ)
      → Meets (Right BindNumber (length os)) (relocate_verdict setting.row (objects_in setting os) (files_of os) order policy words)
  unfolding relocate_verdict
  relocate_right good order among policy words =
      first_meets (Right BindNumber (length os)) (order_verdict setting.row (objects_in setting os) (files_of os) [] order) _
      (order_meets (Right BindNumber (length os)) setting.row (objects_in setting os) (files_of os) [] order
      (λ n k x m.
      let b : (1 ≤ k) × (k < length (names_of os) + 2) = among k m in
      (numbered n x.0 x.1 x.5 x.7 x.8, entry_of n k x.0 x.3 x.6 b.0 b.1)))
      (first_meets (Right BindNumber (length os)) (unless (allows policy u) 19 u) _
      (unless_meets (Right BindNumber (length os)) (allows policy u) 19 u
      (λ e.
      let m = first_undefined_lem setting.row (objects_in setting os) (files_of os) order (undefined policy e) in
      let b : (1 ≤ u) × (u < length (names_of os) + 2) = among u m in
      (omega arith, entry_of 19 u (omega arith) (λ e. omega arith) (λ e. omega arith) b.0 b.1)))
      (unless_meets (Right BindNumber (length os)) (leb (length (order_words setting.row (objects_in setting os) (files_of os) order)) words) 20 0
      (λ _. (omega arith, without (length os) 20 refl (λ e. omega arith) (λ l h i. omega arith)))))
    where
      u : ℕ
      u = first_undefined setting.row (objects_in setting os) (files_of os) order

      entry_of : (n k : ℕ) → 14 ≤ n → n ≢ 20 → n ≢ 24 → 1 ≤ k → k < length (names_of os) + 2 → ObjectOf (length os) n k
      entry_of n k l ne not-24 pos small =
          of_object (length os) n k (λ e. omega arith) (λ e. omega arith) (λ e. omega arith) ne not-24
          (omega (arith, counts sheet bytes good)) (λ e. absurd (omega arith)) (λ g i j. pos)

      undefined : (policy : Policy) → allows policy u ≡ false → u ≢ 0
      undefined Strict e = eqb-false u 0 e
      undefined Lenient e = absurd (true≢false e)

  bind_right :
      (policy : Policy) (words : ℕ)
      → Meets (Right BindNumber (length os))
      (first (sheet_verdict setting (types_verdict setting) sheet bytes size) (relocate_verdict setting.row (objects_in setting os) (files_of os) (order_in os) policy words))
  bind_right policy words =
      first_then (Right BindNumber (length os)) (sheet_verdict setting (types_verdict setting) sheet bytes size) _
      (prepare_right BindNumber (λ n l h. omega arith) (omega arith) (types_verdict setting) (types_right setting (length os)))
      (λ v.
      relocate_right (sheet_prepared sheet bytes setting (types_verdict setting) size v).0 (order_in os)
      (order_objects (files_of os) (names_of os)) policy words)

  query_right :
      (requester : ℕ)
      → Meets (Right QueryNumber (length os))
      (first (sheet_verdict setting passed sheet bytes size) (unless (ltb requester (length os)) 13 0))
  query_right requester =
      first_then (Right QueryNumber (length os)) (sheet_verdict setting passed sheet bytes size) _
      (prepare_right QueryNumber (λ n l h. inl (l, omega arith)) (inr refl) passed tt)
      (λ v. unless_meets (Right QueryNumber (length os)) (ltb requester (length os)) 13 0
      (λ _. (inl (omega arith, omega arith), without (length os) 13 refl (λ e. omega arith) (λ l h i. omega arith))))

-- ---- what is left

pub refused_outcome :
    (P : ℕ → ℕ → Type 0) (size words : ℕ) (v : Verdict) (a r : List ℕ) (n k : ℕ) (arena report : List ℕ) → Meets P v
    → outcome_of size words v a r ≡ outcome (refused n k) arena report
    → P n k × (arena ≡ replicate size 0) × (report ≡ replicate words 0)
unfolding outcome_of
refused_outcome P size words passed a r n k arena report m e = let z : ◌≡◌ {A = ℕ} 0 1 = cc in absurd (omega arith)
refused_outcome P size words (Err d) a r n k arena report m e =
    let number : d.number ≡ n = cc in
    let object : d.object ≡ k = cc in
    (rw (number, object) at m, cc, cc)

pub bind_refusals : BindRefusals
unfolding bind_in
bind_refusals setting sheet bytes size policy words n k arena report e =
    let o = refused_outcome (Right BindNumber (length (set_of sheet bytes))) size words _ _ _ n k arena report
    (bind_right setting sheet bytes size policy words) (sym (bind_one setting sheet bytes size policy words) ∙ e) in
    record { number = o.0.0; object = o.0.1; arena_zeros = o.1; report_zeros = o.2 }

refused_reply :
    (P : ℕ → ℕ → Type 0) (size : ℕ) (v : Verdict) (r : Reply) (l : List ℕ) (n k : ℕ) (arena : List ℕ) → Meets P v
    → ((i j : ℕ) → r ≢ refused i j)
    → replied_of size v r l ≡ replied (refused n k) arena
    → P n k × (arena ≡ replicate size 0)
unfolding replied_of
refused_reply P size passed r l n k arena m ne e = absurd (ne n k cc)
refused_reply P size (Err d) r l n k arena m ne e =
    let number : d.number ≡ n = cc in
    let object : d.object ≡ k = cc in
    (rw (number, object) at m, cc)

-- a lookup is no refusal
no_refusal : (x : symbols.Resolved) (n k : ℕ) → reply_of x ≢ refused n k
no_refusal absent n k e = let z : ◌≡◌ {A = ℕ} 0 1 = cc in absurd (omega arith)
no_refusal (answer j s a) n k e = let z : ◌≡◌ {A = ℕ} 0 1 = cc in absurd (omega arith)

pub query_refusals : QueryRefusals
query_refusals setting sheet bytes size requester name n k arena e =
    let o = refused_reply (Right QueryNumber (length (set_of sheet bytes))) size _ _ _ n k arena
    (query_right setting sheet bytes size requester)
    (no_refusal (resolve (objects_in setting (set_of sheet bytes)) requester (by_name name)))
    (sym (query_one setting sheet bytes size requester name) ∙ e) in
    record { number = o.0.0; object = o.0.1; arena_zeros = o.1 }

-- ---- every call

bind_answered :
    (size words : ℕ) (v : Verdict) (a r : List ℕ)
    → ((arena report : List ℕ) × (outcome_of size words v a r ≡ outcome passed arena report))
    ⊎ ((n k : ℕ) × (outcome_of size words v a r ≡ outcome (refused n k) (replicate size 0) (replicate words 0)))
unfolding outcome_of
bind_answered size words passed a r = inl (a, r ++ replicate (words - length r) 0, refl)
bind_answered size words (Err m) a r = inr (m.number, m.object, refl)

query_answered :
    (size : ℕ) (v : Verdict) (x : Reply) (l : List ℕ)
    → ((arena : List ℕ) × (replied_of size v x l ≡ replied x arena))
    ⊎ ((n k : ℕ) × (replied_of size v x l ≡ replied (refused n k) (replicate size 0)))
unfolding replied_of
query_answered size passed x l = inl (l, refl)
query_answered size (Err m) x l = inr (m.number, m.object, refl)

pub answered : Answered
unfolding bind_in
answered =
    record {
      bind = λ setting sheet bytes size policy words. rw (bind_one setting sheet bytes size policy words) (bind_answered size words _ _ _);
      query = λ setting sheet bytes size requester name. rw (query_one setting sheet bytes size requester name) (query_answered size _ _ _);
    }

-- ---- lengths

words_fit : (words : ℕ) (ws : List ℕ) → length ws ≤ words → length (ws ++ replicate (words - length ws) 0) ≡ words
words_fit words ws l = simp (length-append, length-replicate) (omega arith)

pub bind_lengths :
    (size words : ℕ) (v : Verdict) (a r : List ℕ) (x : Verdict) (arena report : List ℕ) → length a ≡ size → (v ≡ passed → length r ≤ words)
    → outcome_of size words v a r ≡ outcome x arena report
    → (length arena ≡ size) × (length report ≡ words)
unfolding outcome_of
bind_lengths size words passed a r x arena report la lr e =
    let arena_is : arena ≡ a = cc in
    let report_is : report ≡ r ++ replicate (words - length r) 0 = cc in
    (ap length arena_is ∙ la, ap length report_is ∙ words_fit words r (lr refl))
bind_lengths size words (Err m) a r x arena report la lr e =
    let arena_is : arena ≡ replicate size 0 = cc in
    let report_is : report ≡ replicate words 0 = cc in
    (ap length arena_is ∙ length-replicate size 0, ap length report_is ∙ length-replicate words 0)

query_length :
    (size : ℕ) (v : Verdict) (x : Reply) (l : List ℕ) (r : Reply) (arena : List ℕ) → length l ≡ size → replied_of size v x l ≡ replied r arena
    → length arena ≡ size
unfolding replied_of
query_length size passed x l r arena n e = let is : arena ≡ l = cc in ap length is ∙ n
query_length size (Err m) x l r arena n e = let is : arena ≡ replicate size 0 = cc in ap length is ∙ length-replicate size 0

-- 20 was passed
pub room :
    (row : ℕ → Row) (S : Objs) (files : List File) (order : List ℕ) (policy : Policy) (words : ℕ) (v : Verdict)
    → first v (relocate_verdict row S files order policy words) ≡ passed → length (order_words row S files order) ≤ words
unfolding relocate_verdict
room row S files order policy words v e =
    let a = first_passed v _ e in
    let b = first_passed (order_verdict row S files [] order) _ a.1 in
    let c = first_passed (unless (allows policy (first_undefined row S files order)) 19 (first_undefined row S files order)) _ b.1 in
    leb-true _ _ (unless_passed (leb (length (order_words row S files order)) words) 20 0 c.1)

pub lengths : Lengths
unfolding bind_in
lengths =
    record {
      bind = λ setting sheet bytes size policy words x arena report e.
          bind_lengths size words _ _ _ x arena report (length_tab size _)
          (room setting.row (objects_in setting (set_of sheet bytes)) (files_of (set_of sheet bytes)) (order_in (set_of sheet bytes)) policy words
          (sheet_verdict setting (types_verdict setting) sheet bytes size)) (sym (bind_one setting sheet bytes size policy words) ∙ e);
      query = λ setting sheet bytes size requester name r arena e.
          query_length size _ _ _ r arena (length_tab size _) (sym (query_one setting sheet bytes size requester name) ∙ e);
    }
