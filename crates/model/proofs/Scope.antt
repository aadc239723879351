-- Lookup in a set and in the same set with one more library: what the program or a library answers stays. Assumes nothing.
use mathlib.Core.Path.{◌≡◌, refl}
use mathlib.Core.Logic.{◌⊎◌, inl, inr, ⊎_elim, ◌≢◌}
use mathlib.Core.List.{List, [], ◌∷◌, ◌++◌}
use Prim.Native.Nat.{ℕ, zero, suc, ◌+◌, ◌≤◌, ◌<◌}
use native.Mathlib.Omega.{arith}
use lib.ListN.{length, get_or, length-append, get_or-append}
use Rattle.model.specs.Symbols.{Wanted, Definition, Exported, none, hit, Resolved, absent, answer}
use Rattle.model.specs.Objects.{Obj, Objs, all, count, obj}
use Rattle.model.specs.Scope.{scope_answer, or_else, scan, host_answer, own_answer, resolve, resolve_copy}
use Rattle.model.specs.Longer.{longer, HostOrNowhere, nowhere, to_host}

-- the last element of a list
get_or_last : {A : Type 0} (l : List A) (x d : A) → get_or (l ++ (x ∷ [])) (length l) d ≡ x
get_or_last [] x d = refl
get_or_last (y ∷ l) x d = get_or_last l x d

-- an answer of the program or a library
abbrev pub ProgramOrLibrary : Resolved → Type 0
ProgramOrLibrary b = (k : ℕ) × (s : Definition) × (a : ℕ) × (b ≡ answer k s a) × (k ≢ 0)

-- every answer is one or the other
pub bound_where : (b : Resolved) → HostOrNowhere b ⊎ ProgramOrLibrary b
bound_where absent = inl nowhere
bound_where (answer zero s a) = inl to_host
bound_where (answer (suc k) s a) = inr (suc k, s, a, refl, omega arith)

absent_not : {P : Type 0} (k : ℕ) (s : Definition) (a : ℕ) → absent ≡ answer k s a → P
absent_not k s a e = let z : ◌≡◌ {A = ℕ} 0 1 = cc in absurd (omega arith)

-- the number of the object that answers
number_of_lem : (k : ℕ) (o : Obj) (f : Exported) (d : ℕ) (s : Definition) (a : ℕ) → scope_answer k o f ≡ answer d s a → d ≡ k
unfolding scope_answer
number_of_lem k o none d s a e = absent_not d s a e
number_of_lem k o (hit s') d s a e = cc

or_else_cases :
    (b c : Resolved) (d : ℕ) (s : Definition) (a : ℕ) → or_else b c ≡ answer d s a
    → (b ≡ answer d s a) ⊎ ((b ≡ absent) × (c ≡ answer d s a))
or_else_cases absent c d s a e = inr (refl, e)
or_else_cases (answer k t b) c d s a e = inl e

-- a scan answers from its objects
scan_range :
    (k : ℕ) (os : List Obj) (wanted : Wanted) (d : ℕ) (s : Definition) (a : ℕ) → scan k os wanted ≡ answer d s a
    → (k ≤ d) × (d < k + length os)
unfolding scan
scan_range k [] wanted d s a e = absent_not d s a e
scan_range k (o ∷ os) wanted d s a e =
    ⊎_elim
    (λ h. let n = number_of_lem k o (o.find wanted) d s a h in omega arith)
    (λ h. let r = scan_range (suc k) os wanted d s a h.1 in omega arith)
    (or_else_cases (scope_answer k o (o.find wanted)) (scan (suc k) os wanted) d s a e)

-- objects at the end of the list change no answer
scan_kept :
    (k : ℕ) (os : List Obj) (more : List Obj) (wanted : Wanted) (d : ℕ) (s : Definition) (a : ℕ) → scan k os wanted ≡ answer d s a
    → scan k (os ++ more) wanted ≡ answer d s a
unfolding scan
scan_kept k [] more wanted d s a e = absent_not d s a e
scan_kept k (o ∷ os) more wanted d s a e =
    ⊎_elim
    (λ h. rw h)
    (λ h. rw h.0 (scan_kept (suc k) os more wanted d s a h.1))
    (or_else_cases (scope_answer k o (o.find wanted)) (scan (suc k) os wanted) d s a e)

module _ (S : Objs) (x : Obj) where
  pub obj_longer : (k : ℕ) → k < count S → obj (longer S x) k ≡ obj S k
  obj_longer k h = get_or-append (all S) (x ∷ []) S.host k h

  pub count_longer : count (longer S x) ≡ suc (count S)
  count_longer = omega (arith, length-append (all S) (x ∷ []))

  pub obj_last : obj (longer S x) (count S) ≡ x
  obj_last = get_or_last (all S) x S.host

  pub resolve_kept :
      (r : ℕ) → r < count S → (wanted : Wanted) (k : ℕ) (s : Definition) (a : ℕ) → resolve S r wanted ≡ answer k s a → k ≢ 0
      → resolve (longer S x) r wanted ≡ answer k s a
  unfolding resolve
  resolve_kept r l wanted k s a e pos =
      rw (obj_longer r l)
      (⊎_elim
      (λ h. rw h)
      (λ h. rw h.0
      (⊎_elim
      (λ g. rw (scan_kept 1 (S.program ∷ S.libs) (x ∷ []) wanted k s a g))
      (λ g. absurd (pos (number_of_lem 0 S.host (S.host.find wanted) k s a g.1)))
      (or_else_cases (scan 1 (S.program ∷ S.libs) wanted) (host_answer S wanted) k s a h.1)))
      (or_else_cases (own_answer S r wanted) (or_else (scan 1 (S.program ∷ S.libs) wanted) (host_answer S wanted)) k s a e))

  pub resolve_copy_kept :
      (wanted : Wanted) (k : ℕ) (s : Definition) (a : ℕ) → resolve_copy S wanted ≡ answer k s a → k ≢ 0
      → resolve_copy (longer S x) wanted ≡ answer k s a
  unfolding resolve_copy
  resolve_copy_kept wanted k s a e pos =
      ⊎_elim
      (λ g. rw (scan_kept 2 S.libs (x ∷ []) wanted k s a g))
      (λ g. absurd (pos (number_of_lem 0 S.host (S.host.find wanted) k s a g.1)))
      (or_else_cases (scan 2 S.libs wanted) (host_answer S wanted) k s a e)

-- COPY is answered by an object of the set other than the program
pub resolve_copy_range :
    (S : Objs) (wanted : Wanted) (d : ℕ) (s : Definition) (a : ℕ) → resolve_copy S wanted ≡ answer d s a → (d < count S) × (d ≢ 1)
unfolding resolve_copy
resolve_copy_range S wanted d s a e =
    ⊎_elim
    (λ g. let r = scan_range 2 S.libs wanted d s a g in omega arith)
    (λ g. let n = number_of_lem 0 S.host (S.host.find wanted) d s a g.1 in omega arith)
    (or_else_cases (scan 2 S.libs wanted) (host_answer S wanted) d s a e)
