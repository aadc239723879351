-- The turns of the loops over an order. Assumes nothing.
use mathlib.Core.Path.{◌≡◌, refl, sym, ap, ◌∙◌, subst}
use mathlib.Core.Bool.{true, false}
use mathlib.Core.List.{List, [], ◌∷◌, ◌++◌, reverse}
use Prim.Native.Nat.{ℕ, suc, ◌+◌, ◌≤◌, ◌<◌}
use native.Mathlib.Omega.{arith}
use lib.ListN.{length, get_or, drop, drop_of_length-le, length-append, get_or-append}
use lib.Seq.{drop-cons, get_or-append_seam}
use Rattle.std.proofs.lemmas.List.{reverse-append}
use Rattle.binder.specs.Verdict.{Verdict, passed, refused, first}
use Rattle.binder.specs.Bind as bind
use Rattle.binder.specs.Bind.{unless}
use Rattle.start_stop.specs.StartStop as defs
use Rattle.start_stop.specs.StartStop.{Calls, words_of, starts_of, stops_of, in_turn, start_list, stop_list, arrays_ok, arrays_verdict}
use Rattle.start_stop.specs.declared.rows.Row.{Row}
use Rattle.start_stop.specs.Steps.Rows.{FewWords, AllFew}
use Rattle.start_stop.specs.Steps.Listed.{Put}
use Rattle.start_stop.proofs.ListLaws.{put_both, turn_next, turns_end, Left, left_next, left_end}

module _ (ks : List ℕ) where
  -- ---- refusal 26

  module _ (calls : ℕ → Calls) where
    verdict_next :
        (i : ℕ) → i < length ks
        → arrays_verdict calls (drop i ks)
        ≡ first (unless (arrays_ok (get_or ks i 0) (calls (get_or ks i 0))) 26 (get_or ks i 0)) (arrays_verdict calls (drop (i + 1) ks))
    unfolding defs.arrays_verdict
    verdict_next i h =
        let s : suc i ≡ i + 1 = omega arith in
        ap (arrays_verdict calls) (drop-cons ks i 0 (omega arith))
        ∙ ap
        (λ (j : ℕ). first (unless (arrays_ok (get_or ks i 0) (calls (get_or ks i 0))) 26 (get_or ks i 0)) (arrays_verdict calls (drop j ks)))
        s

    pub check_bad :
        (i : ℕ) {whole : Verdict} → i < length ks → arrays_ok (get_or ks i 0) (calls (get_or ks i 0)) ≡ false
        → arrays_verdict calls (drop i ks) ≡ whole → refused 26 (get_or ks i 0) ≡ whole
    unfolding bind.unless
    check_bad i h bad e = sym (verdict_next i h ∙ rw bad) ∙ e

    pub check_next :
        (i : ℕ) {whole : Verdict} → i < length ks → arrays_ok (get_or ks i 0) (calls (get_or ks i 0)) ≡ true
        → arrays_verdict calls (drop i ks) ≡ whole → arrays_verdict calls (drop (i + 1) ks) ≡ whole
    unfolding bind.unless
    check_next i h good e = sym (verdict_next i h ∙ rw good) ∙ e

    pub check_end : (i : ℕ) {whole : Verdict} → length ks ≤ i → arrays_verdict calls (drop i ks) ≡ whole → passed ≡ whole
    unfolding defs.arrays_verdict
    check_end i h e = sym (ap (arrays_verdict calls) (drop_of_length-le ks {i = i} (omega arith))) ∙ e

    -- ---- the start list

    pub start_next :
        (i : ℕ) {all xs₀ xs ys : List ℕ} {n₀ m r : ℕ} → i < length ks
        → Left all n₀ xs₀ (in_turn (λ k. starts_of (calls k)) (drop i ks)) m xs → Put (starts_of (calls (get_or ks i 0))) m xs ys r
        → Left all n₀ xs₀ (in_turn (λ k. starts_of (calls k)) (drop (i + 1) ks)) r ys
    start_next i h left p =
        left_next left
        (turn_next (λ k. starts_of (calls k)) ks i h)
        p

    pub start_end :
        (i : ℕ) {all xs₀ xs : List ℕ} {n₀ m : ℕ} → length ks ≤ i
        → Left all n₀ xs₀ (in_turn (λ k. starts_of (calls k)) (drop i ks)) m xs → Put all n₀ xs₀ xs m
    start_end i h left = left_end left (turns_end (λ k. starts_of (calls k)) ks i (omega arith))

    -- the preinit array was put before
    pub start_first :
        {xs₀ xs : List ℕ} {m : ℕ} → Put (words_of (calls 1).bytes (calls 1).preinits) 0 xs₀ xs m
        → Left (start_list calls ks) 0 xs₀ (in_turn (λ k. starts_of (calls k)) ks) m xs
    unfolding defs.start_list
    start_first p zs r q = put_both p q

-- ---- the stop list, from the last of what is left on

module _ (calls : ℕ → Calls) where
  pub stop_first : (ks xs : List ℕ) → Left (stop_list calls ks) 0 xs (in_turn (λ k. stops_of (calls k)) (reverse ks)) 0 xs
  unfolding defs.stop_list
  stop_first ks xs zs r q = q

  pub stop_next :
      (ks rest : List ℕ) (k : ℕ) {all xs₀ xs ys : List ℕ} {m r : ℕ} → ks ≡ rest ++ k ∷ []
      → Left all 0 xs₀ (in_turn (λ k. stops_of (calls k)) (reverse ks)) m xs → Put (stops_of (calls k)) m xs ys r
      → Left all 0 xs₀ (in_turn (λ k. stops_of (calls k)) (reverse rest)) r ys
  unfolding defs.in_turn
  stop_next ks rest k e left p =
      left_next left
      (ap (λ (l : List ℕ). in_turn (λ k. stops_of (calls k)) (reverse l)) e ∙ ap (in_turn (λ k. stops_of (calls k))) (reverse-append rest (k ∷ [])))
      p

  pub stop_end :
      (ks : List ℕ) {all xs₀ xs : List ℕ} {m : ℕ} → length ks ≡ 0
      → Left all 0 xs₀ (in_turn (λ k. stops_of (calls k)) (reverse ks)) m xs → Put all 0 xs₀ xs m
  unfolding defs.in_turn
  stop_end [] e left = left_end left refl
  stop_end (k ∷ ks) e left = absurd (omega arith)

-- the objects of a list but its last, and the last, have few words
pub few_left :
    (rows : List Row) (ks rest : List ℕ) (k : ℕ) → ks ≡ rest ++ k ∷ [] → AllFew rows ks → AllFew rows rest × FewWords rows k
few_left rows ks rest k e few =
    let long : length ks ≡ length rest + 1 = ap length e ∙ length-append rest (k ∷ []) in
    let last : get_or ks (length rest) 0 ≡ k = ap (λ (l : List ℕ). get_or l (length rest) 0) e ∙ get_or-append_seam rest k [] 0 in (
      λ i h. subst (FewWords rows) (ap (λ (l : List ℕ). get_or l i 0) e ∙ get_or-append rest (k ∷ []) 0 i h) (few i (omega (arith, long, h))),
      subst (FewWords rows) last (few (length rest) (omega (arith, long))),
    )
