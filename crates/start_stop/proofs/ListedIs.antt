-- What the code leaves, step by step, is the definition's: refusals 26 and 27, and the lists. Assumes nothing.
use mathlib.Core.Path.{◌≡◌, refl, sym, ap, ◌∙◌, subst}
use mathlib.Core.Bool.{true, false}
use mathlib.Core.Logic.{⊎_elim}
use mathlib.Core.List.{List, [], ◌∷◌, reverse_aux}
use Prim.Native.Nat.{ℕ, zero, suc, ◌+◌, ◌*◌, ◌^◌, ◌≤◌, ◌<◌}
use native.Mathlib.Omega.{arith}
use borrow.Author.Tests.{le-leb, lt-leb, leb-true, eqb-true, eq-eqb}
use lib.Dec.{eqb, leb}
use lib.ListN.{length, get_or, replicate}
use Rattle.words.proofs.Choice.{both_true}
use Rattle.model.proofs.OrderLaws.{decide}
use Rattle.binder.specs.Verdict.{passed, refused}
use Rattle.binder.specs.Bind as bind
use Rattle.binder.specs.Bind.{unless}
use Rattle.binder.proofs.OutcomeLaws.{first_passed, unless_passed}
use Rattle.start_stop.specs.StartStop as defs
use Rattle.start_stop.specs.StartStop.{counted, Calls, words_of, starts_of, stops_of, in_turn, start_list, stop_list, in_span, arrays_ok, arrays_verdict, lists_verdict, listing_of, list_by}
use Rattle.start_stop.specs.declared.rows.Array.{Array}
use Rattle.start_stop.specs.declared.rows.Row.{Row}
use Rattle.start_stop.specs.Steps.Rows.{row_at, calls_at, AllFew, InOrder}
use Rattle.start_stop.specs.Steps.Listed as listed
use Rattle.start_stop.specs.Steps.Listed.{Put, finished_of, ListsMade}
use Rattle.std.proofs.Common.{is_err, true≢false, Ok, Err, true, false, replicate, refl, sym}
use Rattle.start_stop.specs.declared.Counts.{Counts}
use Rattle.start_stop.proofs.ListLaws.{put_zeros}

-- ---- refusal 26 was passed

pub passed_at :
    (calls : ℕ → Calls) (order : List ℕ) (i : ℕ) → arrays_verdict calls order ≡ passed → i < length order
    → arrays_ok (get_or order i 0) (calls (get_or order i 0)) ≡ true
unfolding defs.arrays_verdict
passed_at calls [] i e h = absurd (omega arith)
passed_at calls (k ∷ ks) zero e h =
    unless_passed (arrays_ok k (calls k)) 26 k (first_passed (unless (arrays_ok k (calls k)) 26 k) (arrays_verdict calls ks) e).0
passed_at calls (k ∷ ks) (suc i) e h =
    passed_at calls ks i (first_passed (unless (arrays_ok k (calls k)) 26 k) (arrays_verdict calls ks) e).1 (omega arith)

span_few : (span : ℕ) (a : Array) → in_span span a ≡ true → span ≤ 2 ^ 28 → a.count ≤ 2 ^ 25
unfolding defs.in_span
span_few span a e l =
    ⊎_elim (λ (t : eqb a.count 0 ≡ true). omega (arith, eqb-true a.count 0 t))
    (λ (t : eqb a.count 0 ≡ false). let f : leb (a.at + 8 * a.count) span ≡ true = rw t at e in omega (arith, leb-true (a.at + 8 * a.count) span f))
    (decide (eqb a.count 0))

arrays_few :
    (k : ℕ) (c : Calls) → arrays_ok k c ≡ true → c.span ≤ 2 ^ 28
    → (c.inits.count ≤ 2 ^ 25) × (c.finis.count ≤ 2 ^ 25) × (k ≡ 1 → c.preinits.count ≤ 2 ^ 25)
unfolding defs.arrays_ok
arrays_few k c e l =
    let a = both_true (in_span c.span c.inits) _ e in
    let b = both_true (in_span c.span c.finis) _ a.1 in
    (span_few c.span c.inits a.0 l, span_few c.span c.finis b.0 l, λ z. span_few c.span c.preinits (rw (eq-eqb k 1 z) at b.1) l)

module _ (arena table : List ℕ) (rows : List Row) (order : List ℕ) (in_order : InOrder table order) (e : arrays_verdict (calls_at arena table rows) order ≡ passed) where
  pub few_words : AllFew rows order
  few_words i h =
      let f = arrays_few _ _ (passed_at (calls_at arena table rows) order i e h) (in_order.spans i h) in
      record { inits = f.0; finis = f.1 }

  pub few_preinits : (row_at rows 1).preinits.count ≤ 2 ^ 25
  few_preinits =
      let f = arrays_few _ _ (passed_at (calls_at arena table rows) order in_order.place e in_order.there) (in_order.spans in_order.place in_order.there) in
      subst (λ (k : ℕ). (row_at rows k).preinits.count ≤ 2 ^ 25) in_order.program (f.2 in_order.program)

-- ---- what is answered

module _ (calls : ℕ → Calls) (order arena start stop : List ℕ) where
  pub made_refused : (n k : ℕ) → arrays_verdict calls order ≡ refused n k → ListsMade calls order arena start stop (refused n k)
  unfolding listed.finished_of defs.list_by defs.lists_verdict defs.listing_of
  made_refused n k e report = rw e

  module _ (e : arrays_verdict calls order ≡ passed) where
    pub start_short : length start < length (start_list calls order) → ListsMade calls order arena start stop (refused 27 0)
    unfolding listed.finished_of defs.list_by defs.lists_verdict defs.listing_of bind.unless
    start_short l report = rw (e, lt-leb (length (start_list calls order)) (length start) l)

    pub stop_short :
        length (start_list calls order) ≤ length start → length stop < length (stop_list calls order)
        → ListsMade calls order arena start stop (refused 27 0)
    unfolding listed.finished_of defs.list_by defs.lists_verdict defs.listing_of bind.unless
    stop_short f l report =
        rw (e, le-leb (length (start_list calls order)) (length start) f, lt-leb (length (stop_list calls order)) (length stop) l)

    pub made_listed :
        (start₀ stop₀ : List ℕ) (n m : ℕ) → Put (start_list calls order) 0 start₀ start n → Put (stop_list calls order) 0 stop₀ stop m
        → start₀ ≡ replicate (length start₀) 0 → stop₀ ≡ replicate (length stop₀) 0 → length start ≡ length start₀ → length stop ≡ length stop₀
        → n ≤ length start → m ≤ length stop → ListsMade calls order arena start stop (counted n m)
    unfolding listed.finished_of defs.list_by defs.lists_verdict defs.listing_of bind.unless
    made_listed start₀ stop₀ n m p q z y ls lt f g report =
        let a : length (start_list calls order) ≤ length start = omega (arith, p.next, f) in
        let b : length (stop_list calls order) ≤ length stop = omega (arith, q.next, g) in
        let s : start ≡ defs.padded (length start) (start_list calls order) =
        put_zeros (start_list calls order) start₀ start n p z (omega (arith, ls, a))
        ∙ ap (λ (i : ℕ). defs.padded i (start_list calls order)) (sym ls) in
        let t : stop ≡ defs.padded (length stop) (stop_list calls order) =
        put_zeros (stop_list calls order) stop₀ stop m q y (omega (arith, lt, b))
        ∙ ap (λ (i : ℕ). defs.padded i (stop_list calls order)) (sym lt) in
        let i : n ≡ length (start_list calls order) = omega (arith, p.next) in
        let j : m ≡ length (stop_list calls order) = omega (arith, q.next) in
        same_listing s t i j
        ∙ rw (e, le-leb (length (start_list calls order)) (length start) a, le-leb (length (stop_list calls order)) (length stop) b)
      where
        same_listing :
            {x y : List ℕ} {k l : ℕ} → start ≡ x → stop ≡ y → n ≡ k → m ≡ l
            → defs.listing (counted n m) arena report start stop ≡ defs.listing (counted k l) arena report x y
        same_listing u v w x = cc

-- ---- the same calls give the same lists

module _ (calls others : ℕ → Calls) where
  abbrev Same : List ℕ → Type 0
  Same order = (i : ℕ) → i < length order → calls (get_or order i 0) ≡ others (get_or order i 0)

  same_verdict : (order : List ℕ) → Same order → arrays_verdict calls order ≡ arrays_verdict others order
  unfolding defs.arrays_verdict
  same_verdict [] same = refl
  same_verdict (k ∷ ks) same = rw (same 0 (omega arith), same_verdict ks (λ i h. same (suc i) (omega arith)))

  same_turns : (gives : Calls → List ℕ) (order : List ℕ) → Same order → in_turn (λ k. gives (calls k)) order ≡ in_turn (λ k. gives (others k)) order
  unfolding defs.in_turn
  same_turns gives [] same = refl
  same_turns gives (k ∷ ks) same = rw (same 0 (omega arith), same_turns gives ks (λ i h. same (suc i) (omega arith)))

  same_back :
      (gives : Calls → List ℕ) (order r : List ℕ) → Same order → in_turn (λ k. gives (calls k)) r ≡ in_turn (λ k. gives (others k)) r
      → in_turn (λ k. gives (calls k)) (reverse_aux order r) ≡ in_turn (λ k. gives (others k)) (reverse_aux order r)
  unfolding defs.in_turn
  same_back gives [] r same e = e
  same_back gives (k ∷ ks) r same e = same_back gives ks (k ∷ r) (λ i h. same (suc i) (omega arith)) (rw (same 0 (omega arith), e))

  same_start : (order : List ℕ) → Same order → calls 1 ≡ others 1 → start_list calls order ≡ start_list others order
  unfolding defs.start_list
  same_start order same one = rw (one, same_turns starts_of order same)

  same_stop : (order : List ℕ) → Same order → stop_list calls order ≡ stop_list others order
  unfolding defs.stop_list defs.in_turn
  same_stop order same = same_back stops_of order [] same refl

  pub same_lists :
      (order : List ℕ) → Same order → calls 1 ≡ others 1 → (starts stops : ℕ) (arena report : List ℕ)
      → list_by calls order starts stops arena report ≡ list_by others order starts stops arena report
  unfolding defs.list_by defs.lists_verdict
  same_lists order same one starts stops arena report = rw (same_verdict order same, same_start order same one, same_stop order same)

-- ---- a refusal leaves zeros

pub finish_listed :
    (x : defs.Lists) (a r p q a' r' p' q' : List ℕ) → is_err x ≡ true → a' ≡ replicate (length a) 0 → r' ≡ replicate (length r) 0
    → p' ≡ replicate (length p) 0 → q' ≡ replicate (length q) 0 → defs.listing x a' r' p' q' ≡ listed.finished_of x a r p q
unfolding listed.finished_of
finish_listed (Ok c) a r p q a' r' p' q' e f g h i = absurd (true≢false (sym e))
finish_listed (Err d) a r p q a' r' p' q' e f g h i = rw (f, g, h, i)

pub keep_listed : (x : defs.Lists) (a r p q : List ℕ) → is_err x ≡ false → defs.listing x a r p q ≡ listed.finished_of x a r p q
unfolding listed.finished_of
keep_listed (Ok c) a r p q e = refl
keep_listed (Err d) a r p q e = absurd (true≢false e)

-- equal counts
pub counted_same : (n m k l : ℕ) → counted n m ≡ counted k l → (n ≡ k) × (m ≡ l)
counted_same n m k l e = (ap (one (λ c. c.start)) e, ap (one (λ c. c.stop)) e)
  where
    one : (Counts → ℕ) → defs.Lists → ℕ
    one f (Ok c) = f c
    one f (Err r) = 0
