-- Demand 1's statements on `start_stop` hold. Assumes nothing.
use Rattle.std.proofs.Common.{Ok, Err}
use mathlib.Core.Path.{◌≡◌, refl, sym, ap, ◌∙◌}
use mathlib.Core.Bool.{Bool, true, false}
use mathlib.Core.Logic.{◌⊎◌, inl, inr, ⊎_elim}
use mathlib.Core.List.{List, [], ◌∷◌, ◌++◌}
use Prim.Native.Nat.{ℕ, ◌+◌, ◌-◌, ◌≤◌, ◌<◌}
use native.Mathlib.Omega.{arith}
use borrow.Author.Tests.{leb-true, eq-eqb}
use lib.Dec.{leb, eqb}
use lib.ListN.{length, take, replicate, length-append, length-replicate}
use lib.Seq.{take-append_seam}
use Rattle.words.specs.Choice.{pick, both}
use Rattle.words.proofs.Choice.{both_true, either_right}
use Rattle.model.specs.Order.{has}
use Rattle.sheet.specs.Sheet.{Input, set_of}
use Rattle.binder.specs.declared.Policy.{Policy}
use Rattle.binder.specs.Setting.{Setting}
use Rattle.binder.specs.Verdict.{Verdict, passed, refused, first}
use Rattle.binder.specs.SetOrder.{set_order}
use Rattle.binder.specs.Bind as bind
use Rattle.binder.specs.Bind.{files_of, names_of, objects_of, unless, Outcome, outcome, bind_of, outcome_of}
use Rattle.binder.proofs.OutcomeLaws.{refused_not, first_passed, unless_passed, bound_passed, refused_same}
use Rattle.start_stop.specs.StartStop as defs
use Rattle.start_stop.specs.StartStop.{
  Calls,
  calls_in,
  start_list,
  stop_list,
  arrays_ok,
  arrays_verdict,
  lists_verdict,
  listing,
  padded,
  listing_of,
  list_by,
  then_list,
  start_stop_of,
  Lists,
  counted,
}
use Rattle.demands.specs.LongerSet.{BoundBy}
use Rattle.demands.specs.StartStopCall.{StartStopRefused, StartStopRefusals, BindsFirst, StartStopLengths, CountedWords}
use Rattle.demands.proofs.PassedSet.{counts, order_objects}
use Rattle.start_stop.proofs.ListedIs.{counted_same}
use Rattle.demands.proofs.RefusalsHold.{bind_refusals, lengths}

-- ---- 26 and 27

-- the first object of a list with a bad array
arrays_met : (calls : ℕ → Calls) (order : List ℕ) (n k : ℕ) → arrays_verdict calls order ≡ refused n k → (n ≡ 26) × (has k order ≡ true)
unfolding defs.arrays_verdict bind.unless
arrays_met calls [] n k e = refused_not n k (sym e)
arrays_met calls (j ∷ js) n k e = go (λ g. arrays_met calls js n k g) (arrays_ok j (calls j)) e
  where
    go :
        (arrays_verdict calls js ≡ refused n k → (n ≡ 26) × (has k js ≡ true)) → (t : Bool)
        → first (pick t passed (refused 26 j)) (arrays_verdict calls js) ≡ refused n k → (n ≡ 26) × (has k (j ∷ js) ≡ true)
    go rest true g = let r = rest g in (r.0, either_right (eqb k j) (has k js) r.1)
    go rest false g =
        let s = refused_same 26 j n k g in
        (sym s.0, rw (eq-eqb k j (sym s.1)))

lists_met :
    (calls : ℕ → Calls) (order : List ℕ) (starts stops n k : ℕ) → lists_verdict calls order starts stops ≡ refused n k
    → ((n ≡ 26) × (has k order ≡ true)) ⊎ ((n ≡ 27) × (k ≡ 0))
unfolding defs.lists_verdict bind.unless
lists_met calls order starts stops n k e = go (arrays_verdict calls order) refl (both (leb (length (start_list calls order)) starts) (leb (length (stop_list calls order)) stops)) e
  where
    go :
        (v : Verdict) → arrays_verdict calls order ≡ v → (t : Bool) → first v (pick t passed (refused 27 0)) ≡ refused n k
        → ((n ≡ 26) × (has k order ≡ true)) ⊎ ((n ≡ 27) × (k ≡ 0))
    go (Err m) q t g =
        let a : m.number ≡ n = cc in
        let b : m.object ≡ k = cc in
        inl (arrays_met calls order n k (rw (a, b) at q))
    go passed q true g = refused_not n k (sym g)
    go passed q false g =
        let s = refused_same 27 0 n k g in
        inr (sym s.0, sym s.1)

-- ---- what is answered, by what `bind` answers

module _ (setting : Setting) (sheet bytes : List ℕ) (size : ℕ) (policy : Policy) (words starts stops : ℕ) where
  abbrev os : List Input
  os = set_of sheet bytes

  abbrev calls : List ℕ → ℕ → Calls
  calls arena = calls_in (objects_of setting (files_of os)) (files_of os) arena

  abbrev order : List ℕ
  order = set_order (files_of os) (names_of os)

  after_refusal :
      (n k : ℕ) (arena report : List ℕ) → bind_of setting sheet bytes size policy words ≡ outcome (refused n k) arena report
      → start_stop_of setting sheet bytes size policy words starts stops
      ≡ listing (refused n k) (replicate size 0) (replicate words 0) (replicate starts 0) (replicate stops 0)
  unfolding defs.start_stop_of defs.then_list
  after_refusal n k arena report e =
      let z = lengths.bind setting sheet bytes size policy words (refused n k) arena report e in
      rw (e, z.0, z.1)

  after_binding :
      (arena report : List ℕ) → bind_of setting sheet bytes size policy words ≡ outcome passed arena report
      → start_stop_of setting sheet bytes size policy words starts stops
      ≡ listing_of starts stops (lists_verdict (calls arena) order starts stops) arena report (start_list (calls arena) order) (stop_list (calls arena) order)
  unfolding defs.start_stop_of defs.then_list defs.list_by
  after_binding arena report e = rw e

  -- a set that is bound has an object for each number of its order
  number_of_lem : (arena report : List ℕ) → BoundBy setting sheet bytes size policy words arena report → (k : ℕ) → has k order ≡ true → (1 ≤ k) × (k < length os)
  number_of_lem arena report e k h =
      let p = bound_passed setting sheet bytes size policy words arena report e in
      let b : (1 ≤ k) × (k < length (names_of os) + 2) = order_objects (files_of os) (names_of os) k h in
      omega (arith, b.0, b.1, (counts sheet bytes p.sheet_ok_lem).all)

-- ---- the statements

outcome_of_lem :
    (o : Outcome)
    → ((n k : ℕ) × (arena report : List ℕ) × (o ≡ outcome (refused n k) arena report))
    ⊎ ((arena report : List ℕ) × (o ≡ outcome passed arena report))
outcome_of_lem (outcome (Err m) arena report) = inl (m.number, m.object, arena, report, refl)
outcome_of_lem (outcome passed arena report) = inr (arena, report, refl)

listing_refused :
    (starts stops : ℕ) (v : Verdict) (a r s t : List ℕ) (n k : ℕ) (arena report start stop : List ℕ)
    → listing_of starts stops v a r s t ≡ listing (refused n k) arena report start stop
    → (v ≡ refused n k) × (arena ≡ replicate (length a) 0) × (report ≡ replicate (length r) 0) × (start ≡ replicate starts 0) × (stop ≡ replicate stops 0)
unfolding defs.listing_of
listing_refused starts stops passed a r s t n k arena report start stop e = let z : ◌≡◌ {A = ℕ} 0 1 = cc in absurd (omega arith)
listing_refused starts stops (Err m) a r s t n k arena report start stop e =
    let x : m.number ≡ n = cc in
    let y : m.object ≡ k = cc in
    (rw (x, y), cc, cc, cc, cc)

listing_listed :
    (starts stops : ℕ) (v : Verdict) (a r s t : List ℕ) (n m : ℕ) (arena report start stop : List ℕ)
    → listing_of starts stops v a r s t ≡ listing (counted n m) arena report start stop
    → (v ≡ passed) × (arena ≡ a) × (report ≡ r) × (n ≡ length s) × (m ≡ length t) × (start ≡ padded starts s) × (stop ≡ padded stops t)
unfolding defs.listing_of
listing_listed starts stops passed a r s t n m arena report start stop e =
    let x : counted (length s) (length t) ≡ counted n m = cc in
    let y = counted_same (length s) (length t) n m x in
    (refl, cc, cc, sym y.0, sym y.1, cc, cc)
listing_listed starts stops (Err d) a r s t n m arena report start stop e = let z : ◌≡◌ {A = ℕ} 0 1 = cc in absurd (omega arith)

not_listed :
    {P : Type 0} {i j n m : ℕ} {a b c d arena report start stop : List ℕ}
    → listing (refused i j) a b c d ≡ listing (counted n m) arena report start stop → P
not_listed e = let z : ◌≡◌ {A = ℕ} 0 1 = cc in absurd (omega arith)

pub start_stop_refusals : StartStopRefusals
start_stop_refusals setting sheet bytes size policy words starts stops n k arena report start stop e =
    ⊎_elim
    (λ (x : (i j : ℕ) × (a r : List ℕ) × (bind_of setting sheet bytes size policy words ≡ outcome (refused i j) a r)).
    by_bind x.0 x.1 x.2 x.3 x.4)
    (λ (x : (a r : List ℕ) × (bind_of setting sheet bytes size policy words ≡ outcome passed a r)). by_lists x.0 x.1 x.2)
    (outcome_of_lem (bind_of setting sheet bytes size policy words))
  where
    by_bind :
        (i j : ℕ) (a r : List ℕ) → bind_of setting sheet bytes size policy words ≡ outcome (refused i j) a r
        → StartStopRefused sheet bytes size words starts stops n k arena report start stop
    by_bind i j a r q =
        let g :
        listing (refused i j) (replicate size 0) (replicate words 0) (replicate starts 0) (replicate stops 0)
        ≡ listing (refused n k) arena report start stop =
        sym (after_refusal setting sheet bytes size policy words starts stops i j a r q) ∙ e in
        let b = bind_refusals setting sheet bytes size policy words i j a r q in
        let z : ◌≡◌ {A = Lists} (refused i j) (refused n k) = cc in
        let x = (refused_same i j n k z).0 in
        let y = (refused_same i j n k z).1 in
        record {
          number = inl (rw x at b.number, rw (x, y) at b.object);
          arena_zeros = cc;
          report_zeros = cc;
          start_zeros = cc;
          stop_zeros = cc;
        }

    by_lists :
        (a r : List ℕ) → bind_of setting sheet bytes size policy words ≡ outcome passed a r
        → StartStopRefused sheet bytes size words starts stops n k arena report start stop
    by_lists a r q =
        let z = listing_refused starts stops _ a r _ _ n k arena report start stop (sym (after_binding setting sheet bytes size policy words starts stops a r q) ∙ e) in
        let l = lengths.bind setting sheet bytes size policy words passed a r q in
        record {
          number =
              inr
              (⊎_elim (λ x. let b = number_of_lem setting sheet bytes size policy words starts stops a r q k x.1 in inl (x.0, b.0, b.1)) (λ x. inr x)
              (lists_met _ _ starts stops n k z.0));
          arena_zeros = z.1 ∙ ap (λ (i : ℕ). replicate i 0) l.0;
          report_zeros = z.2 ∙ ap (λ (i : ℕ). replicate i 0) l.1;
          start_zeros = z.3;
          stop_zeros = z.4;
        }

pub binds_first : BindsFirst
binds_first =
    record {
      refused = λ setting sheet bytes size policy words starts stops n k arena report e.
          let b = bind_refusals setting sheet bytes size policy words n k arena report e in
          after_refusal setting sheet bytes size policy words starts stops n k arena report e
          ∙ rw (b.arena_zeros, b.report_zeros);
      listed = λ setting sheet bytes size policy words starts stops n m arena report start stop e.
          ⊎_elim
          (λ (x : (i j : ℕ) × (a r : List ℕ) × (bind_of setting sheet bytes size policy words ≡ outcome (refused i j) a r)).
          not_listed (sym (after_refusal setting sheet bytes size policy words starts stops x.0 x.1 x.2 x.3 x.4) ∙ e))
          (λ (x : (a r : List ℕ) × (bind_of setting sheet bytes size policy words ≡ outcome passed a r)).
          let z = listing_listed starts stops _ x.0 x.1 _ _ n m arena report start stop
          (sym (after_binding setting sheet bytes size policy words starts stops x.0 x.1 x.2) ∙ e) in
          x.2 ∙ rw (z.1, z.2))
          (outcome_of_lem (bind_of setting sheet bytes size policy words));
    }

-- what is listed, and that it fits
module _
    (setting : Setting) (sheet bytes : List ℕ) (size : ℕ) (policy : Policy) (words starts stops n m : ℕ) (arena report start stop : List ℕ)
    (e : start_stop_of setting sheet bytes size policy words starts stops ≡ listing (counted n m) arena report start stop)
  where
    bound_it : BoundBy setting sheet bytes size policy words arena report
    bound_it = binds_first.listed setting sheet bytes size policy words starts stops n m arena report start stop e

    record Fitting : Type 0 where
      starting : List ℕ
      stopping : List ℕ
      n_is : n ≡ length starting
      m_is : m ≡ length stopping
      n_fits : length starting ≤ starts
      m_fits : length stopping ≤ stops
      start_is : start ≡ padded starts starting
      stop_is : stop ≡ padded stops stopping

    fitting : Fitting
    unfolding defs.lists_verdict
    fitting =
        let c = calls setting sheet bytes size policy words starts stops arena in
        let o = order setting sheet bytes size policy words starts stops in
        let z = listing_listed starts stops _ arena report _ _ n m arena report start stop
        (sym (after_binding setting sheet bytes size policy words starts stops arena report bound_it) ∙ e) in
        let v = first_passed (arrays_verdict c o) _ z.0 in
        let t = both_true (leb (length (start_list c o)) starts) _ (unless_passed _ 27 0 v.1) in
        record {
          starting = start_list c o;
          stopping = stop_list c o;
          n_is = z.3;
          m_is = z.4;
          n_fits = leb-true (length (start_list c o)) starts t.0;
          m_fits = leb-true (length (stop_list c o)) stops t.1;
          start_is = z.5;
          stop_is = z.6;
        }

padded_length : (n : ℕ) (ws : List ℕ) → length ws ≤ n → length (padded n ws) ≡ n
padded_length n ws l = simp (length-append, length-replicate) (omega arith)

padded_take : (n k : ℕ) (ws xs : List ℕ) → k ≡ length ws → xs ≡ padded n ws → xs ≡ take k xs ++ replicate (n - k) 0
padded_take n k ws xs e z =
    let t : take k xs ≡ ws = rw (z, e) (take-append_seam ws (replicate (n - length ws) 0)) in
    rw (t, e) z

pub start_stop_lengths : StartStopLengths
start_stop_lengths setting sheet bytes size policy words starts stops r arena report start stop e = go r e
  where
    go :
        (x : Lists) → start_stop_of setting sheet bytes size policy words starts stops ≡ listing x arena report start stop
        → (length arena ≡ size) × (length report ≡ words) × (length start ≡ starts) × (length stop ≡ stops)
    go (Err m) q =
        let z = start_stop_refusals setting sheet bytes size policy words starts stops m.number m.object arena report start stop q in (
          ap length z.arena_zeros ∙ length-replicate size 0,
          ap length z.report_zeros ∙ length-replicate words 0,
          ap length z.start_zeros ∙ length-replicate starts 0,
          ap length z.stop_zeros ∙ length-replicate stops 0,
        )
    go (Ok c) q =
        let l = lengths.bind setting sheet bytes size policy words passed arena report
        (bound_it setting sheet bytes size policy words starts stops c.start c.stop arena report start stop q) in
        let f = fitting setting sheet bytes size policy words starts stops c.start c.stop arena report start stop q in (
          l.0,
          l.1,
          ap length f.start_is ∙ padded_length starts f.starting f.n_fits,
          ap length f.stop_is ∙ padded_length stops f.stopping f.m_fits,
        )

pub counted_words : CountedWords
counted_words setting sheet bytes size policy words starts stops n m arena report start stop e =
    let f = fitting setting sheet bytes size policy words starts stops n m arena report start stop e in (
      omega (arith, f.n_is, f.n_fits),
      omega (arith, f.m_is, f.m_fits),
      padded_take starts n f.starting start f.n_is f.start_is,
      padded_take stops m f.stopping stop f.m_is f.stop_is,
    )
