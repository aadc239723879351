-- The words of a report: what has been noted so far, then zeros. Assumes nothing.
use Rattle.std.proofs.Common.{◌≡◌, ℕ, zero, suc, ◌+◌, ◌^◌, ◌<◌, ◌≤◌, min, Bool, true, false, eqb, ltb, List, [], ◌∷◌, ◌++◌, length, take, set, replicate, sym, refl, ap, ◌∙◌, subst, ⊎_elim, arith, length-append, length-take-le, le-ltb, lt-ltb, ne_eqb, eqb-true, Option}
use native.Mathlib.Decide.{dec_lt}
use lib.ListN.{length-replicate}
use lib.Seq.{take-append-le}
use Rattle.words.proofs.Slices.{take_zeros}
use Rattle.words.specs.Choice.{pick, either}
use Rattle.model.proofs.OrderLaws.{decide}
use Rattle.object.specs.Symbol.{binding_of}
use Rattle.object.specs.declared.symbol.Symbol.{Symbol}
use Rattle.binder.specs.Report.{report_word}
use Rattle.binder.specs.Steps.Relocating.{Noted, noted, keeps, report_sum, note_of, mark_undefined, undefined_in, unresolved_of}
use Rattle.binder.specs.declared.report.Kept.{Kept}
use Rattle.binder.specs.declared.report.Progress.{Progress}

-- a report of n words that has these words, then zeros; what does not fit is dropped
unfoldable pub fill_of : ℕ → List ℕ → List ℕ
fill_of n ws = take n (ws ++ replicate n 0)

-- the report of n words has the words `ws`; `u` is the first object that has an undefined entry
pub record Going (ws : List ℕ) (u n : ℕ) (p : Progress) (report : List ℕ) : Type 0 where
  pub words : p.words ≡ min (length ws) n
  pub full : p.full ≡ ltb n (length ws)
  pub undefined : p.undefined ≡ u
  pub report_is : report ≡ fill_of n ws

abbrev pub NotedGoing : List ℕ → ℕ → ℕ → Noted → Type 0
NotedGoing ws u n (noted p report) = Going ws u n p report

-- the first of two objects; 0 is none
unfoldable pub earlier : ℕ → ℕ → ℕ
earlier u v = pick (eqb u 0) v u

-- ---- laws of the report's words

pub fill_length : (n : ℕ) (ws : List ℕ) → length (fill_of n ws) ≡ n
unfolding fill_of
fill_length n ws =
    length-take-le n (ws ++ replicate n 0) (omega (arith, length-append ws (replicate n 0), length-replicate {A = ℕ} n 0))

pub fill_none : (n : ℕ) → replicate n 0 ≡ fill_of n []
unfolding fill_of
fill_none n = sym (take_zeros n n (omega arith))

-- one more word, where there is room, and where there is none
set_take :
    (ws : List ℕ) (n m w : ℕ) → length ws < n → n ≤ m
    → set (take n (ws ++ replicate m 0)) (length ws) w ≡ take n ((ws ++ (w ∷ [])) ++ replicate m 0)
set_take ws zero m w h l = absurd (omega arith)
set_take [] (suc n) zero w h l = absurd (omega arith)
set_take [] (suc n) (suc m) w h l =
    ap (λ (l : List ℕ). w ∷ l) (take_zeros n m (omega arith) ∙ sym (take_zeros n (suc m) (omega arith)))
set_take (x ∷ ws) (suc n) m w h l = ap (λ (l : List ℕ). x ∷ l) (set_take ws n m w (omega arith) (omega arith))

fill_more : (ws : List ℕ) (n w : ℕ) → length ws < n → set (fill_of n ws) (length ws) w ≡ fill_of n (ws ++ (w ∷ []))
unfolding fill_of
fill_more ws n w h = set_take ws n n w h (omega arith)

fill_full : (ws : List ℕ) (n w : ℕ) → n ≤ length ws → fill_of n ws ≡ fill_of n (ws ++ (w ∷ []))
unfolding fill_of
fill_full ws n w h =
    take-append-le n ws (replicate n 0) h
    ∙ sym
    (take-append-le n (ws ++ (w ∷ [])) (replicate n 0) (omega (arith, length-append ws (w ∷ []))) ∙ take-append-le n ws (w ∷ []) h)

-- ---- a word is noted

-- a word of 32 bits
report_sum_lem : (kind i : ℕ) → report_word kind i < 2 ^ 32 → report_sum kind i ≡ report_word kind i
report_sum_lem kind i l = omega arith

module _ (ws : List ℕ) (u n : ℕ) (p : Progress) (report : List ℕ) (g : Going ws u n p report) where
  pub going_length : length report ≡ n
  going_length = ap length g.report_is ∙ fill_length n ws

  one_more : (w : ℕ) → length (ws ++ (w ∷ [])) ≡ length ws + 1
  one_more w = length-append ws (w ∷ [])

  room : (w : ℕ) → length ws < n → NotedGoing (ws ++ (w ∷ [])) u n (note_of w p report)
  unfolding note_of
  room w h =
      let at : p.words ≡ length ws = omega (arith, g.words) in
      rw (lt-ltb p.words (length report) (omega (arith, going_length)))
      record {
        words = omega (arith, one_more w);
        full = g.full ∙ (le-ltb n (length ws) (omega arith) ∙ sym (le-ltb n (length (ws ++ (w ∷ []))) (omega (arith, one_more w))));
        undefined = g.undefined;
        report_is = rw (at, g.report_is) (fill_more ws n w h);
      }

  no_room : (w : ℕ) → n ≤ length ws → NotedGoing (ws ++ (w ∷ [])) u n (note_of w p report)
  unfolding note_of
  no_room w h =
      rw (le-ltb p.words (length report) (omega (arith, going_length, g.words)))
      record {
        words = omega (arith, one_more w, g.words);
        full = sym (lt-ltb n (length (ws ++ (w ∷ []))) (omega (arith, one_more w)));
        undefined = g.undefined;
        report_is = g.report_is ∙ fill_full ws n w h;
      }

  note_going : (w : ℕ) → NotedGoing (ws ++ (w ∷ [])) u n (note_of w p report)
  note_going w = elim (dec_lt (length ws) n) [ yes h ↦ room w h | no h ↦ no_room w (omega arith) ]

  pub word_going :
      (kind i : ℕ) → report_word kind i < 2 ^ 32 → NotedGoing (ws ++ (report_word kind i ∷ [])) u n (note_of (report_sum kind i) p report)
  word_going kind i l =
      subst (λ (w : ℕ). NotedGoing (ws ++ (w ∷ [])) u n (note_of (report_sum kind i) p report)) (report_sum_lem kind i l)
      (note_going (report_sum kind i))

  -- object `k` has an undefined entry
  pub mark_going : (k : ℕ) → Going ws (earlier u k) n (undefined_in k p) report
  unfolding earlier
  mark_going k =
      record {
        words = g.words;
        full = g.full;
        undefined = ap (λ (u : ℕ). pick (eqb u 0) k u) g.undefined;
        report_is = g.report_is;
      }

pub marked_going : (ws : List ℕ) (u n k : ℕ) (q : Noted) → NotedGoing ws u n q → NotedGoing ws (earlier u k) n (mark_undefined k q)
marked_going ws u n k (noted p report) g = mark_going ws u n p report g k

-- ---- the kept answer

-- an answer is kept, or none
pub keeps_going : (ws : List ℕ) (u n : ℕ) (kept : Option Kept) (p : Progress) (report : List ℕ) → Going ws u n p report → Going ws u n (keeps kept p) report
keeps_going ws u n kept p report g = record { words = g.words; full = g.full; undefined = g.undefined; report_is = g.report_is }

-- words of the report leave it
abbrev pub KeptAs : Option Kept → Noted → Type 0
KeptAs kept (noted p report) = p.kept ≡ kept

pub note_kept : (w : ℕ) (p : Progress) (report : List ℕ) → KeptAs p.kept (note_of w p report)
unfolding note_of
note_kept w p report =
    ⊎_elim (λ (t : ltb p.words (length report) ≡ true). rw t) (λ (t : ltb p.words (length report) ≡ false). rw t)
    (decide (ltb p.words (length report)))

marked_kept : (kept : Option Kept) (k : ℕ) (q : Noted) → KeptAs kept q → KeptAs kept (mark_undefined k q)
marked_kept kept k (noted p report) h = h

pub unresolved_kept : (y : Symbol) (k i : ℕ) (p : Progress) (report : List ℕ) → KeptAs p.kept (unresolved_of y k i p report)
unfolding unresolved_of
unresolved_kept y k i p report =
    ⊎_elim (λ (t : eqb (binding_of y) 2 ≡ true). rw t)
    (λ (t : eqb (binding_of y) 2 ≡ false).
    rw t (marked_kept p.kept k (note_of (report_sum 6 i) p report) (note_kept (report_sum 6 i) p report)))
    (decide (eqb (binding_of y) 2))

-- ---- the first object that has an undefined entry

pub earlier_none : (u : ℕ) → earlier u 0 ≡ u
unfolding earlier
earlier_none u =
    ⊎_elim (λ (t : eqb u 0 ≡ true). rw t (sym (eqb-true u 0 t))) (λ (t : eqb u 0 ≡ false). rw t) (decide (eqb u 0))

pub earlier_first : (v : ℕ) → earlier 0 v ≡ v
unfolding earlier
earlier_first v = refl

earlier_met : (k v : ℕ) → 1 ≤ k → earlier k v ≡ k
unfolding earlier
earlier_met k v h = rw (ne_eqb k 0 (λ e. omega arith))

earlier_assoc : (u v w : ℕ) → earlier (earlier u v) w ≡ earlier u (earlier v w)
unfolding earlier
earlier_assoc u v w =
    ⊎_elim (λ (t : eqb u 0 ≡ true). rw t) (λ (t : eqb u 0 ≡ false). rw t (rw t)) (decide (eqb u 0))

-- object `k`, where it has one, before what follows
pub mark_first : (b : Bool) (u k v : ℕ) → 1 ≤ k → earlier (earlier u (pick b k 0)) v ≡ earlier u (pick b k v)
mark_first true u k v h = earlier_assoc u k v ∙ ap (earlier u) (earlier_met k v h)
mark_first false u k v h = earlier_assoc u 0 v ∙ ap (earlier u) (earlier_first v)

pub mark_twice : (b c : Bool) (u k : ℕ) → 1 ≤ k → earlier (earlier u (pick b k 0)) (pick c k 0) ≡ earlier u (pick (either b c) k 0)
mark_twice true c u k h = mark_first true u k (pick c k 0) h
mark_twice false c u k h = mark_first false u k (pick c k 0) h
