use Rattle.std.specs.Prelude.{Result}
use Rattle.std.proofs.Common.{◌≡◌, ℕ, zero, suc, ◌+◌, ◌-◌, ◌<◌, ◌≤◌, List, take, sym, refl, ap, ◌∙◌, subst, arith}
use Rattle.std.proofs.lemmas.Result.{err_from_is_err_and}
use native.Mathlib.Numerals.{unary_clauses}
use Rattle.words.specs.declared.refusal.Refusal.{Refusal}
use Rattle.object.specs.Record.{Record, held_by}
use Rattle.object.specs.Entries.{relr_at, relr_of}
use Rattle.object.specs.declared.relocate.Relr.{Relr}
use Rattle.object.specs.declared.program_header.Segment.{Segment}
use Rattle.binder.specs.declared.turn.Turn.{Turn}
use Rattle.binder.specs.Steps.Relocating.{far, summed, add_relr, add_relrs}
use Rattle.binder.specs.Steps.RunSteps.{go_on, Moves}
use Rattle.binder.proofs.relr.add_relrs.Goals as goal

-- one turn
module _ (t : Turn) (r : Record) (n i location : ℕ) (a : List ℕ) (h : i < n) where
  turn :
      {ss : List Segment} {w : ℕ} {e : Relr} (m : Result ℕ Refusal) (x : List ℕ) → r.segments ≡ ss → w ≡ relr_at (take t.span a) r.relr i → e ≡ relr_of w
      → Moves m x (add_relr t.base ss location e a) → add_relrs t r (n - i) i location a ≡ go_on (add_relrs t r (n - (i + 1)) (i + 1)) m x
  unfolding add_relrs
  turn {ss} {w} {e} m x same rd is g =
      let z : n - i ≡ suc (n - (i + 1)) = omega arith in
      let f = subst (λ (ss : List Segment). Moves m x (add_relr t.base ss location e a)) (sym same) g in
      rw (z, ← rd, ← is) (sym (f (add_relrs t r (n - (i + 1)) (i + 1))))

none : (t : Turn) (r : Record) (n i location : ℕ) (a : List ℕ) → n ≤ 0 → add_relrs t r n i location a ≡ summed 0 a
unfolding add_relrs
none t r zero i location a h = refl
none t r (suc n) i location a h = absurd (omega arith)

pub loop-i-init : goal.loop-i-init
loop-i-init c = (refl, omega arith, λ r e f. simp unary_clauses refl)

pub returns-in_err-location : goal.returns-in_err-location
returns-in_err-location c =
    let a = c.args in
    let l = c.loop-i in
    let n = c.cut_to_32-i-end.result in
    let b = c.bounds_of-b in
    let p = err_from_is_err_and c.from_residual.result c.from_residual.ensures.1 in
    let m = c.add_relr in
    rw (p.1, p.2)
    (ap (λ (s : Result ℕ Refusal). go_on (add_relrs a.t (held_by a.o.now) (n - (l.i + 1)) (l.i + 1)) s m.new.part) (sym c.in_err-location.was)
    ∙ (sym (turn a.t (held_by a.o.now) n l.i l.location l.part (omega arith) m.result m.new.part (sym b.ensures.segments) c.relr_in.ensures c.relr_of-e.ensures m.ensures.goes_on)
    ∙ (l.invariant.2 (held_by a.o.now) (sym b.ensures.segments) refl
    ∙ ap (λ (k : ℕ). add_relrs a.t (held_by a.o.now) k 0 far a.part.now) c.cut_to_32-i-end.ensures)))

pub loop-i-preserved : goal.loop-i-preserved
loop-i-preserved c =
    let a = c.args in
    let l = c.loop-i in
    let m = c.add_relr in
    let n = c.cut_to_32-i-end.result in (
      m.auto.part ∙ l.invariant.0,
      c.in_ok-location.ensures.near,
      λ r same at.
          ap (λ (s : Result ℕ Refusal). go_on (add_relrs a.t r (n - (l.i + 1)) (l.i + 1)) s m.new.part) (sym c.in_ok-location.was)
          ∙ (sym (turn a.t r n l.i l.location l.part (omega arith) m.result m.new.part same (c.relr_in.ensures ∙ ap (λ (k : ℕ). relr_at (take a.t.span l.part) k l.i) (sym at)) c.relr_of-e.ensures m.ensures.goes_on)
          ∙ l.invariant.2 r same at),
    )

pub shape_of-part : goal.shape_of-part
shape_of-part c = c.loop-i.invariant.0

pub returns : goal.returns
returns c =
    let a = c.args in
    let l = c.loop-i in
    let b = c.bounds_of-b in
    sym (none a.t (held_by a.o.now) (c.cut_to_32-i-end.result - l.i) l.i l.location l.part (omega arith))
    ∙ (l.invariant.2 (held_by a.o.now) (sym b.ensures.segments) refl
    ∙ ap (λ (k : ℕ). add_relrs a.t (held_by a.o.now) k 0 far a.part.now) c.cut_to_32-i-end.ensures)
