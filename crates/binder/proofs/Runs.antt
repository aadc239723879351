-- Steps of binding one after another, until a refusal: what a step left, and a step after it. Assumes nothing.
use Rattle.std.proofs.Common.{◌≡◌, ℕ, List, length, sym, refl, eq-eqb, ne_eqb, Err}
use Rattle.binder.specs.Verdict.{Verdict, passed, refused, first, verdict}
use Rattle.binder.specs.Steps.Relocating.{Left, left, unless_refused}
use Rattle.binder.specs.declared.report.Progress.{Progress}
use Rattle.binder.proofs.OutcomeLaws.{refused_not}

-- ---- the first of two refusals

pub first_assoc : (u v w : Verdict) → first (first u v) w ≡ first u (first v w)
first_assoc passed v w = refl
first_assoc (Err m) v w = refl

pub verdict_none : (n k : ℕ) → n ≡ 0 → verdict n k ≡ passed
unfolding verdict
verdict_none n k e = rw (eq-eqb n 0 e)

pub verdict_some : (n k : ℕ) → (n ≡ 0 → ⊥) → verdict n k ≡ refused n k
unfolding verdict
verdict_some n k ne = rw (ne_eqb n 0 ne)

-- a refusal that was met stays
pub first_met : (n k : ℕ) (v : Verdict) → (n ≡ 0 → ⊥) → first (verdict n k) v ≡ verdict n k
unfolding verdict
first_met n k v ne = rw (ne_eqb n 0 ne)

-- ---- what a step left

-- a step over an arena of `size` bytes and a report of `n` words has the verdict `v`; where that is none, it left what `D` says
module _ (size n : ℕ) where
  pub record RanTo (v : Verdict) (D : Progress → List ℕ → List ℕ → Type 0) (met : Verdict) (p : Progress) (a report : List ℕ) : Type 0 where
    pub verdict_is : met ≡ v
    pub arena_length : length a ≡ size
    pub report_length : length report ≡ n
    pub done : v ≡ passed → D p a report

  abbrev pub Ran : Verdict → (Progress → List ℕ → List ℕ → Type 0) → Left → Type 0
  Ran v D (left met p a report) = RanTo v D met p a report

  -- a refusal
  pub ran_refused :
      (z k : ℕ) (D : Progress → List ℕ → List ℕ → Type 0) (p : Progress) (a report : List ℕ) → (z ≡ 0 → ⊥)
      → length a ≡ size → length report ≡ n → Ran (verdict z k) D (left (refused z k) p a report)
  ran_refused z k D p a report ne la lr = rw (verdict_some z k ne)
      record { verdict_is = refl; arena_length = la; report_length = lr; done = λ e. refused_not z k e }

  -- none
  pub ran_passed :
      (v : Verdict) (D : Progress → List ℕ → List ℕ → Type 0) (p : Progress) (a report : List ℕ) → v ≡ passed
      → length a ≡ size → length report ≡ n → D p a report → Ran v D (left passed p a report)
  ran_passed v D p a report e la lr d = record { verdict_is = sym e; arena_length = la; report_length = lr; done = λ _. d }

  -- what was left says more
  pub ran_weaker :
      (v : Verdict) (D D' : Progress → List ℕ → List ℕ → Type 0) → ((p : Progress) (a report : List ℕ) → D p a report → D' p a report)
      → (st : Left) → Ran v D st → Ran v D' st
  ran_weaker v D D' f (left met p a report) r =
      record {
        verdict_is = r.verdict_is;
        arena_length = r.arena_length;
        report_length = r.report_length;
        done = λ e. f p a report (r.done e);
      }

  -- the next step
  pub ran_then :
      (v w : Verdict) (D E : Progress → List ℕ → List ℕ → Type 0) (next : Progress → List ℕ → List ℕ → Left)
      → ((p : Progress) (a report : List ℕ) → D p a report → Ran w E (next p a report))
      → (st : Left) → Ran v D st → Ran (first v w) E (unless_refused next st)
  ran_then v w D E next f (left passed p a report) r = rw (← r.verdict_is) (f p a report (r.done (sym r.verdict_is)))
  ran_then v w D E next f (left (Err m) p a report) r = rw (← r.verdict_is)
      record {
        verdict_is = refl;
        arena_length = r.arena_length;
        report_length = r.report_length;
        done = λ e. refused_not m.number m.object e;
      }
