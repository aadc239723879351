-- An object's turn up to an entry, and what is met before a copy that crosses an earlier one. Assumes nothing.
use Rattle.std.proofs.Common.{◌≡◌, ℕ, ◌+◌, ◌-◌, ◌<◌, min, List, length, get_or, take, sym, ap, ◌∙◌, ⊎_elim, eq-eqb, ne_eqb, Err, Option, None, Some}
use Rattle.object.specs.Record.{Record}
use Rattle.sheet.specs.Sheet.{Input, no_input}
use Rattle.binder.specs.Verdict.{Verdict, refused, first, passed}
use Rattle.binder.specs.declared.report.Progress.{Progress}
use Rattle.binder.specs.declared.turn.Turn.{Turn}
use Rattle.binder.specs.declared.crossing.Crossing.{Crossing}
use Rattle.binder.specs.Steps.Relocating.{Left, left, summed, started, keeps, image_in, turn_of, cut_to32, again_refusal}
use Rattle.binder.specs.Steps.Relocating.{again_record, run_relrs, run_table, until_tables, run_order, run_until}
use Rattle.binder.specs.Steps.Crossing.{PlainlyApart, FirstCrossing, CrossingIn}
use Rattle.binder.specs.declared.Refused.{Refused}
use Rattle.binder.proofs.OutcomeLaws.{refused_not}
use Rattle.binder.specs.Steps.Finished.{UntilReadable, Crossed}

-- ---- an object up to an entry

module _ (table : List ℕ) (k : ℕ) (file : List ℕ) (m : ℕ) (p : Progress) (a report : List ℕ) {t : Turn} (is : t ≡ turn_of table k)
    {r : Record} (again : again_refusal (image_in a t) file ≡ 0 → r ≡ again_record (image_in a t) file)
    (ok : again_refusal (image_in a (turn_of table k)) file ≡ 0) where
  record_here : r ≡ again_record (image_in a (turn_of table k)) file
  record_here = again (rw is ok) ∙ ap (λ (t : Turn). again_record (image_in a t) file) is

  module _ {z : ℕ} {b : List ℕ} (relr : summed z b ≡ run_relrs t r a) where
    until_is : (out : Left) → out ≡ until_tables table t r m p report (summed z b) → out ≡ run_until table k file m p a report
    unfolding run_until
    until_is out e =
        e
        ∙ (ap (until_tables table t r m p report) relr
        ∙ (ap (λ (t : Turn). until_tables table t r m p report (run_relrs t r a)) is
        ∙ ap (λ (r : Record). until_tables table (turn_of table k) r m p report (run_relrs (turn_of table k) r a)) record_here))

    pub until_relr :
        {d : Refused} → (z ≡ 0 → ⊥) → d ≡ record { number = z; object = t.number } → left (Err d) p b report ≡ run_until table k file m p a report
    until_relr {d} h e = until_is (left (Err d) p b report) (rw (e, ne_eqb z 0 h))

    module _ (none : z ≡ 0) {n f : ℕ} (hn : n ≡ cut_to32 r.relas) (hf : f ≡ min n m)
        {met : Verdict} {q : Progress} {b₁ notes₁ : List ℕ} (run : left met q b₁ notes₁ ≡ run_table table t r r.rela 0 f 0 (keeps None p) b report) where
      first_table : left met q b₁ notes₁ ≡ run_table table t r r.rela 0 (min (cut_to32 r.relas) m) 0 (keeps None p) b report
      first_table = run ∙ ap (λ (i : ℕ). run_table table t r r.rela 0 i 0 (keeps None p) b report) (hf ∙ ap (λ (i : ℕ). min i m) hn)

      pub until_stops : {d : Refused} → met ≡ Err d → left (Err d) q b₁ notes₁ ≡ run_until table k file m p a report
      until_stops {d} e = until_is (left (Err d) q b₁ notes₁) (rw (eq-eqb z 0 none, ← first_table, e))

      pub until_goes :
          {out : Left} {c u : ℕ} → met ≡ passed → u ≡ cut_to32 r.plts → c ≡ min u (m - f)
          → out ≡ run_table table t r r.plt n c 0 q b₁ notes₁
          → out ≡ run_until table k file m p a report
      until_goes {out} {c} {u} h hu hc e =
          let j : c ≡ min (cut_to32 r.plts) (m - min (cut_to32 r.relas) m) =
          hc ∙ (ap (λ (i : ℕ). min i (m - f)) hu ∙ ap (λ (i : ℕ). min (cut_to32 r.plts) (m - i)) (hf ∙ ap (λ (i : ℕ). min i m) hn)) in
          until_is out
          (rw (eq-eqb z 0 none, ← first_table, h)
          (e
          ∙ (ap (λ (i : ℕ). run_table table t r r.plt i c 0 q b₁ notes₁) hn
          ∙ ap (λ (i : ℕ). run_table table t r r.plt (cut_to32 r.relas) i 0 q b₁ notes₁) j)))

-- ---- 28, or what is met before it

module _ (os : List Input) (table ks : List ℕ) (i j : ℕ) (arena report : List ℕ) where
  module _ {met : Verdict} {p : Progress} {a notes : List ℕ} (run : left met p a notes ≡ run_order table os (take i ks) started arena report) where
    pub crossed_early : {d : Refused} → met ≡ Err d → Crossed os table ks i j arena report (Err d)
    crossed_early {d} e =
        record {
          reached = met;
          progress = p;
          before = a;
          notes = notes;
          leaves = run;
          stopped = λ d' e'. sym e ∙ e';
          until = λ z. refused_not d.number d.object (sym e ∙ z);
        }

    module _ (z : met ≡ passed) (read : UntilReadable os table ks i arena report) {k : ℕ} (is : k ≡ get_or ks i 0)
        {file : List ℕ} (f : file ≡ (get_or os k no_input).file) {v : Verdict} {q : Progress} {a' notes' : List ℕ}
        (run_to : again_refusal (image_in a (turn_of table k)) file ≡ 0 → left v q a' notes' ≡ run_until table k file (j + 1) p a notes) where
      same : get_or ks i 0 ≡ k
      same = sym is

      readable : again_refusal (image_in a (turn_of table k)) file ≡ 0
      readable = let r = read p a notes (rw z at run) in rw f (rw same at r)

      runs : left v q a' notes' ≡ run_until table (get_or ks i 0) (get_or os (get_or ks i 0) no_input).file (j + 1) p a notes
      runs = rw (same, ← f) (run_to readable)

      with_28 :
          (m : Verdict) → m ≡ first v (refused 28 (get_or ks i 0)) → Crossed os table ks i j arena report m
      with_28 m e =
          record {
            reached = met;
            progress = p;
            before = a;
            notes = notes;
            leaves = run;
            stopped = λ d h. refused_not d.number d.object (sym h ∙ z);
            until = λ _. (v, q, a', notes', runs, e);
          }

      pub crossed_there : {d : Refused} → v ≡ Err d → Crossed os table ks i j arena report (Err d)
      crossed_there {d} e = with_28 (Err d) (rw e)

      pub crossed_28 : v ≡ passed → Crossed os table ks i j arena report (refused 28 k)
      crossed_28 e = with_28 (refused 28 k) (rw (e, same))

-- what was found is of an object of the order
pub crossing_index :
    (table : List ℕ) (os : List Input) (a ks : List ℕ) (m : Crossing) → CrossingIn table os a ks (Some m) → m.index < length ks
crossing_index table os a ks m x =
    ⊎_elim
    (λ (z : (◌≡◌ {A = Option Crossing} (Some m) None) × PlainlyApart table os a ks). let e = z.0 in cc)
    (λ (f : FirstCrossing table os a ks (Some m)). f.met.object)
    x
