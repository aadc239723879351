-- An object's turn, over the arena as it is then: its record, RELR, RELA and PLT do what the definitions say of the placed bytes. Assumes
-- nothing.
use Rattle.std.proofs.Common.{◌≡◌, ℕ, ◌+◌, ◌-◌, ◌*◌, ◌^◌, ◌<◌, ◌≤◌, min, Bool, true, false, eqb, List, [], ◌∷◌, ◌++◌, map, sym, refl, ap, ◌∙◌, subst, ⊎_elim, append_assoc, arith, eq-eqb, eqb-true, None}
use borrow.Author.Tests.{eqb-false}
use Rattle.words.specs.Choice.{pick}
use Rattle.words.specs.Memory.{Mem, mem}
use Rattle.model.specs.Objects.{Entry, Obj, Objs, count, obj}
use Rattle.model.specs.Relocation.{add_words, effects, relocate}
use Rattle.model.proofs.OrderLaws.{decide}
use Rattle.object.specs.Record.{Record}
use Rattle.binder.specs.Instance.{File, file_image, file_record, places_of, named_words, relas_of, entry_of, object_at}
use Rattle.binder.specs.Setting.{Setting}
use Rattle.binder.specs.Verdict.{Verdict, first, words_verdict}
use Rattle.object.specs.Entries.{relas_from}
use Rattle.binder.specs.Steps.PlainVerdict.{plain_entries, plain_object}
use Rattle.binder.specs.Report.{report_word, entry_report, object_words, has_undefined}
use Rattle.binder.specs.Steps.Relocating.{Noted, noted, Summed, summed, keeps, report_sum, note_of, run_relrs, turn_of, image_in, again_refusal, unless_refused, cut_to32, run_table, run_tables, then_tables, run_object, run_at, until_tables, run_until}
use Rattle.binder.specs.declared.turn.Turn.{Turn}
use Rattle.binder.specs.declared.report.Progress.{Progress}
use Rattle.binder.proofs.Steady.{set, file_at, LoadedSet, PlacedAt, Steady}
use Rattle.binder.proofs.SteadyLaws.{lies, counts, again}
use Rattle.binder.proofs.ReportFill.{Going, NotedGoing, KeptAs, earlier, going_length, word_going, keeps_going, note_kept}
use Rattle.binder.proofs.Runs.{Ran, verdict_none, first_met, ran_refused, ran_weaker}
use Rattle.binder.proofs.EntryIs.{none_kept, Doing}
use Rattle.binder.proofs.TableIs.{Entered, tables_ran, tables_until}
use Rattle.binder.proofs.RelrIs.{RelrEnded, relr_is}

module _ (setting : Setting) (size : ℕ) (table : List ℕ) (h pr : File) (fs : List File) (L : LoadedSet setting size table h pr fs)
    (k : ℕ) (lo : 1 ≤ k) (hi : k < count (set setting size table h pr fs)) (n : ℕ) where
  abbrev address : ℕ
  address = setting.address

  abbrev S : Objs
  S = set setting size table h pr fs

  abbrev t : Turn
  t = turn_of table k

  abbrev f : File
  f = file_at setting size table h pr fs k

  abbrev r : Record
  r = file_record f

  abbrev image : List ℕ
  image = file_image f

  -- ---- the object of the model

  is : obj S k ≡ object_at setting f (obj S k).offset
  is = (lies setting size table h pr fs L k hi).object.is

  words_are : (obj S k).words ≡ places_of (named_words image r)
  unfolding object_at
  words_are = ap (λ (o : Obj). o.words) is ∙ ap (λ (b : Bool). pick b [] (places_of (named_words image r))) (L.others k lo hi)

  base_is : (obj S k).base ≡ address + (obj S k).offset
  unfolding object_at
  base_is = ap (λ (o : Obj). o.base) is

  entries_are : (obj S k).entries ≡ map (entry_of setting.row image r (obj S k).base) (relas_of image r)
  unfolding object_at
  entries_are =
      ap (λ (o : Obj). o.entries) is
      ∙ (ap (λ (b : Bool). pick b [] (map (entry_of setting.row image r (address + (obj S k).offset)) (relas_of image r))) (L.others k lo hi)
      ∙ ap (λ (b : ℕ). map (entry_of setting.row image r b) (relas_of image r)) (sym base_is))

  relocate_is :
      (m : Mem)
      → effects S k (map (entry_of setting.row image r (obj S k).base) (relas_of image r)) (add_words (obj S k) (places_of (named_words image r)) m) ≡ relocate S k m
  unfolding relocate
  relocate_is m =
      sym
      (ap (λ (es : List Entry). effects S k es (add_words (obj S k) (obj S k).words m)) entries_are
      ∙ ap
      (λ (ps : List ℕ). effects S k (map (entry_of setting.row image r (obj S k).base) (relas_of image r)) (add_words (obj S k) ps m))
      words_are)

  -- ---- its turn

  module _ (ws : List ℕ) (u : ℕ) (p : Progress) (a report : List ℕ) (g : Going ws u n p report) (s : Steady setting size table h pr fs a) where
    -- what its turn leaves
    abbrev pub Turned : Progress → List ℕ → List ℕ → Type 0
    Turned =
        Doing setting size table h pr fs L k lo hi n a (ws ++ object_words setting.row S k f) (earlier u (pick (has_undefined setting.row S k f) k 0))
        (relocate S k (mem a))

    entered_turned :
        (p' : Progress) (a' report' : List ℕ)
        → Entered setting size table h pr fs L k lo hi n a (ws ++ (report_word 5 k ∷ [])) u (add_words (obj S k) (places_of (named_words image r)) (mem a))
        0 (relas_of image r) p' a' report'
        → Turned p' a' report'
    unfolding object_words has_undefined
    entered_turned p' a' report' d =
        rw (← relocate_is (mem a), ← append_assoc ws (report_word 5 k ∷ []) (entry_report setting.row S k image r 0 (relas_of image r))) d

    after_relr :
        (z : ℕ) (b : List ℕ) (q : Noted) → RelrEnded setting size table h pr fs k z a b → NotedGoing (ws ++ (report_word 5 k ∷ [])) u n q
        → KeptAs None q → Ran size n (plain_object setting.row S k f) Turned (then_tables table t r (summed z b) q)
    unfolding plain_object
    after_relr z b (noted p' report') w g' none =
        subst
        (λ (v : Verdict).
        Ran size n (first v (plain_entries setting.row S k image r (relas_of image r))) Turned
        (then_tables table t r (summed z b) (noted p' report')))
        w.verdict_is
        (⊎_elim
        (λ (c : eqb z 0 ≡ true).
        rw (c, verdict_none z k (eqb-true z 0 c))
        (ran_weaker size n (plain_entries setting.row S k image r (relas_of image r))
        (Entered setting size table h pr fs L k lo hi n a (ws ++ (report_word 5 k ∷ [])) u (add_words (obj S k) (places_of (named_words image r)) (mem a))
        0 (relas_of image r))
        Turned entered_turned (run_tables table t r p' b report')
        (tables_ran setting size table h pr fs L k lo hi n a (ws ++ (report_word 5 k ∷ [])) u
        (add_words (obj S k) (places_of (named_words image r)) (mem a)) p' b report'
        record {
          going = g';
          memory = (w.done (eqb-true z 0 c)).0;
          written = (w.done (eqb-true z 0 c)).1;
          kept = none_kept setting size table h pr fs L k lo hi n a p' none;
        })))
        (λ (c : eqb z 0 ≡ false).
        rw (c, first_met z k (plain_entries setting.row S k image r (relas_of image r)) (eqb-false z 0 c))
        (ran_refused size n z k Turned p' b report' (eqb-false z 0 c) w.length_is
        (going_length (ws ++ (report_word 5 k ∷ [])) u n p' report' g')))
        (decide (eqb z 0)))

    pub object_ran :
        5 * 2 ^ 28 + k < 2 ^ 32 → Ran size n (plain_object setting.row S k f) Turned (run_object table t r p a report)
    unfolding run_object
    object_ran small =
        go (run_relrs t r a) refl
      where
        go :
            (x : Summed) → x ≡ run_relrs t r a
            → Ran size n (plain_object setting.row S k f) Turned (then_tables table t r x (note_of (report_sum 5 k) (keeps None p) report))
        go (summed z b) e =
            after_relr z b (note_of (report_sum 5 k) (keeps None p) report) (relr_is setting size table h pr fs L k lo hi a s z b e)
            (word_going ws u n (keeps None p) report (keeps_going ws u n None p report g) 5 k small) (note_kept (report_sum 5 k) (keeps None p) report)

    -- with the record that is read again
    pub turn_ran :
        5 * 2 ^ 28 + k < 2 ^ 32 → PlacedAt setting size table h pr fs a k
        → Ran size n (plain_object setting.row S k f) Turned (run_at table k f.bytes p a report)
    unfolding run_at
    turn_ran small placed =
        let x = again setting size table h pr fs L a k lo hi placed in
        rw (eq-eqb (again_refusal (image_in a t) f.bytes) 0 x.0, x.1) (object_ran small)

    -- ---- up to an entry

    -- of the first `m` entries
    abbrev first_entries : ℕ → Verdict
    first_entries m =
        first (plain_entries setting.row S k image r (relas_from image r.rela 0 (min r.relas m)))
        (plain_entries setting.row S k image r (relas_from image r.plt 0 (m - min r.relas m)))

    pub until_ran :
        (m : ℕ) → m - min r.relas m ≤ r.plts → PlacedAt setting size table h pr fs a k
        → Ran size n
        (first (words_verdict k r (named_words image r))
        (first (plain_entries setting.row S k image r (relas_from image r.rela 0 (min r.relas m)))
        (plain_entries setting.row S k image r (relas_from image r.plt 0 (m - min r.relas m)))))
        (λ _ _ _. Unit {0}) (run_until table k f.bytes m p a report)
    unfolding run_until
    until_ran m ly placed =
        let x = again setting size table h pr fs L a k lo hi placed in
        let few = counts setting size table h pr fs L k lo hi in
        let cut : cut_to32 r.relas ≡ r.relas = omega (arith, few.0) in
        let all : min (cut_to32 r.plts) (m - min r.relas m) ≡ m - min r.relas m = omega (arith, few.1) in
        rw x.1 (go cut all (run_relrs t r a) refl)
      where
        go :
            cut_to32 r.relas ≡ r.relas → min (cut_to32 r.plts) (m - min r.relas m) ≡ m - min r.relas m → (y : Summed) → y ≡ run_relrs t r a
            → Ran size n (first (words_verdict k r (named_words image r)) (first_entries m)) (λ _ _ _. Unit {0}) (until_tables table t r m p report y)
        go cut all (summed z b) e =
            let w = relr_is setting size table h pr fs L k lo hi a s z b e in
            subst (λ (v : Verdict). Ran size n (first v (first_entries m)) (λ _ _ _. Unit {0}) (until_tables table t r m p report (summed z b))) w.verdict_is
            (⊎_elim
            (λ (c : eqb z 0 ≡ true).
            rw (c, verdict_none z k (eqb-true z 0 c))
            (subst
            (λ (i : ℕ).
            Ran size n (first_entries m) (λ _ _ _. Unit {0})
            (unless_refused (run_table table t r r.plt (cut_to32 r.relas) (min (cut_to32 r.plts) (m - min i m)) 0) (run_table table t r r.rela 0 (min i m) 0 (keeps None p) b report)))
            (sym cut)
            (subst
            (λ (j : ℕ).
            Ran size n (first_entries m) (λ _ _ _. Unit {0})
            (unless_refused (run_table table t r r.plt (cut_to32 r.relas) j 0) (run_table table t r r.rela 0 (min r.relas m) 0 (keeps None p) b report)))
            (sym all)
            (tables_until setting size table h pr fs L k lo hi n a (min r.relas m) (m - min r.relas m) (omega arith) ly ws u
            (add_words (obj S k) (places_of (named_words image r)) (mem a)) (keeps None p) b report
            record {
              going = keeps_going ws u n None p report g;
              memory = (w.done (eqb-true z 0 c)).0;
              written = (w.done (eqb-true z 0 c)).1;
              kept = none_kept setting size table h pr fs L k lo hi n a (keeps None p) refl;
            }))))
            (λ (c : eqb z 0 ≡ false).
            rw (c, first_met z k (first_entries m) (eqb-false z 0 c))
            (ran_refused size n z k (λ _ _ _. Unit {0}) p b report (eqb-false z 0 c) w.length_is
            (going_length ws u n p report g)))
            (decide (eqb z 0)))
