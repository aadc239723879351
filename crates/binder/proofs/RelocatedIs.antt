-- Relocating the objects of a loaded set, one after another over the arena as it is at each step, comes to what the definitions say of the
-- placed bytes alone: the same refusal; where there is none, the bound arena and the words of the report. Assumes nothing.
use Rattle.std.proofs.Common.{◌≡◌, ℕ, zero, suc, ◌+◌, ◌-◌, ◌^◌, ◌<◌, ◌≤◌, min, Bool, true, false, eqb, ◌⊎◌, List, [], ◌∷◌, ◌++◌, length, get_or, take, replicate, sym, refl, ap, ◌∙◌, subst, inl, inr, ⊎_elim, append_assoc, append-nil, arith, length-append, le-ltb, eq-eqb, eqb-true}
use native.Mathlib.Decide.{dec_lt, dec_le}
use lib.Seq.{take-append-le, take-append-add}
use Rattle.object.specs.Entries.{rela_at, relas_from}
use Rattle.object.specs.Record.{Record}
use Rattle.object.specs.declared.relocate.Rela.{Rela}
use Rattle.words.specs.Choice.{pick}
use Rattle.words.specs.Memory.{Mem, mem}
use Rattle.model.specs.Objects.{Objs, count}
use Rattle.model.specs.Order.{times, OnceEach}
use Rattle.model.specs.Relocation.{placed, relocate, run, bound}
use Rattle.model.proofs.OrderLaws.{decide}
use Rattle.model.proofs.Orders.{times_tail}
use Rattle.sheet.specs.Sheet.{Input, no_input}
use Rattle.binder.specs.Instance.{File, file_image, file_record, named_words, relas_of}
use Rattle.binder.specs.Setting.{Setting}
use Rattle.binder.specs.Verdict.{Verdict, passed, first, no_file, words_verdict}
use Rattle.binder.specs.Steps.PlainVerdict.{plain_entries, plain_object, plain_order}
use Rattle.binder.specs.Report.{object_words, order_words, has_undefined, first_undefined}
use Rattle.binder.specs.Steps.Relocating.{left, started, image_in, turn_of, again_refusal, run_at, run_order, run_until}
use Rattle.binder.specs.declared.report.Progress.{Progress}
use Rattle.binder.proofs.SoundLaws.{count_is}
use Rattle.binder.proofs.QueryLaws.{placed_is}
use Rattle.binder.proofs.ObjectCount.{few_files}
use Rattle.binder.proofs.Steady.{files, set, file_at, LoadedSet, PlacedAt, Steady}
use Rattle.binder.proofs.SteadyLaws.{starts, placed_steady, again}
use Rattle.binder.proofs.ReportFill.{Going, fill_none, earlier, earlier_none, earlier_first, mark_first, going_length}
use Rattle.binder.proofs.Runs.{Ran, ran_passed, ran_weaker, ran_then}
use Rattle.binder.proofs.ObjectIs.{Turned, turn_ran, until_ran}
use Rattle.binder.proofs.ClaimLaws.{relas_length}
use Rattle.binder.proofs.TableIs.{verdicts_append}

-- ---- each object has one turn

-- the numbers of an order are of objects other than the host, and none is there twice
record Turns (n : ℕ) (order : List ℕ) : Type 0 where
  once : (j : ℕ) → times j order ≤ 1
  among : (j : ℕ) → 0 < times j order → (1 ≤ j) × (j < n)

pub times_end : (j : ℕ) (front : List ℕ) → times j (front ++ (1 ∷ [])) ≡ times j front + pick (eqb 1 j) 1 0
times_end j [] = ⊎_elim (λ (t : eqb 1 j ≡ true). rw t) (λ (t : eqb 1 j ≡ false). rw t) (decide (eqb 1 j))
times_end j (x ∷ xs) =
    ⊎_elim (λ (t : eqb x j ≡ true). rw t (omega (arith, times_end j xs))) (λ (t : eqb x j ≡ false). rw t (times_end j xs)) (decide (eqb x j))

head_in : (k : ℕ) (ks : List ℕ) → times k (k ∷ ks) ≡ suc (times k ks)
head_in k ks = rw (eq-eqb k k refl)

turns_tail : (n k : ℕ) (ks : List ℕ) → Turns n (k ∷ ks) → Turns n ks
turns_tail n k ks o =
    record {
      once = λ j. omega (arith, times_tail j k ks, o.once j);
      among = λ j l. o.among j (omega (arith, times_tail j k ks));
    }

turns_of : (n : ℕ) (order : List ℕ) → 2 ≤ n → OnceEach n order → Turns n order
turns_of n order two o =
    record {
      once = λ j. rw (is j) (at_most j (dec_lt 0 (times j o.front)) (decide (eqb 1 j)));
      among = λ j l. in_range j (decide (eqb 1 j)) (rw (is j) at l);
    }
  where
    is : (j : ℕ) → times j order ≡ times j o.front + pick (eqb 1 j) 1 0
    is j = ap (times j) o.split ∙ times_end j o.front

    at_most :
        (j : ℕ) → Dec (0 < times j o.front) → (eqb 1 j ≡ true) ⊎ (eqb 1 j ≡ false) → times j o.front + pick (eqb 1 j) 1 0 ≤ 1
    at_most j (yes l) (inl t) = absurd (omega (arith, eqb-true 1 j t, o.only j l))
    at_most j (yes l) (inr t) = rw t (omega (arith, o.once j (o.only j l).0 (o.only j l).1))
    at_most j (no l) (inl t) = rw t (omega arith)
    at_most j (no l) (inr t) = rw t (omega arith)

    in_range : (j : ℕ) → (eqb 1 j ≡ true) ⊎ (eqb 1 j ≡ false) → 0 < times j o.front + pick (eqb 1 j) 1 0 → (1 ≤ j) × (j < n)
    in_range j (inl t) l = omega (arith, eqb-true 1 j t)
    in_range j (inr t) l = let x = o.only j (omega (arith, rw t at l)) in omega arith

times_at : (ks : List ℕ) (i : ℕ) → i < length ks → 0 < times (get_or ks i 0) ks
times_at [] i l = absurd (omega arith)
times_at (k ∷ ks) zero l = omega (arith, head_in k ks)
times_at (k ∷ ks) (suc i) l = let z = times_at ks i (omega arith) in omega (arith, times_tail (get_or ks i 0) k ks)

-- the numbers of an order
pub in_range : (n : ℕ) (order : List ℕ) → 2 ≤ n → OnceEach n order → (i : ℕ) → i < length order → (1 ≤ get_or order i 0) × (get_or order i 0 < n)
in_range n order two once i l = (turns_of n order two once).among (get_or order i 0) (times_at order i l)

-- RELA and PLT as one list, cut
entries_length : (i : List ℕ) (r : Record) → length (relas_of i r) ≡ r.relas + r.plts
unfolding relas_of
entries_length i r =
    length-append (relas_from i r.rela 0 r.relas) (relas_from i r.plt 0 r.plts)
    ∙ (let x = relas_length i r.rela 0 r.relas in let y = relas_length i r.plt 0 r.plts in omega arith)

take_relas : (i : List ℕ) (at j n m : ℕ) → m ≤ n → take m (relas_from i at j n) ≡ relas_from i at j m
unfolding relas_from
take_relas i at j zero zero l = refl
take_relas i at j zero (suc m) l = absurd (omega arith)
take_relas i at j (suc n) zero l = refl
take_relas i at j (suc n) (suc m) l = ap (λ (es : List Rela). rela_at i at j ∷ es) (take_relas i at (j + 1) n m (omega arith))

take_entries :
    (i : List ℕ) (r : Record) (m : ℕ) → m ≤ r.relas + r.plts
    → take m (relas_of i r) ≡ relas_from i r.rela 0 (min r.relas m) ++ relas_from i r.plt 0 (m - min r.relas m)
unfolding relas_of relas_from
take_entries i r m l = go (dec_le m r.relas)
  where
    xs : List Rela
    xs = relas_from i r.rela 0 r.relas

    ys : List Rela
    ys = relas_from i r.plt 0 r.plts

    go : Dec (m ≤ r.relas) → take m (xs ++ ys) ≡ relas_from i r.rela 0 (min r.relas m) ++ relas_from i r.plt 0 (m - min r.relas m)
    go (yes h) =
        let a : min r.relas m ≡ m = omega arith in
        let b : m - m ≡ 0 = omega arith in
        rw (a, b) (take-append-le m xs ys (omega (arith, relas_length i r.rela 0 r.relas)) ∙ (take_relas i r.rela 0 r.relas m h ∙ sym (append-nil (relas_from i r.rela 0 m))))
    go (no h) =
        let a : min r.relas m ≡ r.relas = omega arith in
        let c : m ≡ length xs + (m - r.relas) = omega (arith, relas_length i r.rela 0 r.relas) in
        rw a
        (ap (λ (n : ℕ). take n (xs ++ ys)) c
        ∙ (take-append-add xs ys (m - r.relas) ∙ ap (λ (l : List Rela). xs ++ l) (take_relas i r.plt 0 r.plts (m - r.relas) (omega arith))))

-- ---- the order

module _ (setting : Setting) (size : ℕ) (table : List ℕ) (h pr : File) (fs : List File) where
  abbrev address : ℕ
  address = setting.address

  abbrev S : Objs
  S = set setting size table h pr fs

  abbrev fl : List File
  fl = files setting size table h pr fs

  -- what is left of an order whose objects were all relocated, or one was refused
  pub record Ended (order : List ℕ) (n : ℕ) (met : Verdict) (p' : Progress) (a' report' : List ℕ) : Type 0 where
    pub verdict_is : met ≡ plain_order setting.row S fl order
    pub bound_is :
        plain_order setting.row S fl order ≡ passed
        → (mem a' ≡ bound S order) × (length a' ≡ size) × Going (order_words setting.row S fl order) (first_undefined setting.row S fl order) n p' report'
    pub lengths : (length a' ≡ size) × (length report' ≡ n)

  module _ (L : LoadedSet setting size table h pr fs) (small : count (set setting size table h pr fs) ≤ 2 ^ 28) (os : List Input)
      (inputs : (k : ℕ) → k < count (set setting size table h pr fs) → (get_or os k no_input).file ≡ (file_at setting size table h pr fs k).bytes)
      (n : ℕ) where
    -- before the turns of the objects `ks`, whose bytes are as they were placed
    record Before (ks ws : List ℕ) (u : ℕ) (m : Mem) (p : Progress) (a report : List ℕ) : Type 0 where
      going : Going ws u n p report
      memory : mem a ≡ m
      steady : Steady setting size table h pr fs a
      rest : (j : ℕ) → 0 < times j ks → PlacedAt setting size table h pr fs a j

    one_turn :
        (k : ℕ) (ks : List ℕ) → Turns (count S) (k ∷ ks) → (ws : List ℕ) (u : ℕ) (m : Mem) (p : Progress) (a report : List ℕ)
        → Before (k ∷ ks) ws u m p a report
        → Ran size n (plain_object setting.row S k (get_or fl k no_file))
        (Before ks (ws ++ object_words setting.row S k (get_or fl k no_file)) (earlier u (pick (has_undefined setting.row S k (get_or fl k no_file)) k 0)) (relocate S k m))
        (run_at table k (get_or os k no_input).file p a report)
    one_turn k ks o ws u m p a report b =
        let at = o.among k (omega (arith, head_in k ks)) in
        rw (inputs k at.1)
        (ran_weaker size n (plain_object setting.row S k (get_or fl k no_file))
        (Turned setting size table h pr fs L k at.0 at.1 n ws u p a report b.going b.steady)
        (Before ks (ws ++ object_words setting.row S k (get_or fl k no_file)) (earlier u (pick (has_undefined setting.row S k (get_or fl k no_file)) k 0)) (relocate S k m))
        (λ p' a' report' d.
        record {
          going = d.going;
          memory = d.memory ∙ ap (relocate S k) b.memory;
          steady = d.written.steady;
          rest = λ j l.
              d.written.others j (o.among j (omega (arith, times_tail j k ks))).1 (λ e. other j l e)
              ∙ b.rest j (omega (arith, times_tail j k ks));
        })
        (run_at table k (file_at setting size table h pr fs k).bytes p a report)
        (turn_ran setting size table h pr fs L k at.0 at.1 n ws u p a report b.going b.steady (omega (arith, at.1))
        (b.rest k (omega (arith, head_in k ks)))))
      where
        other : (j : ℕ) → 0 < times j ks → j ≡ k → ⊥
        other j l e =
            let z : times k ks ≡ times j ks = ap (λ (i : ℕ). times i ks) (sym e) in
            omega (arith, o.once k, head_in k ks)

    -- the objects `ks`, before the others `more`
    order_ran :
        (ks more : List ℕ) → Turns (count S) (ks ++ more) → (ws : List ℕ) (u : ℕ) (m : Mem) (p : Progress) (a report : List ℕ)
        → Before (ks ++ more) ws u m p a report
        → Ran size n (plain_order setting.row S fl ks) (Before more (ws ++ order_words setting.row S fl ks) (earlier u (first_undefined setting.row S fl ks)) (run S ks m))
        (run_order table os ks p a report)
    unfolding plain_order order_words first_undefined run run_order
    order_ran [] more o ws u m p a report b =
        ran_passed size n passed (Before more (ws ++ []) (earlier u 0) m) p a report refl b.steady.size_is
        (going_length ws u n p report b.going)
        record { going = rw (append-nil ws, earlier_none u) b.going; memory = b.memory; steady = b.steady; rest = b.rest }
    order_ran (k ∷ ks) more o ws u m p a report b =
        let x : List ℕ = object_words setting.row S k (get_or fl k no_file) in
        let y : Bool = has_undefined setting.row S k (get_or fl k no_file) in
        let at = o.among k (omega (arith, head_in k (ks ++ more))) in
        ran_then size n (plain_object setting.row S k (get_or fl k no_file)) (plain_order setting.row S fl ks)
        (Before (ks ++ more) (ws ++ x) (earlier u (pick y k 0)) (relocate S k m))
        (Before more (ws ++ (x ++ order_words setting.row S fl ks)) (earlier u (pick y k (first_undefined setting.row S fl ks))) (run S ks (relocate S k m)))
        (run_order table os ks)
        (λ p' a' report' b'.
        rw (← append_assoc ws x (order_words setting.row S fl ks), ← mark_first y u k (first_undefined setting.row S fl ks) at.0)
        (order_ran ks more (turns_tail (count S) k (ks ++ more) o) (ws ++ x) (earlier u (pick y k 0)) (relocate S k m) p' a' report' b'))
        (run_at table k (get_or os k no_input).file p a report)
        (one_turn k (ks ++ more) o ws u m p a report b)

    -- from the placed arena, whose objects `ks` and `more` have their turns
    placed_ran :
        (ks more : List ℕ) → Turns (count S) (ks ++ more) → (a report : List ℕ) → mem a ≡ placed S → length a ≡ size → report ≡ replicate n 0
        → Ran size n (plain_order setting.row S fl ks) (Before more (order_words setting.row S fl ks) (earlier 0 (first_undefined setting.row S fl ks)) (run S ks (placed S)))
        (run_order table os ks started a report)
    placed_ran ks more turns a report at len zeros =
        let placed_at_lem = starts setting size table h pr fs L a (λ _. 0) len (at ∙ placed_is setting h pr fs) in
        let begins : Going [] 0 n started report =
        record {
          words = omega arith;
          full = sym (le-ltb n 0 (omega arith));
          undefined = refl;
          report_is = zeros ∙ fill_none n;
        } in
        order_ran ks more turns [] 0 (placed S) started a report
        record {
          going = begins;
          memory = at;
          steady = placed_steady setting size table h pr fs L a len placed_at_lem;
          rest = λ j l. placed_at_lem j (turns.among j l).1;
        }

  pub relocated_is :
      LoadedSet setting size table h pr fs → (os : List Input)
      → ((k : ℕ) → k < count S → (get_or os k no_input).file ≡ (file_at setting size table h pr fs k).bytes)
      → (order : List ℕ) → OnceEach (count S) order → (n : ℕ) (a report : List ℕ) → mem a ≡ placed S → length a ≡ size → report ≡ replicate n 0
      → (met : Verdict) (p' : Progress) (a' report' : List ℕ) → left met p' a' report' ≡ run_order table os order started a report
      → Ended order n met p' a' report'
  unfolding bound
  relocated_is L os inputs order once n a report at len zeros met p' a' report' e =
      let small : count S ≤ 2 ^ 28 =
      omega (arith, count_is setting size h pr fs, few_files setting size fl 0 0 (omega arith) L.loads, L.small) in
      let turns = subst (Turns (count S)) (sym (append-nil order)) (turns_of (count S) order (omega arith) once) in
      let ran = subst
      (Ran size n (plain_order setting.row S fl order)
      (Before L small os inputs n [] (order_words setting.row S fl order) (earlier 0 (first_undefined setting.row S fl order)) (run S order (placed S))))
      (sym e)
      (placed_ran L small os inputs n order [] turns a report at len zeros) in
      record {
        verdict_is = ran.verdict_is;
        bound_is = λ v.
            let d = ran.done v in (d.memory, d.steady.size_is, rw (earlier_first (first_undefined setting.row S fl order)) at d.going);
        lengths = (ran.arena_length, ran.report_length);
      }

  -- the objects before object `k`, and then `k` up to an entry
  pub record Until (front : List ℕ) (k n : ℕ) (met : Verdict) (p : Progress) (a notes : List ℕ) : Type 0 where
    pub verdict_is : met ≡ plain_order setting.row S fl front
    pub readable : met ≡ passed → again_refusal (image_in a (turn_of table k)) (file_at setting size table h pr fs k).bytes ≡ 0
    pub until :
        met ≡ passed → (m : ℕ) → m ≤ length (relas_of (file_image (get_or fl k no_file)) (file_record (get_or fl k no_file)))
        → (v : Verdict) (q : Progress) (a' notes' : List ℕ) → left v q a' notes' ≡ run_until table k (file_at setting size table h pr fs k).bytes m p a notes
        → v
        ≡ first (words_verdict k (file_record (get_or fl k no_file)) (named_words (file_image (get_or fl k no_file)) (file_record (get_or fl k no_file))))
        (plain_entries setting.row S k (file_image (get_or fl k no_file)) (file_record (get_or fl k no_file)) (take m (relas_of (file_image (get_or fl k no_file)) (file_record (get_or fl k no_file)))))

  pub until_is :
      LoadedSet setting size table h pr fs → (os : List Input)
      → ((k : ℕ) → k < count S → (get_or os k no_input).file ≡ (file_at setting size table h pr fs k).bytes)
      → (order : List ℕ) → OnceEach (count S) order → (front : List ℕ) (k : ℕ) (back : List ℕ) → order ≡ front ++ (k ∷ back)
      → (n : ℕ) (a report : List ℕ) → mem a ≡ placed S → length a ≡ size → report ≡ replicate n 0
      → (met : Verdict) (p : Progress) (a' notes : List ℕ) → left met p a' notes ≡ run_order table os front started a report → Until front k n met p a' notes
  until_is L os inputs order once front k back split n a report at len zeros met p a' notes e =
      let small : count S ≤ 2 ^ 28 =
      omega (arith, count_is setting size h pr fs, few_files setting size fl 0 0 (omega arith) L.loads, L.small) in
      let turns = subst (Turns (count S)) split (turns_of (count S) order (omega arith) once) in
      let ran = subst
      (Ran size n (plain_order setting.row S fl front)
      (Before L small os inputs n (k ∷ back) (order_words setting.row S fl front) (earlier 0 (first_undefined setting.row S fl front)) (run S front (placed S))))
      (sym e)
      (placed_ran L small os inputs n front (k ∷ back) turns a report at len zeros) in
      let here = turns.among k (times_here k front back) in
      record {
        verdict_is = ran.verdict_is;
        readable = λ z. (again setting size table h pr fs L a' k here.0 here.1 ((ran.done (sym ran.verdict_is ∙ z)).rest k (omega (arith, head_in k back)))).0;
        until = λ z m l v q a'' notes'' g.
            let d = ran.done (sym ran.verdict_is ∙ z) in
            let i : List ℕ = file_image (get_or fl k no_file) in
            let r : Record = file_record (get_or fl k no_file) in
            let x = subst
            (Ran size n
            (first (words_verdict k r (named_words i r))
            (first (plain_entries setting.row S k i r (relas_from i r.rela 0 (min r.relas m))) (plain_entries setting.row S k i r (relas_from i r.plt 0 (m - min r.relas m)))))
            (λ _ _ _. Unit {0}))
            (sym g)
            (until_ran setting size table h pr fs L k here.0 here.1 n (order_words setting.row S fl front) (earlier 0 (first_undefined setting.row S fl front)) p a' notes d.going d.steady m
            (omega (arith, entries_length i r)) (d.rest k (omega (arith, head_in k back)))) in
            x.verdict_is
            ∙ ap (first (words_verdict k r (named_words i r)))
            (sym (verdicts_append setting.row S k i r (relas_from i r.rela 0 (min r.relas m)) (relas_from i r.plt 0 (m - min r.relas m)))
            ∙ ap (plain_entries setting.row S k i r) (sym (take_entries i r m (omega (arith, entries_length i r)))));
      }
    where
      times_here : (k : ℕ) (front back : List ℕ) → 0 < times k (front ++ (k ∷ back))
      times_here k [] back = omega (arith, head_in k back)
      times_here k (x ∷ xs) back = let z = times_here k xs back in omega (arith, times_tail k x (xs ++ (k ∷ back)))
