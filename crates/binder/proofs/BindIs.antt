-- What a call to `bind` comes to, step by step, is its definition. Assumes nothing.
use Rattle.std.proofs.Common.{◌≡◌, ℕ, zero, suc, ◌+◌, ◌-◌, ◌<◌, ◌≤◌, true, false, not, ltb, leb, List, [], ◌∷◌, ◌++◌, map, length, get_or, take, replicate, sym, refl, ap, ◌∙◌, subst, ⊎_elim, arith, le-ltb, lt-ltb, leb-false, leb-true, Err}
use lib.ListN.{length-map}
use Rattle.words.specs.Memory.{mem, tab}
use Rattle.words.proofs.Slices.{take_zeros, tab_mem}
use Rattle.model.specs.Objects as objects
use Rattle.model.specs.Relocation.{placed, bound}
use Rattle.model.specs.Layout.{objs_of}
use Rattle.model.proofs.OrderLaws.{decide}
use Rattle.sheet.specs.Sheet.{handed_in, Input, no_input}
use Rattle.std.specs.Prelude.{Result, Ok, Err, Option, None, Some, MatchOption}
use Rattle.words.specs.declared.refusal.Refusal.{Refusal}
use Rattle.sheet.proofs.ObjectLaws.{handed_bad, handed_good}
use Rattle.binder.specs.Setting.{Setting}
use Rattle.binder.specs.Instance.{File, object_from}
use Rattle.binder.specs.Verdict.{Verdict, passed, refused, first, no_file, order_verdict}
use Rattle.binder.specs.Steps.PlainVerdict.{plain_order}
use Rattle.binder.specs.Report.{order_words, first_undefined}
use Rattle.binder.specs.SetOrder.{set_order}
use Rattle.binder.specs.Bind.{files_of, names_of, objects_of, unless, allows, prepare_verdict, types_verdict, relocate_verdict, refused_bind, outcome_of, bind_in, bind_set, bind_of}
use Rattle.binder.specs.Steps.Prepared.{Prepared}
use Rattle.binder.specs.Steps.Finished.{ends_by, finished_of, Relocated, Crossed, RelocatedOr, BoundSet}
use Rattle.binder.specs.Steps.Relocating.{row_at}
use Rattle.binder.specs.Steps.Crossing.{CrossingIn}
use Rattle.binder.specs.Steps.Needed.{Arranged}
use Rattle.model.specs.Order.{OnceEach}
use Rattle.binder.proofs.OrderIs.{order_is, names_length}
use Rattle.binder.specs.declared.Policy.{Policy}
use Rattle.binder.specs.declared.crossing.Crossing.{Crossing}
use Rattle.binder.specs.declared.report.Progress.{Progress}
use Rattle.binder.proofs.OutcomeLaws.{refused_not, first_passed, unless_passed}
use Rattle.binder.proofs.SoundLaws.{count_is}
use Rattle.binder.proofs.QueryLaws.{placed_is}
use Rattle.binder.proofs.PrepareLaws.{Ready, passes}
use Rattle.binder.proofs.Steady.{file_at, LoadedSet}
use Rattle.binder.proofs.RelocatedIs as relocated
use Rattle.binder.proofs.CrossingIs.{can_read, can_read_then, none_crosses, one_crosses}
use Rattle.binder.proofs.ReportFill as fills
use Rattle.binder.proofs.ReportFill.{fill_of, Going}
use Rattle.binder.proofs.FileLaws.{host_file, file_of}
use Rattle.binder.proofs.SteadyLaws.{lies, starts}
use Rattle.binder.proofs.NeedsIs.{order_loaded}

-- ---- settling

-- the refusal that was met leaves zeros; none leaves the arena and the report
pub finished :
    (size words : ℕ) (m : Verdict) (arena report arena' report' : List ℕ) → length arena' ≡ size → length report' ≡ words
    → (m ≡ passed → (arena' ≡ arena) × (report' ≡ report ++ replicate (words - length report) 0))
    → finished_of m arena' report' ≡ outcome_of size words m arena report
unfolding finished_of outcome_of
finished size words passed arena report arena' report' la lr same = let s = same refl in rw (s.0, s.1)
finished size words (Err m) arena report arena' report' la lr same = cc

-- the same where the refusal is known
pub finished_by :
    (size words : ℕ) (m v : Verdict) (arena report arena' report' : List ℕ) → m ≡ v → length arena' ≡ size → length report' ≡ words
    → (v ≡ passed → (arena' ≡ arena) × (report' ≡ report ++ replicate (words - length report) 0))
    → finished_of m arena' report' ≡ outcome_of size words v arena report
finished_by size words m v arena report arena' report' e la lr same =
    subst
    (λ (w : Verdict). finished_of m arena' report' ≡ outcome_of size words w arena report)
    e
    (finished size words m arena report arena' report' la lr (λ z. same (sym e ∙ z)))

-- ---- 14 to 20

not_full : (n w : ℕ) → not (ltb w n) ≡ leb n w
not_full n w =
    ⊎_elim
    (λ (t : leb n w ≡ true). rw (t, le-ltb w n (leb-true n w t)))
    (λ (t : leb n w ≡ false). rw (t, lt-ltb w n (leb-false n w t)))
    (decide (leb n w))

-- the words that fit are all there are
fits_in : (n k : ℕ) (ws : List ℕ) → length ws ≤ n → n ≤ length ws + k → take n (ws ++ replicate k 0) ≡ ws ++ replicate (n - length ws) 0
fits_in n k [] l g =
    let z : n ≡ n - 0 = omega arith in
    take_zeros n k (omega arith) ∙ ap (λ (i : ℕ). replicate i 0) z
fits_in zero k (w ∷ ws) l g = absurd (omega arith)
fits_in (suc n) k (w ∷ ws) l g =
    let z : n - length ws ≡ suc n - suc (length ws) = omega arith in
    ap (λ (xs : List ℕ). w ∷ xs) (fits_in n k ws (omega arith) (omega arith) ∙ ap (λ (i : ℕ). ws ++ replicate i 0) z)

filled : (n : ℕ) (ws : List ℕ) → length ws ≤ n → fill_of n ws ≡ ws ++ replicate (n - length ws) 0
unfolding fills.fill_of
filled n ws l = fits_in n n ws l (omega arith)

module _ (setting : Setting) (size : ℕ) (table : List ℕ) (hf pf : File) (fs : List File) (policy : Policy) (order : List ℕ) (words : ℕ) where
  abbrev S : objects.Objs
  S = objs_of (object_from setting) hf pf fs

  abbrev files : List File
  files = hf ∷ (pf ∷ fs)

  module _ (met : Verdict) (p : Progress) (a report : List ℕ) (ended : relocated.Ended setting size table hf pf fs order words met p a report)
      (same : order_verdict setting.row S files [] order ≡ plain_order setting.row S files order) where
    ends : first met (ends_by policy p) ≡ relocate_verdict setting.row S files order policy words
    unfolding ends_by relocate_verdict
    ends = go (plain_order setting.row S files order) refl
      where
        go : (v : Verdict) → plain_order setting.row S files order ≡ v → first met (ends_by policy p) ≡ relocate_verdict setting.row S files order policy words
        go passed q =
            let g = (ended.bound_is q).2 in
            rw (same, ended.verdict_is, q, g.undefined, g.full, not_full (length (order_words setting.row S files order)) words)
        go (Err m) q = rw (same, ended.verdict_is, q)

    room : relocate_verdict setting.row S files order policy words ≡ passed → (plain_order setting.row S files order ≡ passed) × (length (order_words setting.row S files order) ≤ words)
    unfolding relocate_verdict
    room e =
        let a = first_passed (order_verdict setting.row S files [] order) _ e in
        let b = first_passed (unless (allows policy (first_undefined setting.row S files order)) 19 (first_undefined setting.row S files order)) _ a.1 in
        (sym same ∙ a.0, leb-true _ _ (unless_passed (leb (length (order_words setting.row S files order)) words) 20 0 b.1))

    pub relocated_set :
        (m : Verdict) → m ≡ first met (ends_by policy p) → finished_of m a report
        ≡ outcome_of size words (relocate_verdict setting.row S files order policy words) (tab size (bound S order)) (order_words setting.row S files order)
    relocated_set m e =
        finished_by size words m _ _ _ a report (e ∙ ends) ended.lengths.0 ended.lengths.1
        (λ z.
        let q = room z in
        let g = ended.bound_is q.0 in
        (sym (tab_mem a) ∙ (ap (λ (n : ℕ). tab n (mem a)) g.1 ∙ ap (tab size) g.0), g.2.report_is ∙ filled words _ q.1))

  -- 28, or what is met before it
  pub crossed_set :
      (m : Verdict) (a report : List ℕ) → (m ≡ order_verdict setting.row S files [] order) × (m ≡ passed → ⊥) → length a ≡ size → length report ≡ words
      → finished_of m a report ≡ outcome_of size words (relocate_verdict setting.row S files order policy words) (tab size (bound S order)) (order_words setting.row S files order)
  unfolding relocate_verdict
  crossed_set m a report e la lr =
      let rest : Verdict = first (unless (allows policy (first_undefined setting.row S files order)) 19 (first_undefined setting.row S files order)) (unless (leb (length (order_words setting.row S files order)) words) 20 0) in
      let met : m ≡ first (order_verdict setting.row S files [] order) rest =
      sym (kept m e.1 rest) ∙ ap (λ (v : Verdict). first v rest) e.0 in
      finished_by size words m _ _ _ a report met la lr (λ z. absurd (e.1 (met ∙ z)))
    where
      kept : (m : Verdict) → (m ≡ passed → ⊥) → (v : Verdict) → first m v ≡ m
      kept passed h v = absurd (h refl)
      kept (Err m) h v = refl

zeros_long : (n : ℕ) → length {A = ℕ} (replicate n 0) ≡ n
zeros_long zero = refl
zeros_long (suc n) = ap suc (zeros_long n)

-- ---- 2 to 20

hosts : (ls : List Input) (j : ℕ) → j < length ls → (get_or (map (λ (o : Input). record { host = false; bytes = o.file }) ls) j no_file).host ≡ false
hosts [] j l = absurd (omega arith)
hosts (o ∷ ls) zero l = refl
hosts (o ∷ ls) (suc j) l = hosts ls j (omega arith)

bytes_of :
    (ls : List Input) (j : ℕ) → j < length ls
    → (get_or ls j no_input).file ≡ (get_or (map (λ (o : Input). record { host = false; bytes = o.file }) ls) j no_file).bytes
bytes_of [] j l = absurd (omega arith)
bytes_of (o ∷ ls) zero l = refl
bytes_of (o ∷ ls) (suc j) l = bytes_of ls j (omega arith)

-- refusals 2 to 12
pub prepare_refused :
    (setting : Setting) (os : List Input) (size : ℕ) (policy : Policy) (words : ℕ) (m : Verdict) (a report : List ℕ) → m ≡ prepare_verdict setting (types_verdict setting) os size
    → (n k : ℕ) → m ≡ refused n k → length a ≡ size → length report ≡ words → BoundSet setting os size policy words a report m
unfolding bind_set bind_in
prepare_refused setting os size policy words m a report e n k z la lr =
    rw (sym e ∙ z) (finished_by size words m (refused n k) _ _ a report z la lr (λ q. refused_not n k q))

-- a set that was loaded
module _
    (setting : Setting) (size : ℕ) (table : List ℕ) (h p : Input) (ls : List Input) (arena a : List ℕ) (r : Verdict) (len : length arena ≡ size)
    (kept : length a ≡ length arena) (made : Prepared setting (types_verdict setting) (h ∷ (p ∷ ls)) arena a table r) (z : r ≡ passed)
    (typed : (rtype : ℕ) → row_at table rtype ≡ setting.row rtype)
  where
    passed_it : Ready setting (types_verdict setting) (h ∷ (p ∷ ls)) size
    passed_it = subst (λ (n : ℕ). Ready setting (types_verdict setting) (h ∷ (p ∷ ls)) n) len (passes setting (types_verdict setting) (h ∷ (p ∷ ls)) arena a table r made z)

    abbrev fs : List File
    fs = map file_of ls

    abbrev made_set : objects.Objs
    made_set = objs_of (object_from setting) (host_file h) (file_of p) fs

    many : objects.count made_set ≡ length ls + 2
    many =
        let n : length fs ≡ length ls = length-map ls file_of in
        omega (arith, count_is setting size (host_file h) (file_of p) fs)

    not_host : (k : ℕ) → 1 ≤ k → k < length ls + 2 → (get_or (host_file h ∷ (file_of p ∷ fs)) k no_file).host ≡ false
    not_host zero l g = absurd (omega arith)
    not_host (suc zero) l g = refl
    not_host (suc (suc j)) l g = hosts ls j (omega arith)

    pub files_are :
        (k : ℕ) → k < length ls + 2 → (get_or (h ∷ (p ∷ ls)) k no_input).file ≡ (get_or (host_file h ∷ (file_of p ∷ fs)) k no_file).bytes
    files_are zero g = refl
    files_are (suc zero) g = refl
    files_are (suc (suc j)) g = bytes_of ls j (omega arith)

    pub loaded : LoadedSet setting size table (host_file h) (file_of p) fs
    unfolding files_of
    loaded =
        record {
          others = λ k l g. not_host k l (omega (arith, many));
          loads = passed_it.loads;
          links = made.table z;
          counted = made.counted z ∙ sym (many ∙ omega arith);
          addressed = made.addressed z;
          typed = typed;
          end = passed_it.end;
          small = passed_it.small;
        }

    pub placed_arena : mem a ≡ placed made_set
    unfolding files_of
    placed_arena = made.arena z ∙ sym (placed_is setting (host_file h) (file_of p) fs)

    -- the order that the code made is the order of the set
    pub ordered :
        (order : List ℕ) → Arranged (h ∷ (p ∷ ls)) a table order
        → order ≡ set_order (files_of (h ∷ (p ∷ ls))) (names_of (h ∷ (p ∷ ls)))
    unfolding files_of
    ordered order o =
        order_loaded setting size table a h p ls loaded
        (λ k l. lies setting size table (host_file h) (file_of p) fs loaded k l)
        (λ k l. starts setting size table (host_file h) (file_of p) fs loaded a (λ _. 0) (kept ∙ len) (made.arena z) k l)
        order o

    -- 14 to 20: the objects were relocated in an order that has each once
    pub bound_in :
        (policy : Policy) (words : ℕ) (order : List ℕ) → OnceEach (objects.count made_set) order → (report : List ℕ) → report ≡ replicate words 0
        → (a' report' : List ℕ) (m : Verdict) → RelocatedOr (h ∷ (p ∷ ls)) table order a policy report a' report' m
        → finished_of m a' report' ≡ bind_in setting (prepare_verdict setting (types_verdict setting) (h ∷ (p ∷ ls)) size) (files_of (h ∷ (p ∷ ls))) order size policy words
    unfolding files_of bind_in objects_of
    bound_in policy words order once report zeros a' report' m whole =
        let r = whole (can_read setting size table (host_file h) (file_of p) fs loaded a placed_long placed_arena (h ∷ (p ∷ ls)) inputs order once)
        (can_read_then setting size table (host_file h) (file_of p) fs loaded a placed_long placed_arena (h ∷ (p ∷ ls)) inputs order once words report zeros) in
        by (r.0 ∙ placed_long) (r.1 ∙ long) r.2 r.3 r.4
      where
        long : length report ≡ words
        long = ap length zeros ∙ zeros_long words

        placed_long : length a ≡ size
        placed_long = kept ∙ len

        inputs : (k : ℕ) → k < objects.count made_set → (get_or (h ∷ (p ∷ ls)) k no_input).file ≡ (file_at setting size table (host_file h) (file_of p) fs k).bytes
        inputs k l = files_are k (omega (arith, many))

        by :
            length a' ≡ size → length report' ≡ words → (c : Option Crossing) → CrossingIn table (h ∷ (p ∷ ls)) a order c
            → MatchOption c (Relocated (h ∷ (p ∷ ls)) table order a policy report a' report' m) (λ x. Crossed (h ∷ (p ∷ ls)) table order x.index x.entry a report m)
            → finished_of m a' report' ≡ bind_in setting (prepare_verdict setting (types_verdict setting) (h ∷ (p ∷ ls)) size) (files_of (h ∷ (p ∷ ls))) order size policy words
        by la lr (Some c) x w =
            crossed_set setting size table (host_file h) (file_of p) fs policy order words m a' report'
            (one_crosses setting size table (host_file h) (file_of p) fs loaded a placed_long placed_arena (h ∷ (p ∷ ls)) inputs order once words report zeros c x m w)
            la lr
            ∙ rw passed_it.verdict_is
        by la lr None x g =
            let ended = relocated.relocated_is setting size table (host_file h) (file_of p) fs loaded (h ∷ (p ∷ ls)) inputs
            order once words a report placed_arena placed_long zeros g.reached g.progress a' report' g.leaves in
            relocated_set setting size table (host_file h) (file_of p) fs policy order words g.reached g.progress a' report' ended
            (none_crosses setting size table (host_file h) (file_of p) fs loaded a placed_long placed_arena (h ∷ (p ∷ ls)) inputs order once x) m g.met
            ∙ rw passed_it.verdict_is

    -- the order of the set does
    pub in_order : (order : List ℕ) → order ≡ set_order (files_of (h ∷ (p ∷ ls))) (names_of (h ∷ (p ∷ ls))) → OnceEach (objects.count made_set) order
    unfolding files_of
    in_order order o =
        subst (λ (l : List ℕ). OnceEach (objects.count made_set) l) (sym o)
        (order_is setting (host_file h) (file_of p) fs (names_of (h ∷ (p ∷ ls))) (names_length h p ls ∙ sym (length-map ls file_of)))

-- whatever objects the set has
pub bind_is :
    (setting : Setting) (os : List Input) (arena a table : List ℕ) (r : Verdict) → 2 ≤ length os → length a ≡ length arena
    → Prepared setting (types_verdict setting) os arena a table r → r ≡ passed → ((rtype : ℕ) → row_at table rtype ≡ setting.row rtype) → (order : List ℕ) → Arranged os a table order
    → (policy : Policy) (report : List ℕ) → report ≡ replicate (length report) 0
    → (a' report' : List ℕ) (m : Verdict) → RelocatedOr os table order a policy report a' report' m
    → BoundSet setting os (length arena) policy (length report) a' report' m
unfolding bind_set
bind_is setting [] arena a table r two kept made z typed order o policy report zeros a' report' m g =
    absurd (omega arith)
bind_is setting (h ∷ []) arena a table r two kept made z typed order o policy report zeros a' report' m g =
    absurd (omega arith)
bind_is setting (h ∷ (p ∷ ls)) arena a table r two kept made z typed order o policy report zeros a' report' m g =
    let same = ordered setting (length arena) table h p ls arena a r refl kept made z typed order o in
    bound_in setting (length arena) table h p ls arena a r refl kept made z typed policy (length report) order
    (in_order setting (length arena) table h p ls arena a r refl kept made z typed order same) report zeros a' report' m
    g
    ∙ ap
    (λ (l : List ℕ). bind_in setting (prepare_verdict setting (types_verdict setting) (h ∷ (p ∷ ls)) (length arena)) (files_of (h ∷ (p ∷ ls))) l (length arena) policy (length report))
    same

-- ---- the objects of a sheet

module _ (setting : Setting) (sheet bytes : List ℕ) (size : ℕ) {r : Result (List Input) Refusal} (t : r ≡ handed_in sheet bytes) (policy : Policy) (words : ℕ) where
  pub bind_refused : {e : Refusal} → r ≡ Err e → refused_bind size words 1 0 ≡ bind_of setting sheet bytes size policy words
  unfolding bind_of
  bind_refused is = rw (handed_bad sheet bytes t is)

  pub bind_handed : {os : List Input} → r ≡ Ok os → bind_set setting os size policy words ≡ bind_of setting sheet bytes size policy words
  unfolding bind_of
  bind_handed is = let good = handed_good sheet bytes t is in rw (good.0, good.1)
