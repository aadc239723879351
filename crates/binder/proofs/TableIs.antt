-- The entries of RELA and PLT, one after another over the arena as it is then, do what the definitions say of the placed bytes. Assumes nothing.
use Rattle.std.proofs.Common.{◌≡◌, ℕ, zero, suc, ◌+◌, ◌*◌, ◌%◌, ◌^◌, ◌<◌, ◌≤◌, List, [], ◌∷◌, ◌++◌, map, length, get_or, sym, refl, ap, ◌∙◌, append_assoc, arith}
use Rattle.words.specs.Choice.{pick, some}
use Rattle.words.specs.Memory.{Mem}
use Rattle.model.specs.Objects.{Entry, Objs, count, obj}
use Rattle.model.specs.Relocation.{effect, effects}
use Rattle.object.specs.RelocationTypes.{Row}
use Rattle.object.specs.Entries.{rela_at, relas_from}
use Rattle.object.specs.Record.{Record}
use Rattle.object.specs.declared.relocate.Rela.{Rela}
use Rattle.binder.specs.Instance.{File, file_image, file_record, relas_of, entry_of}
use Rattle.binder.specs.Setting.{Setting}
use Rattle.binder.specs.Verdict.{passed, first, verdict, entry_refusal}
use Rattle.binder.specs.Steps.PlainVerdict.{plain_entries}
use Rattle.binder.specs.Report.{report_word, is_undefined, is_passed, entry_report}
use Rattle.binder.specs.Steps.Relocating.{unless_refused, image_in, cut_to32, turn_of, run_action, run_table, run_tables, row_at}
use Rattle.binder.specs.declared.turn.Turn.{Turn}
use Rattle.binder.specs.declared.report.Progress.{Progress}
use Rattle.binder.proofs.Steady.{set, file_at, LoadedSet, Steady}
use Rattle.binder.proofs.SteadyLaws.{readings, counts}
use Rattle.binder.proofs.ReportFill.{earlier, mark_twice}
use Rattle.binder.proofs.Runs.{Ran, first_assoc, ran_weaker, ran_then}
use Rattle.binder.proofs.EntryIs.{Doing, plain, entry_ran}
use Rattle.binder.proofs.ClaimLaws.{relas_length, rela_at_lem}
use Rattle.binder.proofs.ApartLaws.{some_append}

-- ---- two lists of entries

-- the same lists have the same entries
entry_same :
    (image image' : List ℕ) (at c : ℕ) → relas_from image' at 0 c ≡ relas_from image at 0 c → (j : ℕ) → j < c
    → rela_at image' at j ≡ rela_at image at j
entry_same image image' at c e j l =
    let d : Rela = rela_at image at 0 in
    let z : 0 + j ≡ j = omega arith in
    sym (ap (rela_at image' at) z)
    ∙ (sym (rela_at_lem image' at 0 c j d l) ∙ (ap (λ (es : List Rela). get_or es j d) e ∙ (rela_at_lem image at 0 c j d l ∙ ap (rela_at image at) z)))

-- the words of an entry
abbrev entry_word : (ℕ → Row) → Objs → ℕ → List ℕ → Record → ℕ → Rela → List ℕ
entry_word row S k image r i e =
    pick (is_undefined row S k image r e) (report_word 6 i ∷ []) (pick (is_passed (row e.rtype)) (report_word 7 i ∷ []) [])

module _ (row : ℕ → Row) (S : Objs) (k : ℕ) (image : List ℕ) (r : Record) where
  pub verdicts_append : (xs ys : List Rela) → plain_entries row S k image r (xs ++ ys) ≡ first (plain_entries row S k image r xs) (plain_entries row S k image r ys)
  unfolding plain_entries
  verdicts_append [] ys = refl
  verdicts_append (x ∷ xs) ys =
      ap (first (verdict (entry_refusal row S k image r x) k)) (verdicts_append xs ys)
      ∙ sym (first_assoc (verdict (entry_refusal row S k image r x) k) (plain_entries row S k image r xs) (plain_entries row S k image r ys))

  words_append :
      (i j : ℕ) (xs ys : List Rela) → j ≡ i + length xs → entry_report row S k image r i (xs ++ ys) ≡ entry_report row S k image r i xs ++ entry_report row S k image r j ys
  unfolding entry_report
  words_append i j [] ys e = ap (λ (i : ℕ). entry_report row S k image r i ys) (omega arith)
  words_append i j (x ∷ xs) ys e =
      ap (λ (l : List ℕ). entry_word row S k image r i x ++ l) (words_append (i + 1) j xs ys (omega arith))
      ∙ sym (append_assoc (entry_word row S k image r i x) (entry_report row S k image r (i + 1) xs) (entry_report row S k image r j ys))

  effects_append :
      (g : Rela → Entry) (xs ys : List Rela) (m : Mem) → effects S k (map g (xs ++ ys)) m ≡ effects S k (map g ys) (effects S k (map g xs) m)
  unfolding effects
  effects_append g [] ys m = refl
  effects_append g (x ∷ xs) ys m = effects_append g xs ys (effect S k (g x) m)

-- ---- a table

module _ (setting : Setting) (size : ℕ) (table : List ℕ) (h pr : File) (fs : List File) (L : LoadedSet setting size table h pr fs)
    (k : ℕ) (lo : 1 ≤ k) (hi : k < count (set setting size table h pr fs)) (n : ℕ) (a₀ : List ℕ) where
  abbrev address : ℕ
  address = setting.address

  abbrev row : ℕ → Row
  row = setting.row

  abbrev S : Objs
  S = set setting size table h pr fs

  abbrev t : Turn
  t = turn_of table k

  abbrev f : File
  f = file_at setting size table h pr fs k

  abbrev r : Record
  r = file_record f

  abbrev image : List ℕ
  image = file_image f

  abbrev Does : List ℕ → ℕ → Mem → Progress → List ℕ → List ℕ → Type 0
  Does = Doing setting size table h pr fs L k lo hi n a₀

  -- after entries, the first of which has the number `i`
  abbrev pub Entered : List ℕ → ℕ → Mem → ℕ → List Rela → Progress → List ℕ → List ℕ → Type 0
  Entered ws u m i es =
      Does (ws ++ entry_report row S k image r i es) (earlier u (pick (some (is_undefined row S k image r) es) k 0))
      (effects S k (map (entry_of row image r (obj S k).base) es) m)

  -- more entries after one, and after several
  entered_more :
      (ws : List ℕ) (u : ℕ) (m : Mem) (i : ℕ) (x : Rela) (ys : List Rela) (p : Progress) (a report : List ℕ)
      → Entered (ws ++ entry_word row S k image r i x) (earlier u (pick (is_undefined row S k image r x) k 0))
      (effect S k (entry_of row image r (obj S k).base x) m) (i + 1) ys p a report
      → Entered ws u m i (x ∷ ys) p a report
  unfolding entry_report some effects
  entered_more ws u m i x ys p a report d =
      rw (
        ← append_assoc ws (entry_word row S k image r i x) (entry_report row S k image r (i + 1) ys),
        ← mark_twice (is_undefined row S k image r x) (some (is_undefined row S k image r) ys) u k lo,
      )
      d

  entered_join :
      (ws : List ℕ) (u : ℕ) (m : Mem) (i j : ℕ) (xs ys : List Rela) → j ≡ i + length xs → (p : Progress) (a report : List ℕ)
      → Entered (ws ++ entry_report row S k image r i xs) (earlier u (pick (some (is_undefined row S k image r) xs) k 0))
      (effects S k (map (entry_of row image r (obj S k).base) xs) m) j ys p a report
      → Entered ws u m i (xs ++ ys) p a report
  entered_join ws u m i j xs ys e p a report d =
      rw (
        words_append row S k image r i j xs ys e,
        some_append (is_undefined row S k image r) xs ys,
        effects_append row S k image r (entry_of row image r (obj S k).base) xs ys m,
        ← append_assoc ws (entry_report row S k image r i xs) (entry_report row S k image r j ys),
        ← mark_twice (some (is_undefined row S k image r) xs) (some (is_undefined row S k image r) ys) u k lo,
      )
      d

  module _ (at start c' : ℕ) (l : start + c' ≤ 2 ^ 28)
      (same : (a : List ℕ) → Steady setting size table h pr fs a → (j : ℕ) → j < c' → rela_at (image_in a t) at j ≡ rela_at image at j) where
    number : (i j : ℕ) → i ≡ start + j → j < c' → (start + j) % 2 ^ 32 ≡ i
    number i j e b = omega arith

    -- the entry `j`
    one_entry :
        (i j : ℕ) → i ≡ start + j → j < c' → (ws : List ℕ) (u : ℕ) (m : Mem) (p : Progress) (a report : List ℕ) → Does ws u m p a report
        → Ran size n (verdict (entry_refusal row S k image r (rela_at image at j)) k)
        (Does (ws ++ entry_word row S k image r i (rela_at image at j)) (earlier u (pick (is_undefined row S k image r (rela_at image at j)) k 0))
        (effect S k (entry_of row image r (obj S k).base (rela_at image at j)) m))
        (run_action table t r ((start + j) % 2 ^ 32) (rela_at (image_in a t) at j) (row_at table (rela_at (image_in a t) at j).rtype) p a report)
    one_entry i j e b ws u m p a report d =
        rw (number i j e b, same a d.written.steady j b, L.typed (rela_at image at j).rtype)
        (entry_ran setting size table h pr fs L k lo hi n a₀ ws u m p a report d i (omega arith) (rela_at image at j)
        (row (rela_at image at j).rtype))

    pub table_ran :
        (c i j : ℕ) → i ≡ start + j → j + c ≤ c' → (ws : List ℕ) (u : ℕ) (m : Mem) (p : Progress) (a report : List ℕ) → Does ws u m p a report
        → Ran size n (plain_entries row S k image r (relas_from image at j c)) (Entered ws u m i (relas_from image at j c))
        (run_table table t r at start c j p a report)
    unfolding run_table relas_from plain_entries entry_report some effects
    table_ran zero i j e b ws u m p a report d =
        plain setting size table h pr fs L k lo hi n a₀ ws u m p a report d passed m a refl d.written d.memory
    table_ran (suc c) i j e b ws u m p a report d =
        ran_then size n (verdict (entry_refusal row S k image r (rela_at image at j)) k) (plain_entries row S k image r (relas_from image at (j + 1) c))
        (Does (ws ++ entry_word row S k image r i (rela_at image at j)) (earlier u (pick (is_undefined row S k image r (rela_at image at j)) k 0))
        (effect S k (entry_of row image r (obj S k).base (rela_at image at j)) m))
        (Entered ws u m i (rela_at image at j ∷ relas_from image at (j + 1) c))
        (run_table table t r at start c (j + 1))
        (λ p' a' report' d'.
        ran_weaker size n (plain_entries row S k image r (relas_from image at (j + 1) c))
        (Entered (ws ++ entry_word row S k image r i (rela_at image at j)) (earlier u (pick (is_undefined row S k image r (rela_at image at j)) k 0))
        (effect S k (entry_of row image r (obj S k).base (rela_at image at j)) m) (i + 1) (relas_from image at (j + 1) c))
        (Entered ws u m i (rela_at image at j ∷ relas_from image at (j + 1) c))
        (entered_more ws u m i (rela_at image at j) (relas_from image at (j + 1) c))
        (run_table table t r at start c (j + 1) p' a' report')
        (table_ran c (i + 1) (j + 1) (omega arith) (omega arith) (ws ++ entry_word row S k image r i (rela_at image at j))
        (earlier u (pick (is_undefined row S k image r (rela_at image at j)) k 0))
        (effect S k (entry_of row image r (obj S k).base (rela_at image at j)) m) p' a' report' d'))
        (run_action table t r ((start + j) % 2 ^ 32) (rela_at (image_in a t) at j) (row_at table (rela_at (image_in a t) at j).rtype) p a report)
        (one_entry i j e (omega arith) ws u m p a report d)

  -- ---- RELA, then PLT

  cut_is : (c : ℕ) → 24 * c ≤ 2 ^ 28 → cut_to32 c ≡ c
  cut_is c l = omega arith

  pub tables_ran :
      (ws : List ℕ) (u : ℕ) (m : Mem) (p : Progress) (a report : List ℕ) → Does ws u m p a report
      → Ran size n (plain_entries row S k image r (relas_of image r)) (Entered ws u m 0 (relas_of image r))
      (run_tables table t r p a report)
  unfolding relas_of run_tables
  tables_ran ws u m p a report d =
      let few = counts setting size table h pr fs L k lo hi in
      let o = L.others k lo hi in
      let xs : List Rela = relas_from image r.rela 0 r.relas in
      let ys : List Rela = relas_from image r.plt 0 r.plts in
      rw (cut_is r.relas few.0, cut_is r.plts few.1, verdicts_append row S k image r xs ys)
      (ran_then size n (plain_entries row S k image r xs) (plain_entries row S k image r ys) (Entered ws u m 0 xs) (Entered ws u m 0 (xs ++ ys))
      (run_table table t r r.plt r.relas r.plts 0)
      (λ p' a' report' d'.
      ran_weaker size n (plain_entries row S k image r ys)
      (Entered (ws ++ entry_report row S k image r 0 xs) (earlier u (pick (some (is_undefined row S k image r) xs) k 0))
      (effects S k (map (entry_of row image r (obj S k).base) xs) m) r.relas ys)
      (Entered ws u m 0 (xs ++ ys))
      (entered_join ws u m 0 r.relas xs ys (omega (arith, relas_length image r.rela 0 r.relas)))
      (run_table table t r r.plt r.relas r.plts 0 p' a' report')
      (table_ran r.plt r.relas r.plts (omega (arith, few.0, few.1)) (λ a s. entry_same image (image_in a t) r.plt r.plts ((readings setting size table h pr fs L a s k hi).plts o)) r.plts r.relas 0 (omega arith) (omega arith)
      (ws ++ entry_report row S k image r 0 xs) (earlier u (pick (some (is_undefined row S k image r) xs) k 0))
      (effects S k (map (entry_of row image r (obj S k).base) xs) m) p' a' report' d'))
      (run_table table t r r.rela 0 r.relas 0 p a report)
      (table_ran r.rela 0 r.relas (omega (arith, few.0)) (λ a s. entry_same image (image_in a t) r.rela r.relas ((readings setting size table h pr fs L a s k hi).relas o)) r.relas 0 0 (omega arith) (omega arith) ws u m p a report d))

  -- ---- the first `x` of RELA, then the first `y` of PLT

  pub tables_until :
      (x y : ℕ) → x ≤ r.relas → y ≤ r.plts → (ws : List ℕ) (u : ℕ) (m : Mem) (p : Progress) (a report : List ℕ) → Does ws u m p a report
      → Ran size n (first (plain_entries row S k image r (relas_from image r.rela 0 x)) (plain_entries row S k image r (relas_from image r.plt 0 y))) (λ _ _ _. Unit {0})
      (unless_refused (run_table table t r r.plt (cut_to32 r.relas) y 0) (run_table table t r r.rela 0 x 0 p a report))
  tables_until x y lx ly ws u m p a report d =
      let few = counts setting size table h pr fs L k lo hi in
      let o = L.others k lo hi in
      let xs : List Rela = relas_from image r.rela 0 x in
      let ys : List Rela = relas_from image r.plt 0 y in
      rw (cut_is r.relas few.0)
      (ran_then size n (plain_entries row S k image r xs) (plain_entries row S k image r ys) (Entered ws u m 0 xs) (λ _ _ _. Unit {0})
      (run_table table t r r.plt r.relas y 0)
      (λ p' a' report' d'.
      ran_weaker size n (plain_entries row S k image r ys)
      (Entered (ws ++ entry_report row S k image r 0 xs) (earlier u (pick (some (is_undefined row S k image r) xs) k 0))
      (effects S k (map (entry_of row image r (obj S k).base) xs) m) r.relas ys)
      (λ _ _ _. Unit {0})
      (λ _ _ _ _. Prim.tt {0})
      (run_table table t r r.plt r.relas y 0 p' a' report')
      (table_ran r.plt r.relas r.plts (omega (arith, few.0, few.1)) (λ a s. entry_same image (image_in a t) r.plt r.plts ((readings setting size table h pr fs L a s k hi).plts o)) y r.relas 0 (omega arith) (omega arith)
      (ws ++ entry_report row S k image r 0 xs) (earlier u (pick (some (is_undefined row S k image r) xs) k 0))
      (effects S k (map (entry_of row image r (obj S k).base) xs) m) p' a' report' d'))
      (run_table table t r r.rela 0 x 0 p a report)
      (table_ran r.rela 0 r.relas (omega (arith, few.0)) (λ a s. entry_same image (image_in a t) r.rela r.relas ((readings setting size table h pr fs L a s k hi).relas o)) x 0 0 (omega arith) (omega arith) ws u m p a report d))
