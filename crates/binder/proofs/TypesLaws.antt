-- The words of the types in the table of a set, behind its links, its count and its address; what preparing a set leaves does not hang on them.
-- Assumes nothing.
use Rattle.std.proofs.Common.{◌≡◌, ℕ, ◌+◌, ◌-◌, ◌<◌, ◌≤◌, eqb, List, [], ◌∷◌, length, get_or, sym, refl, ap, ◌∙◌, subst, inl, arith, le-ltb, eqb-true}
use native.Mathlib.Decide.{dec_lt}
use Rattle.words.specs.Memory.{Mem, mem, write, patch}
use Rattle.words.proofs.Choice.{both_true}
use Rattle.words.proofs.Memory.{write_in, write_out}
use Rattle.words.proofs.Slices.{mem_patch, length_patch}
use Rattle.object.specs.RelocationTypes.{row_under, row_in, types_ok}
use Rattle.object.specs.Placed.{object_span, object_bytes}
use Rattle.object.specs.Loaded.{object_refusal}
use Rattle.sheet.specs.Sheet.{Input, arena_ok, duplicate_of}
use Rattle.scope.specs.Steps.Links.{count_in, Filtered}
use Rattle.scope.proofs.LinkLaws.{link_same, filter_same}
use Rattle.binder.specs.Setting.{Setting, setting_of, setting_at}
use Rattle.binder.specs.Instance.{File, offset_of}
use Rattle.binder.specs.Verdict.{Verdict, passed, first, verdict}
use Rattle.binder.specs.Bind.{files_of, unless, prepare_verdict, types_verdict}
use Rattle.binder.specs.Steps.Prepared.{load_from, place_files, Linked, Prepared}
use Rattle.binder.specs.Steps.Relocating.{row_at}
use Rattle.binder.proofs.LoadsSame.{loads_same}
use Rattle.binder.proofs.PrepareLaws.{linked_same, files_length, passes}
use Rattle.binder.proofs.OutcomeLaws.{unless_passed}

-- ---- in another setting at the same address

module _ (setting : Setting) where
  abbrev asked : Setting
  asked = setting_at setting.address

  loads_as : (size k free : ℕ) (fs : List File) → load_from asked size k free fs ≡ load_from setting size k free fs
  unfolding load_from
  loads_as size k free [] = refl
  loads_as size k free (f ∷ fs) =
      ap (first (verdict (object_refusal f.host (size - offset_of setting f free) f.bytes) k))
      (loads_as size (k + 1) (offset_of setting f free + object_span f.host f.bytes) fs)

  placed_as : (fs : List File) (free : ℕ) (m : Mem) → place_files asked fs free m ≡ place_files setting fs free m
  unfolding place_files
  placed_as [] free m = refl
  placed_as (f ∷ fs) free m =
      placed_as fs (offset_of setting f free + object_span f.host f.bytes)
      (write m (offset_of setting f free) (object_span f.host f.bytes) (object_bytes f.host f.bytes))

  linked_as : (table : List ℕ) (k free : ℕ) (fs : List File) → Linked asked table k free fs → Linked setting table k free fs
  unfolding Linked
  linked_as table k free [] l = tt
  linked_as table k free (f ∷ fs) l =
      (l.0, linked_as table (k + 1) (offset_of setting f free + object_span f.host f.bytes) fs l.1)

  -- the refusals of preparing
  pub verdict_as : (types : Verdict) (os : List Input) (size : ℕ) → prepare_verdict asked types os size ≡ prepare_verdict setting types os size
  unfolding prepare_verdict
  verdict_as types os size =
      ap
      (λ (v : Verdict).
      first (unless (arena_ok size setting.address) 2 0) (first types (first (unless (eqb (duplicate_of os) 0) 3 (duplicate_of os)) v)))
      (loads_same asked size (files_of os) ∙ (loads_as size 0 0 (files_of os) ∙ sym (loads_same setting size (files_of os))))

  pub prepared_as :
      (types : Verdict) (os : List Input) (before after links : List ℕ) (r : Verdict) → Prepared asked types os before after links r
      → Prepared setting types os before after links r
  prepared_as types os before after links r p =
      record {
        met = p.met ∙ verdict_as types os (length before);
        arena = λ z. p.arena z ∙ placed_as (files_of os) 0 (λ _. 0);
        table = λ z. linked_as links 0 0 (files_of os) (p.table z);
        filtered = p.filtered;
        counted = p.counted;
        addressed = p.addressed;
      }

-- ---- a table with the words of the types put

module _ (t : List ℕ) (words : List ℕ) (long : 1090 ≤ length t) where
  abbrev with_types : List ℕ
  with_types = patch t 1026 64 (mem words)

  put_is : mem with_types ≡ write (mem t) 1026 64 (mem words)
  put_is = mem_patch t 1026 64 (mem words) (omega arith)

  kept_word : (i : ℕ) → i < 1026 → get_or with_types i 0 ≡ get_or t i 0
  unfolding mem
  kept_word i l = ap (λ (m : Mem). m i) put_is ∙ write_out (mem t) 1026 64 (mem words) i (inl l)

  put_word : (i : ℕ) → i < 64 → get_or with_types (1026 + i) 0 ≡ get_or words i 0
  unfolding mem
  put_word i l =
      let e : 1026 + i - 1026 ≡ i = omega arith in
      ap (λ (m : Mem). m (1026 + i)) put_is ∙ (write_in (mem t) 1026 64 (mem words) (1026 + i) (omega arith, omega arith) ∙ ap (mem words) e)

  -- each type does what its word says
  pub row_put : (rtype : ℕ) → row_at with_types rtype ≡ row_in words rtype
  unfolding row_at row_in row_under
  row_put rtype = go (dec_lt rtype 64)
    where
      above : (w v : ℕ) → 64 ≤ rtype → row_under w rtype ≡ row_under v rtype
      above w v l = rw (le-ltb rtype 64 l)

      go : Dec (rtype < 64) → row_at with_types rtype ≡ row_in words rtype
      go (yes l) = ap (λ (w : ℕ). row_under w rtype) (put_word rtype l)
      go (no l) = above (get_or with_types (1026 + rtype) 0) (get_or words rtype 0) (omega arith)

  filtered_put : Filtered t → Filtered with_types
  filtered_put f =
      let n : length with_types ≡ length t = length_patch t 1026 64 (mem words) in
      let c : count_in with_types ≡ count_in t = kept_word 1024 (omega arith) in
      record {
        long = omega arith;
        few = omega (arith, f.few);
        rows = λ k l.
            filter_same t with_types (λ i h. kept_word i (omega arith)) k (omega (arith, f.few)) (f.rows k (omega arith));
      }

  -- what was prepared stays
  pub prepared_put :
      (setting : Setting) (types : Verdict) (os : List Input) (before after : List ℕ) (r : Verdict) → Prepared setting types os before after t r
      → length os ≤ 64 → Prepared setting types os before after with_types r
  prepared_put setting types os before after r p few =
      record {
        met = p.met;
        arena = p.arena;
        table = λ z.
            linked_same setting t with_types 0 0 (files_of os)
            (λ k l. link_same t with_types (λ i h. kept_word i (omega arith)) k (omega (arith, files_length os))) (p.table z);
        filtered = λ z. filtered_put (p.filtered z);
        counted = λ z. kept_word 1024 (omega arith) ∙ p.counted z;
        addressed = λ z. kept_word 1025 (omega arith) ∙ p.addressed z;
      }

-- ---- a call that binds

module _ (address : ℕ) (words : List ℕ) (os : List Input) (before after : List ℕ) (r : Verdict) where
  abbrev setting : Setting
  setting = setting_of address words

  abbrev Made : List ℕ → Type 0
  Made table = Prepared setting (types_verdict setting) os before after table r

  -- prepared, where `v` was met between 2 and 3
  pub made : (v : Verdict) (table : List ℕ) → v ≡ unless (types_ok words) 24 0 → Prepared (setting_at address) v os before after table r → Made table
  made v table e p = prepared_as setting (types_verdict setting) os before after table r (subst (λ (w : Verdict). Prepared (setting_at address) w os before after table r) e p)

  -- there are 64 words
  pub all_words : (table : List ℕ) → Made table → r ≡ passed → length words ≡ 64
  unfolding types_ok
  all_words table p z =
      eqb-true (length words) 64
      (both_true (eqb (length words) 64) _ (unless_passed (types_ok words) 24 0 (passes setting (types_verdict setting) os before after table r p z).typed)).0

  -- the table `t` with the words is `t'`
  pub made_put : (t t' : List ℕ) → t' ≡ patch t 1026 64 (mem words) → 1090 ≤ length t → length os ≤ 64 → Made t → Made t'
  made_put t t' e long few p =
      subst (λ (x : List ℕ). Made x) (sym e) (prepared_put t words long setting (types_verdict setting) os before after r p few)

  pub rows_put : (t t' : List ℕ) → t' ≡ patch t 1026 64 (mem words) → 1090 ≤ length t → (rtype : ℕ) → row_at t' rtype ≡ row_in words rtype
  rows_put t t' e long rtype = ap (λ (x : List ℕ). row_at x rtype) e ∙ row_put t words long rtype
