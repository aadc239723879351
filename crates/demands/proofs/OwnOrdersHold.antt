-- The statements on `bind_ordered` hold. Assumes nothing.
use Rattle.std.proofs.Common.{Err}
use mathlib.Core.Path.{◌≡◌, refl, sym, ap, subst, ◌∙◌, fun_ext}
use mathlib.Core.Bool.{Bool, true, false}
use mathlib.Core.Logic.{◌⊎◌, inl, inr}
use mathlib.Core.List.{List, [], ◌∷◌, map}
use Prim.Native.Nat.{ℕ, ◌+◌, ◌-◌, ◌^◌, ◌≤◌, ◌<◌}
use native.Mathlib.Omega.{arith}
use borrow.Author.Tests.{eqb-true, eq-eqb}
use lib.Dec.{eqb, leb}
use lib.ListN.{length, get_or, length-map}
use Rattle.words.specs.Choice.{pick, either, every, some}
use Rattle.words.specs.Names.{same_bytes}
use Rattle.words.specs.Memory.{tab}
use Rattle.words.proofs.Choice.{both_true}
use Rattle.words.proofs.NameLaws.{same_refl}
use Rattle.words.proofs.Slices.{length_tab}
use Rattle.model.specs.Objects.{Objs, count}
use Rattle.model.specs.Order.{times, OnceEach}
use Rattle.model.specs.Relocation.{bound}
use Rattle.model.specs.Layout.{objs_of}
use Rattle.model.proofs.OrderFree.{order_free}
use Rattle.object.specs.RelocationTypes.{Row}
use Rattle.sheet.specs.Sheet.{Input, sheet_ok, set_of}
use Rattle.sheet.proofs.SheetLonger.{Shape, sheet_shape}
use Rattle.binder.specs.declared.Policy.{Policy}
use Rattle.binder.specs.declared.Policy.TheVariants.{Strict, Lenient}
use Rattle.binder.specs.Setting.{Setting, setting_of}
use Rattle.binder.specs.Instance.{File, object_from}
use Rattle.binder.specs.Copies.{object_copies}
use Rattle.binder.specs.Verdict.{Verdict, passed, first, no_file, order_verdict}
use Rattle.binder.specs.Report.{object_words, order_words, first_undefined}
use Rattle.binder.specs.SetOrder.{set_order}
use Rattle.binder.specs.Steps.Prepared.{load_from}
use Rattle.binder.specs.Steps.PlainVerdict.{plain_order}
use Rattle.binder.specs.Bind.{files_of, names_of, objects_of, unless, prepare_verdict, types_verdict, allows, relocate_verdict, refused_bind, outcome_of, bind_in, bind_set, bind_of}
use Rattle.binder.specs.OwnOrder.{is_order, library_copies, may_take, bind_ordered_set, bind_ordered_of}
use Rattle.binder.proofs.FileLaws.{host_file, file_of, files_are}
use Rattle.binder.proofs.SoundLaws.{count_is, set_sound}
use Rattle.binder.proofs.OrderIs.{set_order_lem, names_length}
use Rattle.binder.proofs.OutcomeLaws.{refused_not, first_passed, unless_passed, order_plain, objects_in, order_in, sheet_verdict, bind_one, bound_outcome}
use Rattle.binder.proofs.PrepareLaws.{files_length}
use Rattle.binder.proofs.OwnOrderLaws.{count_has, order_once, once_order}
use Rattle.demands.specs.OrderReport.{numbers_of}
use Rattle.demands.specs.Refusals.{BindNumber}
use Rattle.demands.specs.OwnOrders.{OrderCases, OrderRefused, SameBinding, OrderFree, DocumentOrder, OrderUsed, OrderedAnswers}
use Rattle.demands.proofs.PassedSet.{prepared, sheet_prepared, counts}
use Rattle.demands.proofs.ProgramCopies.{Plain, row_plain, only_program, library_none}
use Rattle.demands.proofs.OrdersAlike.{once_times, once_among, verdicts_same, undefined_same, lengths_same, again, order_words_lem}
use Rattle.demands.proofs.OrderReported.{reported_numbers}
use Rattle.demands.proofs.RefusalNumbers.{Meets, first_then, unless_meets}
use Rattle.demands.proofs.RefusalsHold.{Right, types_right, prepare_right, relocate_right, refused_outcome, bind_lengths, room}

-- ---- cases

pub order_cases : OrderCases
unfolding is_order every some
order_cases =
    record {
      ascending = refl;
      descending = refl;
      alone = refl;
      program_first = refl;
      program_missing = refl;
      library_twice = refl;
      library_missing = refl;
      host = refl;
      program_twice = refl;
      no_object = refl;
      word_after = refl;
      empty = refl;
      empty_alone = refl;
      copy = λ p s a. refl;
      copy_of_nothing = refl;
      high_bit = λ p s a. refl;
      address = λ p s a. refl;
    }

-- ---- one verdict

first_none : (v : Verdict) → first v passed ≡ v
first_none passed = refl
first_none (Err m) = refl

pub ordered_one :
    (setting : Setting) (sheet bytes : List ℕ) (size : ℕ) (policy : Policy) (words : ℕ) (order : List ℕ)
    → bind_ordered_of setting sheet bytes size policy words order
    ≡ bind_in setting
    (first (sheet_verdict setting (types_verdict setting) sheet bytes size) (unless (may_take (files_of (set_of sheet bytes)) (names_of (set_of sheet bytes)) order) 35 0))
    (files_of (set_of sheet bytes)) order size policy words
unfolding bind_ordered_of bind_ordered_set bind_in outcome_of unless
ordered_one setting sheet bytes size policy words order = go (sheet_ok sheet (length bytes))
  where
    os : List Input
    os = set_of sheet bytes

    go :
        (t : Bool) → pick t (bind_ordered_set setting os size policy words order) (refused_bind size words 1 0)
        ≡ bind_in setting (first (first (unless t 1 0) (prepare_verdict setting (types_verdict setting) os size)) (unless (may_take (files_of os) (names_of os) order) 35 0))
        (files_of os) order size policy words
    go true = refl
    go false = refl

-- ---- 35

pub order_refused : OrderRefused
unfolding bind_ordered_of bind_ordered_set bind_in outcome_of unless
order_refused =
    record {
      loading = λ setting sheet bytes size policy words order n k ok e. rw (ok, e);
      not_taken = λ setting sheet bytes size policy words order ok v e. rw (ok, v, e);
      entries = λ setting sheet bytes size policy words order n k ok v e w. rw (ok, v, e, w);
    }

-- ---- document 01's order

own_taken : (files : List File) (names : List (List ℕ)) → may_take files names (set_order files names) ≡ true
unfolding may_take
own_taken files names =
    rw (once_order (length names) (set_order files names) (set_order_lem files names), same_refl (set_order files names))

pub document_order : DocumentOrder
unfolding bind_ordered_of bind_of bind_ordered_set bind_set unless
document_order setting sheet bytes size policy words =
    rw (own_taken (files_of (set_of sheet bytes)) (names_of (set_of sheet bytes)), first_none (prepare_verdict setting (types_verdict setting) (set_of sheet bytes) size))

-- ---- every order

either_last : (a : Bool) → either a true ≡ true
either_last true = refl
either_last false = refl

free_taken :
    (files : List File) (names : List (List ℕ)) (order : List ℕ) → library_copies files ≡ false → is_order (length names) order ≡ true
    → may_take files names order ≡ true
unfolding may_take
free_taken files names order c o = rw (o, c) (either_last (same_bytes order (set_order files names)))

taken_none : (v : Verdict) {t : Bool} → t ≡ true → first v (unless t 35 0) ≡ v
unfolding unless
taken_none v e = rw e (first_none v)

-- two orders of the same objects, of which only the program has copies
module _ (row : ℕ → Row) (S : Objs) (files : List File) (policy : Policy) (words n : ℕ) (xs ys : List ℕ) (o : OnceEach n xs) (o' : OnceEach n ys)
    (pos : (k : ℕ) → 0 < times k xs → 1 ≤ k) (none : (k : ℕ) → 2 ≤ k → k < n → object_copies row S k (get_or files k no_file) ≡ []) where
  allowed : (p : Policy) → allows p (first_undefined row S files xs) ≡ true → allows p (first_undefined row S files ys) ≡ true
  allowed Strict e = eq-eqb _ 0 (undefined_same row S files xs ys (once_times n xs ys o o') pos (eqb-true _ 0 e))
  allowed Lenient e = refl

  -- 14 to 20, 22, 25 and 28
  relocates_same : relocate_verdict row S files xs policy words ≡ passed → relocate_verdict row S files ys policy words ≡ passed
  unfolding relocate_verdict unless
  relocates_same v =
      let a = first_passed (order_verdict row S files [] xs) _ v in
      let b = first_passed (unless (allows policy (first_undefined row S files xs)) 19 (first_undefined row S files xs)) _ a.1 in
      let c = unless_passed (leb (length (order_words row S files xs)) words) 20 0 b.1 in
      let d : leb (length (order_words row S files ys)) words ≡ true = ap (λ (n : ℕ). leb n words) (sym (lengths_same row S files xs ys (once_times n xs ys o o'))) ∙ c in
      rw (verdicts_same row S files n xs ys o o' none a.0, allowed policy (unless_passed (allows policy (first_undefined row S files xs)) 19 _ b.0), d)

-- the bytes
bytes_same :
    (setting : Setting) → ((t : ℕ) → eqb t 5 ≡ false → Plain (setting.row t)) → (size : ℕ) (h p : File) (fs : List File) → load_from setting size 0 0 (h ∷ (p ∷ fs)) ≡ passed
    → library_copies (h ∷ (p ∷ fs)) ≡ false
    → (xs ys : List ℕ) → OnceEach (count (objs_of (object_from setting) h p fs)) xs → OnceEach (count (objs_of (object_from setting) h p fs)) ys
    → plain_order setting.row (objs_of (object_from setting) h p fs) (h ∷ (p ∷ fs)) xs ≡ passed
    → bound (objs_of (object_from setting) h p fs) xs ≡ bound (objs_of (object_from setting) h p fs) ys
bytes_same setting plain size h p fs v none xs ys o o' w =
    fun_ext
    (order_free (objs_of (object_from setting) h p fs) xs ys (set_sound setting size h p fs v xs o w) (only_program setting plain size h p fs v none) o o')

set_bytes :
    (setting : Setting) → ((t : ℕ) → eqb t 5 ≡ false → Plain (setting.row t)) → (size : ℕ) (os : List Input) → Shape os → load_from setting size 0 0 (files_of os) ≡ passed → library_copies (files_of os) ≡ false
    → (xs ys : List ℕ) → OnceEach (length (names_of os) + 2) xs → OnceEach (length (names_of os) + 2) ys
    → plain_order setting.row (objects_in setting os) (files_of os) xs ≡ passed
    → bound (objects_in setting os) xs ≡ bound (objects_in setting os) ys
unfolding objects_of
set_bytes setting plain size os s v none xs ys o o' w =
    let fs : List File = map file_of s.libs in
    let files : files_of os ≡ host_file s.host ∷ (file_of s.program ∷ fs) = ap files_of s.is ∙ files_are s.host s.program s.libs in
    let n : length (names_of os) + 2 ≡ count (objs_of (object_from setting) (host_file s.host) (file_of s.program) fs) =
    omega (
      arith,
      ap (λ (l : List Input). length (names_of l)) s.is,
      names_length s.host s.program s.libs,
      length-map s.libs file_of,
      count_is setting size (host_file s.host) (file_of s.program) fs,
    ) in
    rw files
    (bytes_same setting plain size (host_file s.host) (file_of s.program) fs (rw files at v) (rw files at none) xs ys
    (subst (λ (i : ℕ). OnceEach i xs) n o) (subst (λ (i : ℕ). OnceEach i ys) n o') (rw files at w))

module _ (setting : Setting) (plain : (t : ℕ) → eqb t 5 ≡ false → Plain (setting.row t)) (sheet bytes : List ℕ) (size : ℕ) (policy : Policy) (words : ℕ) (order : List ℕ)
    (none : library_copies (files_of (set_of sheet bytes)) ≡ false) (is : is_order (length (names_of (set_of sheet bytes))) order ≡ true) where
  abbrev os : List Input
  os = set_of sheet bytes

  abbrev S : Objs
  S = objects_in setting os

  abbrev own : List ℕ
  own = order_in os

  once : OnceEach (length (names_of os) + 2) order
  once = order_once (length (names_of os)) order is

  once_own : OnceEach (length (names_of os) + 2) own
  once_own = set_order_lem (files_of os) (names_of os)

  same : (k : ℕ) → times k order ≡ times k own
  same = once_times (length (names_of os) + 2) order own once once_own

  pos : (xs : List ℕ) → OnceEach (length (names_of os) + 2) xs → (k : ℕ) → 0 < times k xs → 1 ≤ k
  pos xs o k h = (once_among (length (names_of os) + 2) xs (omega arith) o k h).0

  -- no library has copies
  no_copies :
      sheet_verdict setting (types_verdict setting) sheet bytes size ≡ passed → (k : ℕ) → 2 ≤ k → k < length (names_of os) + 2
      → object_copies setting.row S k (get_or (files_of os) k no_file) ≡ []
  no_copies v k l h =
      let c = counts sheet bytes (sheet_prepared sheet bytes setting (types_verdict setting) size v).0 in
      library_none setting.row plain S (files_of os) none k l (omega (arith, files_length os, c.all))

  loaded_same :
      sheet_verdict setting (types_verdict setting) sheet bytes size ≡ passed → (w w' : Verdict) → relocate_verdict setting.row S (files_of os) order policy words ≡ w
      → relocate_verdict setting.row S (files_of os) own policy words ≡ w'
      → SameBinding (outcome_of size words w (tab size (bound S order)) (order_words setting.row S (files_of os) order))
      (outcome_of size words w' (tab size (bound S own)) (order_words setting.row S (files_of os) own))
  unfolding outcome_of relocate_verdict
  loaded_same v (Err m) (Err d) e e' = record { bound = refl; arena = refl; words = λ j. refl }
  loaded_same v passed (Err m) e e' =
      refused_not m.number m.object (sym e' ∙ relocates_same setting.row S (files_of os) policy words (length (names_of os) + 2) order own once once_own (pos order once) (no_copies v) e)
  loaded_same v (Err m) passed e e' =
      refused_not m.number m.object (sym e ∙ relocates_same setting.row S (files_of os) policy words (length (names_of os) + 2) own order once_own once (pos own once_own) (no_copies v) e')
  loaded_same v passed passed e e' =
      let p = prepared sheet bytes setting size (sheet_prepared sheet bytes setting (types_verdict setting) size v) in
      let c = counts sheet bytes p.sheet_ok_lem in
      let small : (xs : List ℕ) → OnceEach (length (names_of os) + 2) xs → (j : ℕ) → 0 < times j xs → j < 2 ^ 28 =
      λ xs o j h. let r = once_among (length (names_of os) + 2) xs (omega arith) o j h in omega (arith, c.few) in
      record {
        bound = refl;
        arena = ap (tab size)
            (set_bytes setting plain size os (sheet_shape sheet bytes (length bytes) p.sheet_ok_lem) p.loads none order own once once_own
            (order_plain setting.row S (files_of os) [] order (first_passed (order_verdict setting.row S (files_of os) [] order) _ e).0));
        words = λ k.
            order_words_lem k setting.row S (files_of os) false order (words - length (order_words setting.row S (files_of os) order)) (small order once)
            ∙ (ap (λ (n : ℕ). again n (object_words setting.row S k (get_or (files_of os) k no_file))) (same k)
            ∙ sym (order_words_lem k setting.row S (files_of os) false own (words - length (order_words setting.row S (files_of os) own)) (small own once_own)));
      }

  set_same : (v : Verdict) → sheet_verdict setting (types_verdict setting) sheet bytes size ≡ v → SameBinding (bind_in setting v (files_of os) order size policy words) (bind_in setting v (files_of os) own size policy words)
  unfolding bind_in outcome_of
  set_same (Err m) e = record { bound = refl; arena = refl; words = λ j. refl }
  set_same passed e = loaded_same e _ _ refl refl

pub orders_free : OrderFree
orders_free address types sheet bytes size policy words order none is =
    let setting : Setting = setting_of address types in
    let v : Verdict = sheet_verdict setting (types_verdict setting) sheet bytes size in
    let taken : may_take (files_of (set_of sheet bytes)) (names_of (set_of sheet bytes)) order ≡ true =
    free_taken (files_of (set_of sheet bytes)) (names_of (set_of sheet bytes)) order none is in
    rw (ordered_one setting sheet bytes size policy words order, bind_one setting sheet bytes size policy words, taken_none v taken)
    (set_same setting (row_plain types) sheet bytes size policy words order none is v refl)

-- ---- the report

pub order_used : OrderUsed
unfolding bind_in may_take
order_used setting sheet bytes size policy words order arena report e =
    let os : List Input = set_of sheet bytes in
    let o = bound_outcome size words _ _ _ arena report (sym (ordered_one setting sheet bytes size policy words order) ∙ e) in
    let a = first_passed (first (sheet_verdict setting (types_verdict setting) sheet bytes size) (unless (may_take (files_of os) (names_of os) order) 35 0)) _ o.0 in
    let b = first_passed (sheet_verdict setting (types_verdict setting) sheet bytes size) (unless (may_take (files_of os) (names_of os) order) 35 0) a.0 in
    let t = unless_passed (may_take (files_of os) (names_of os) order) 35 0 b.1 in
    let c = counts sheet bytes (sheet_prepared sheet bytes setting (types_verdict setting) size b.0).0 in
    let once = order_once (length (names_of os)) order (both_true (is_order (length (names_of os)) order) _ t).0 in (
      ap (λ (l : List ℕ). numbers_of 5 l) o.2
          ∙ reported_numbers setting.row (objects_in setting os) (files_of os) order (words - length (order_words setting.row (objects_in setting os) (files_of os) order))
          (λ k h. let r = once_among (length (names_of os) + 2) order (omega arith) once k (count_has k order h) in omega (arith, c.few)),
      subst (λ (n : ℕ). OnceEach n order) c.all once,
    )

-- ---- demand 1

abbrev Ordered : ℕ → ℕ → ℕ → Type 0
Ordered count n k = Right BindNumber count n k ⊎ ((n ≡ 35) × (k ≡ 0))

weaker : (count : ℕ) (v : Verdict) → Meets (Right BindNumber count) v → Meets (Ordered count) v
weaker count passed m = tt
weaker count (Err d) m = inl m

ordered_right :
    (setting : Setting) (sheet bytes : List ℕ) (size : ℕ) (policy : Policy) (words : ℕ) (order : List ℕ)
    → Meets (Ordered (length (set_of sheet bytes)))
    (first (first (sheet_verdict setting (types_verdict setting) sheet bytes size) (unless (may_take (files_of (set_of sheet bytes)) (names_of (set_of sheet bytes)) order) 35 0))
    (relocate_verdict setting.row (objects_in setting (set_of sheet bytes)) (files_of (set_of sheet bytes)) order policy words))
unfolding may_take
ordered_right setting sheet bytes size policy words order =
    let os : List Input = set_of sheet bytes in
    let taken : Bool = may_take (files_of os) (names_of os) order in
    first_then (Ordered (length os)) (first (sheet_verdict setting (types_verdict setting) sheet bytes size) (unless taken 35 0)) _
    (first_then (Ordered (length os)) (sheet_verdict setting (types_verdict setting) sheet bytes size) (unless taken 35 0)
    (weaker (length os) (sheet_verdict setting (types_verdict setting) sheet bytes size)
    (prepare_right setting sheet bytes size BindNumber (λ n l h. omega arith) (omega arith) (types_verdict setting) (types_right setting (length os))))
    (λ v. unless_meets (Ordered (length os)) taken 35 0 (λ f. inr (refl, refl))))
    (λ v.
    let a = first_passed (sheet_verdict setting (types_verdict setting) sheet bytes size) (unless taken 35 0) v in
    let t = unless_passed taken 35 0 a.1 in
    let once = order_once (length (names_of os)) order (both_true (is_order (length (names_of os)) order) _ t).0 in
    weaker (length os) (relocate_verdict setting.row (objects_in setting os) (files_of os) order policy words)
    (relocate_right setting sheet bytes size (sheet_prepared sheet bytes setting (types_verdict setting) size a.0).0 order
    (λ k h. once_among (length (names_of os) + 2) order (omega arith) once k (count_has k order h)) policy words))

pub ordered_answers : OrderedAnswers
unfolding bind_in
ordered_answers =
    record {
      refused = λ setting sheet bytes size policy words order n k arena report e.
          let o = refused_outcome (Ordered (length (set_of sheet bytes))) size words _ _ _ n k arena report
          (ordered_right setting sheet bytes size policy words order) (sym (ordered_one setting sheet bytes size policy words order) ∙ e) in
          record { number = o.0; arena_zeros = o.1; report_zeros = o.2 };
      lengths = λ setting sheet bytes size policy words order x arena report e.
          bind_lengths size words _ _ _ x arena report (length_tab size _)
          (room setting.row (objects_in setting (set_of sheet bytes)) (files_of (set_of sheet bytes)) order policy words
          (first (sheet_verdict setting (types_verdict setting) sheet bytes size) (unless (may_take (files_of (set_of sheet bytes)) (names_of (set_of sheet bytes)) order) 35 0)))
          (sym (ordered_one setting sheet bytes size policy words order) ∙ e);
    }
