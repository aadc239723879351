-- What a call to `bind` that is not refused has passed, and what it leaves. Assumes nothing.
use Rattle.std.proofs.Common.{◌≡◌, ℕ, ◌-◌, Bool, true, false, eqb, ltb, List, [], ◌∷◌, ◌++◌, length, get_or, replicate, sym, refl, ◌∙◌, arith, eqb-true, Err, Ok, is_err, true≢false, Result, Some, None, ap}
use Rattle.words.specs.Choice.{pick}
use Rattle.words.specs.Memory.{tab}
use Rattle.model.specs.Objects.{Objs}
use Rattle.model.specs.Relocation.{placed, bound}
use Rattle.model.specs.Symbols.{by_name}
use Rattle.model.specs.Scope.{resolve}
use Rattle.binder.specs.declared.Policy.{Policy}
use Rattle.sheet.specs.Sheet.{Input, sheet_ok, set_of, arena_ok, duplicate_of}
use Rattle.binder.specs.Setting.{Setting}
use Rattle.binder.specs.Instance.{File, file_image, file_record, named_words, relas_of}
use Rattle.binder.specs.Copies.{entry_copy, object_copies}
use Rattle.binder.specs.Verdict.{Verdict, passed, refused, first, verdict, no_file, load_verdict, entry_refusal, cross_refusal, words_verdict, entries_verdict, object_verdict, order_verdict}
use Rattle.binder.specs.Steps.PlainVerdict.{plain_entries, plain_object, plain_order}
use Rattle.binder.specs.declared.crossing.Copy.{Copy}
use Rattle.object.specs.RelocationTypes.{Row}
use Rattle.object.specs.Record.{Record}
use Rattle.object.specs.declared.relocate.Rela.{Rela}
use Rattle.binder.specs.Steps.Prepared.{load_from}
use Rattle.binder.specs.Report.{order_words}
use Rattle.binder.specs.SetOrder.{set_order}
use Rattle.binder.specs.Bind.{files_of, names_of, objects_of, unless, prepare_verdict, types_verdict, relocate_verdict, outcome, refused_bind, outcome_of, bind_in, bind_set, bind_of, reply_of, refused_query, replied_of, ask_set, query_of, Reply, replied, found}
use Rattle.binder.specs.QueryAll.{replied_all}
use Rattle.binder.specs.Steps.Finished.{finished_of, replied_by, replied_all_by}
use Rattle.binder.specs.declared.Refused.{Refused}
use Rattle.binder.specs.declared.Found.{Found}
use Rattle.binder.proofs.LoadsSame.{loads_same}

-- ---- verdicts that passed

pub refused_not : {P : Type 0} (n k : ℕ) → refused n k ≡ passed → P
refused_not n k e = let z : ◌≡◌ {A = ℕ} 0 1 = cc in absurd (omega arith)

-- equal refusals, and equal answers of a query, have equal parts
pub refused_same : {A : Type 0} (n k m j : ℕ) → ◌≡◌ {A = Result A Refused} (refused n k) (refused m j) → (n ≡ m) × (k ≡ j)
refused_same {A} n k m j e = (ap (one (λ r. r.number)) e, ap (one (λ r. r.object)) e)
  where
    one : (Refused → ℕ) → Result A Refused → ℕ
    one f (Ok x) = 0
    one f (Err r) = f r

pub found_same : (k i a l j b : ℕ) → found k i a ≡ found l j b → (k ≡ l) × (i ≡ j) × (a ≡ b)
found_same k i a l j b e = (ap (one (λ f. f.object)) e, ap (one (λ f. f.symbol)) e, ap (one (λ f. f.address)) e)
  where
    one : (Found → ℕ) → Reply → ℕ
    one g (Ok (Some f)) = g f
    one g (Ok None) = 0
    one g (Err r) = 0

pub first_passed : (v w : Verdict) → first v w ≡ passed → (v ≡ passed) × (w ≡ passed)
first_passed passed w e = (refl, e)
first_passed (Err m) w e = refused_not m.number m.object e

picked : (t : Bool) (n k : ℕ) → pick t passed (refused n k) ≡ passed → t ≡ true
picked true n k e = refl
picked false n k e = refused_not n k e

pub unless_passed : (t : Bool) (n k : ℕ) → unless t n k ≡ passed → t ≡ true
unfolding unless
unless_passed t n k e = picked t n k e

pub verdict_passed : (n k : ℕ) → verdict n k ≡ passed → n ≡ 0
unfolding verdict
verdict_passed n k e = eqb-true n 0 (picked (eqb n 0) n k e)

-- ---- a refusal leaves zeros

pub finish_bound :
    (m : Verdict) (a r a' r' : List ℕ) → is_err m ≡ true → a' ≡ replicate (length a) 0 → r' ≡ replicate (length r) 0 → outcome m a' r' ≡ finished_of m a r
unfolding finished_of
finish_bound passed a r a' r' e f g = absurd (true≢false (sym e))
finish_bound (Err d) a r a' r' e f g = rw (f, g)

pub keep_bound : (m : Verdict) (a r : List ℕ) → is_err m ≡ false → outcome m a r ≡ finished_of m a r
unfolding finished_of
keep_bound passed a r e = refl
keep_bound (Err d) a r e = absurd (true≢false e)

pub finish_asked : (x : Reply) (a a' : List ℕ) → is_err x ≡ true → a' ≡ replicate (length a) 0 → replied x a' ≡ replied_by x a
unfolding replied_by
finish_asked (Ok f) a a' e g = absurd (true≢false (sym e))
finish_asked (Err d) a a' e g = rw g

pub keep_asked : (x : Reply) (a : List ℕ) → is_err x ≡ false → replied x a ≡ replied_by x a
unfolding replied_by
keep_asked (Ok f) a e = refl
keep_asked (Err d) a e = absurd (true≢false e)

pub finish_all :
    (m : Verdict) (a w a' w' : List ℕ) → is_err m ≡ true → a' ≡ replicate (length a) 0 → w' ≡ replicate (length w) 0
    → replied_all m a' w' ≡ replied_all_by m a w
unfolding replied_all_by
finish_all passed a w a' w' e f g = absurd (true≢false (sym e))
finish_all (Err d) a w a' w' e f g = rw (f, g)

pub keep_all : (m : Verdict) (a w : List ℕ) → is_err m ≡ false → replied_all m a w ≡ replied_all_by m a w
unfolding replied_all_by
keep_all passed a w e = refl
keep_all (Err d) a w e = absurd (true≢false e)

-- ---- what passes with 28 passes without it

pub entries_plain :
    (row : ℕ → Row) (S : Objs) (k : ℕ) (image : List ℕ) (r : Record) (earlier : List Copy) (es : List Rela) → entries_verdict row S k image r earlier es ≡ passed
    → plain_entries row S k image r es ≡ passed
unfolding entries_verdict plain_entries
entries_plain row S k image r earlier [] v = refl
entries_plain row S k image r earlier (e ∷ es) v =
    let a = first_passed (verdict (entry_refusal row S k image r e) k) _ v in
    let b = first_passed (verdict (cross_refusal earlier (entry_copy row S k image r e)) k) _ a.1 in
    let c = entries_plain row S k image r (earlier ++ entry_copy row S k image r e) es b.1 in
    rw a.0 c

object_plain :
    (row : ℕ → Row) (S : Objs) (earlier : List Copy) (k : ℕ) (f : File) → object_verdict row S earlier k f ≡ passed → plain_object row S k f ≡ passed
unfolding object_verdict plain_object
object_plain row S earlier k f v =
    let a = first_passed (words_verdict k (file_record f) (named_words (file_image f) (file_record f))) _ v in
    let b = entries_plain row S k (file_image f) (file_record f) earlier (relas_of (file_image f) (file_record f)) a.1 in
    rw a.0 b

pub order_plain :
    (row : ℕ → Row) (S : Objs) (files : List File) (earlier : List Copy) (order : List ℕ) → order_verdict row S files earlier order ≡ passed
    → plain_order row S files order ≡ passed
unfolding order_verdict plain_order
order_plain row S files earlier [] v = refl
order_plain row S files earlier (k ∷ ks) v =
    let a = first_passed (object_verdict row S earlier k (get_or files k no_file)) _ v in
    let b = object_plain row S earlier k (get_or files k no_file) a.0 in
    let c = order_plain row S files (earlier ++ object_copies row S k (get_or files k no_file)) ks a.1 in
    rw b c

-- ---- the answer `Bound`

pub bound_outcome :
    (size words : ℕ) (v : Verdict) (a r arena report : List ℕ) → outcome_of size words v a r ≡ outcome passed arena report
    → (v ≡ passed) × (arena ≡ a) × (report ≡ r ++ replicate (words - length r) 0)
unfolding outcome_of
bound_outcome size words passed a r arena report e = (refl, cc, cc)
bound_outcome size words (Err m) a r arena report e = let z : ◌≡◌ {A = ℕ} 0 1 = cc in absurd (omega arith)

-- the order of a set
abbrev pub order_in : List Input → List ℕ
order_in os = set_order (files_of os) (names_of os)

-- the objects of a set
abbrev pub objects_in : Setting → List Input → Objs
objects_in setting os = objects_of setting (files_of os)

-- ---- the answers for a sheet, by one verdict

-- 1 to 12, 21 and 24 of a sheet and its bytes
abbrev pub sheet_verdict : Setting → Verdict → List ℕ → List ℕ → ℕ → Verdict
sheet_verdict setting types sheet bytes size = first (unless (sheet_ok sheet (length bytes)) 1 0) (prepare_verdict setting types (set_of sheet bytes) size)

pub bind_one :
    (setting : Setting) (sheet bytes : List ℕ) (size : ℕ) (policy : Policy) (words : ℕ)
    → bind_of setting sheet bytes size policy words
    ≡ bind_in setting (sheet_verdict setting (types_verdict setting) sheet bytes size) (files_of (set_of sheet bytes)) (order_in (set_of sheet bytes)) size policy words
unfolding bind_of bind_set bind_in outcome_of unless
bind_one setting sheet bytes size policy words = go (sheet_ok sheet (length bytes))
  where
    os : List Input
    os = set_of sheet bytes

    go :
        (t : Bool) → pick t (bind_set setting os size policy words) (refused_bind size words 1 0)
        ≡ bind_in setting (first (unless t 1 0) (prepare_verdict setting (types_verdict setting) os size)) (files_of os) (order_in os) size policy words
    go true = refl
    go false = refl

pub query_one :
    (setting : Setting) (sheet bytes : List ℕ) (size requester : ℕ) (name : List ℕ)
    → query_of setting sheet bytes size requester name
    ≡ replied_of size (first (sheet_verdict setting passed sheet bytes size) (unless (ltb requester (length (set_of sheet bytes))) 13 0))
    (reply_of (resolve (objects_in setting (set_of sheet bytes)) requester (by_name name))) (tab size (placed (objects_in setting (set_of sheet bytes))))
unfolding query_of ask_set replied_of unless
query_one setting sheet bytes size requester name = go (sheet_ok sheet (length bytes))
  where
    os : List Input
    os = set_of sheet bytes

    go :
        (t : Bool) → pick t (ask_set setting os size requester name) (refused_query size 1 0)
        ≡ replied_of size (first (first (unless t 1 0) (prepare_verdict setting passed os size)) (unless (ltb requester (length os)) 13 0))
        (reply_of (resolve (objects_in setting os) requester (by_name name))) (tab size (placed (objects_in setting os)))
    go true = refl
    go false = refl

-- ---- a set that is bound

pub record AllPassed (setting : Setting) (sheet bytes : List ℕ) (size words : ℕ) (arena report : List ℕ) : Type 0 where
  pub sheet_ok_lem : sheet_ok sheet (length bytes) ≡ true
  pub arena_ok_lem : arena_ok size setting.address ≡ true
  pub typed_ok : setting.typed ≡ true
  pub no_duplicate : duplicate_of (set_of sheet bytes) ≡ 0
  pub loads : load_from setting size 0 0 (files_of (set_of sheet bytes)) ≡ passed
  pub uncrossed : order_verdict setting.row (objects_in setting (set_of sheet bytes)) (files_of (set_of sheet bytes)) [] (order_in (set_of sheet bytes)) ≡ passed
  pub relocates : plain_order setting.row (objects_in setting (set_of sheet bytes)) (files_of (set_of sheet bytes)) (order_in (set_of sheet bytes)) ≡ passed
  pub arena_is : arena ≡ tab size (bound (objects_in setting (set_of sheet bytes)) (order_in (set_of sheet bytes)))
  pub report_is :
      report
      ≡ order_words setting.row (objects_in setting (set_of sheet bytes)) (files_of (set_of sheet bytes)) (order_in (set_of sheet bytes))
      ++ replicate (words - length (order_words setting.row (objects_in setting (set_of sheet bytes)) (files_of (set_of sheet bytes)) (order_in (set_of sheet bytes)))) 0

pub bound_passed :
    (setting : Setting) (sheet bytes : List ℕ) (size : ℕ) (policy : Policy) (words : ℕ) (arena report : List ℕ)
    → bind_of setting sheet bytes size policy words ≡ outcome passed arena report
    → AllPassed setting sheet bytes size words arena report
unfolding bind_in prepare_verdict relocate_verdict
bound_passed setting sheet bytes size policy words arena report e =
    let os : List Input = set_of sheet bytes in
    let S : Objs = objects_in setting os in
    let o = bound_outcome size words _ _ _ arena report (sym (bind_one setting sheet bytes size policy words) ∙ e) in
    let p = first_passed (sheet_verdict setting (types_verdict setting) sheet bytes size) (relocate_verdict setting.row S (files_of os) (order_in os) policy words) o.0 in
    let a = first_passed (unless (sheet_ok sheet (length bytes)) 1 0) _ p.0 in
    let b = first_passed (unless (arena_ok size setting.address) 2 0) _ a.1 in
    let y = first_passed (types_verdict setting) _ b.1 in
    let c = first_passed (unless (eqb (duplicate_of os) 0) 3 (duplicate_of os)) (load_verdict S size 0 (files_of os)) y.1 in
    let d = first_passed (order_verdict setting.row S (files_of os) [] (order_in os)) _ p.1 in
    record {
      sheet_ok_lem = unless_passed (sheet_ok sheet (length bytes)) 1 0 a.0;
      arena_ok_lem = unless_passed (arena_ok size setting.address) 2 0 b.0;
      typed_ok = unless_passed setting.typed 24 0 y.0;
      no_duplicate = eqb-true (duplicate_of os) 0 (unless_passed (eqb (duplicate_of os) 0) 3 (duplicate_of os) c.0);
      loads = sym (loads_same setting size (files_of os)) ∙ c.1;
      uncrossed = d.0;
      relocates = order_plain setting.row S (files_of os) [] (order_in os) d.0;
      arena_is = o.1;
      report_is = o.2;
    }
