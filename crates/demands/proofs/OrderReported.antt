-- The words of kind 5 of a report are the order of the set, with its laws. Assumes nothing.
use mathlib.Core.Path.{◌≡◌, refl, ap, subst, ◌∙◌}
use mathlib.Core.Bool.{Bool, true, false}
use mathlib.Core.List.{List, [], ◌∷◌, ◌++◌}
use Prim.Native.Nat.{ℕ, zero, suc, ◌+◌, ◌*◌, ◌-◌, ◌/◌, ◌%◌, ◌^◌, ◌≤◌, ◌<◌}
use native.Mathlib.Omega.{arith}
use borrow.Author.Tests.{eq-eqb, ne_eqb}
use lib.Dec.{eqb}
use lib.ListN.{length, get_or, replicate}
use Rattle.words.specs.Choice.{pick}
use Rattle.model.specs.Objects.{Objs}
use Rattle.model.specs.Order.{has, Before, Reach, OnceEach}
use Rattle.model.proofs.OrderLaws.{has_head, has_cons, needed_first}
use Rattle.object.specs.RelocationTypes.{Row}
use Rattle.object.specs.Record.{Record}
use Rattle.object.specs.declared.relocate.Rela.{Rela}
use Rattle.sheet.specs.Sheet.{Input, set_of}
use Rattle.binder.specs.Instance.{File, file_image, file_record, relas_of}
use Rattle.binder.specs.Verdict.{no_file}
use Rattle.binder.specs.Report.{report_word, is_undefined, is_passed, entry_report, object_words, order_words}
use Rattle.binder.specs.SetOrder.{set_order}
use Rattle.binder.specs.Bind.{files_of, names_of}
use Rattle.demands.specs.OrderReport.{numbers_of, needs_in, OrderReport}
use Rattle.demands.proofs.PassedSet.{counts, order_objects}
use Rattle.binder.proofs.OutcomeLaws.{objects_in, order_in, bound_passed}
use Rattle.binder.proofs.OrderIs.{set_order_lem}

-- ---- words of kind 5, and others

numbers_append : (kind : ℕ) (xs ys : List ℕ) → numbers_of kind (xs ++ ys) ≡ numbers_of kind xs ++ numbers_of kind ys
unfolding numbers_of
numbers_append kind [] ys = refl
numbers_append kind (x ∷ xs) ys = go (eqb (x / 2 ^ 28) kind) (numbers_of kind (xs ++ ys)) (numbers_of kind xs) (numbers_append kind xs ys)
  where
    go :
        (t : Bool) (l r : List ℕ) → l ≡ r ++ numbers_of kind ys
        → pick t (x % 2 ^ 28 ∷ l) l ≡ pick t (x % 2 ^ 28 ∷ r) r ++ numbers_of kind ys
    go true l r e = ap (λ (l : List ℕ). x % 2 ^ 28 ∷ l) e
    go false l r e = e

-- a word of kind 5
number_five : (k : ℕ) (ws : List ℕ) → k < 2 ^ 28 → numbers_of 5 (report_word 5 k ∷ ws) ≡ k ∷ numbers_of 5 ws
unfolding numbers_of
number_five k ws h =
    let d : (5 * 2 ^ 28 + k) / 2 ^ 28 ≡ 5 = omega arith in
    let m : (5 * 2 ^ 28 + k) % 2 ^ 28 ≡ k = omega arith in
    rw (eq-eqb _ _ d) (ap (λ (n : ℕ). n ∷ numbers_of 5 ws) m)

-- another word
number_other : (w : ℕ) (ws : List ℕ) → (w / 2 ^ 28 ≡ 5 → ⊥) → numbers_of 5 (w ∷ ws) ≡ numbers_of 5 ws
unfolding numbers_of
number_other w ws h = rw (ne_eqb _ _ h)

no_zeros : (n : ℕ) → numbers_of 5 (replicate n 0) ≡ []
unfolding numbers_of
no_zeros zero = refl
no_zeros (suc n) = no_zeros n

-- those of entries are of kinds 6 and 7
entry_none : (i : ℕ) (s t : Bool) (ws : List ℕ) → numbers_of 5 (pick s (report_word 6 i ∷ []) (pick t (report_word 7 i ∷ []) []) ++ ws) ≡ numbers_of 5 ws
entry_none i true t ws = number_other (report_word 6 i) ws (λ e. omega arith)
entry_none i false true ws = number_other (report_word 7 i) ws (λ e. omega arith)
entry_none i false false ws = refl

entries_none : (row : ℕ → Row) (S : Objs) (k : ℕ) (image : List ℕ) (r : Record) (i : ℕ) (es : List Rela) → numbers_of 5 (entry_report row S k image r i es) ≡ []
unfolding entry_report numbers_of
entries_none row S k image r i [] = refl
entries_none row S k image r i (e ∷ es) =
    entry_none i (is_undefined row S k image r e) (is_passed (row e.rtype)) (entry_report row S k image r (i + 1) es)
    ∙ entries_none row S k image r (i + 1) es

-- the words of an order whose numbers fit 28 bits
order_numbers :
    (row : ℕ → Row) (S : Objs) (files : List File) (order : List ℕ) → ((k : ℕ) → has k order ≡ true → k < 2 ^ 28)
    → numbers_of 5 (order_words row S files order) ≡ order
unfolding order_words object_words
order_numbers row S files [] small = no_zeros 0
order_numbers row S files (k ∷ ks) small =
    let f : File = get_or files k no_file in
    let es : List ℕ = entry_report row S k (file_image f) (file_record f) 0 (relas_of (file_image f) (file_record f)) in
    number_five k (es ++ order_words row S files ks) (small k (has_head k ks))
    ∙ ap (λ (l : List ℕ). k ∷ l)
    (numbers_append 5 es (order_words row S files ks)
    ∙ (ap (λ (l : List ℕ). l ++ numbers_of 5 (order_words row S files ks))
    (entries_none row S k (file_image f) (file_record f) 0 (relas_of (file_image f) (file_record f)))
    ∙ order_numbers row S files ks (λ j h. small j (has_cons j k ks h))))

append-nil : (l : List ℕ) → l ++ [] ≡ l
append-nil [] = refl
append-nil (x ∷ l) = ap (λ (r : List ℕ). x ∷ r) (append-nil l)

-- the words of kind 5 of a report are the order
pub reported_numbers :
    (row : ℕ → Row) (S : Objs) (files : List File) (order : List ℕ) (n : ℕ) → ((k : ℕ) → has k order ≡ true → k < 2 ^ 28)
    → numbers_of 5 (order_words row S files order ++ replicate n 0) ≡ order
reported_numbers row S files order n small =
    let ws : List ℕ = order_words row S files order in
    numbers_append 5 ws (replicate n 0)
    ∙ (ap (λ (l : List ℕ). numbers_of 5 ws ++ l) (no_zeros n) ∙ (append-nil (numbers_of 5 ws) ∙ order_numbers row S files order small))

-- ---- the order of a set of at most 62 libraries

order_small : (files : List File) (names : List (List ℕ)) → length names ≤ 62 → (k : ℕ) → has k (set_order files names) ≡ true → k < 2 ^ 28
order_small files names few k h = omega (arith, order_objects files names k h)

set_needed_first :
    (os : List Input) (a b : ℕ) → 2 ≤ a → a < length (names_of os) + 2 → 2 ≤ b → b < length (names_of os) + 2
    → has b (needs_in os a) ≡ true
    → (Reach (needs_in os) (length (names_of os)) b a → ⊥)
    → Before b a (order_in os)
unfolding set_order
set_needed_first os a b la ha lb hb n far = needed_first (needs_in os) (length (names_of os)) a b la ha lb hb n far

pub order_report : OrderReport
order_report setting sheet bytes size policy words arena report e =
    let os : List Input = set_of sheet bytes in
    let p = bound_passed setting sheet bytes size policy words arena report e in
    let c = counts sheet bytes p.sheet_ok_lem in
    let is : numbers_of 5 report ≡ order_in os =
    ap (λ (l : List ℕ). numbers_of 5 l) p.report_is
    ∙ reported_numbers setting.row (objects_in setting os) (files_of os) (order_in os)
    (words - length (order_words setting.row (objects_in setting os) (files_of os) (order_in os))) (order_small (files_of os) (names_of os) c.few) in
    record {
      order = is;
      once = rw is (subst (λ (n : ℕ). OnceEach n (order_in os)) c.all (set_order_lem (files_of os) (names_of os)));
      needed_first = λ a b la ha lb hb n far. rw is (set_needed_first os a b la (omega (arith, c.all)) lb (omega (arith, c.all)) n far);
    }
