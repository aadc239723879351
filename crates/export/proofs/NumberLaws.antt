-- No refusal of `bind`, `bind_ordered`, `query`, `query_all` or `start_stop` has the number 0. Assumes nothing.
use Rattle.std.proofs.Common.{Err}
use mathlib.Core.Path.{◌≡◌, refl, sym, ◌∙◌}
use mathlib.Core.Bool.{Bool, true, false}
use mathlib.Core.List.{List, [], ◌∷◌, ◌++◌}
use Prim.Native.Nat.{ℕ, ◌+◌, ◌-◌, ◌<◌}
use native.Mathlib.Omega.{arith}
use borrow.Author.Tests.{eqb-false}
use lib.Dec.{eqb, leb, ltb}
use lib.ListN.{length, get_or}
use Rattle.words.specs.Choice.{pick}
use Rattle.model.specs.Symbols as symbols
use Rattle.model.specs.Objects.{Objs, obj}
use Rattle.model.specs.Scope.{resolve}
use Rattle.object.specs.Entries.{Word}
use Rattle.object.specs.Record.{Record}
use Rattle.object.specs.Loaded.{object_refusal}
use Rattle.object.specs.declared.relocate.Rela.{Rela}
use Rattle.sheet.specs.Sheet.{Input, sheet_ok, arena_ok, set_of, duplicate_of}
use Rattle.binder.specs.declared.Policy.{Policy}
use Rattle.binder.specs.Setting.{Setting}
use Rattle.binder.specs.Instance.{File, file_image, file_record, named_words, relas_of}
use Rattle.binder.specs.Verdict as verdicts
use Rattle.binder.specs.declared.crossing.Copy.{Copy}
use Rattle.binder.specs.Copies.{entry_copy, object_copies}
use Rattle.binder.specs.Verdict.{Verdict, passed, refused, cross_refusal, first, verdict, no_file, load_verdict, word_refusal, words_verdict, entry_refusal, entries_verdict, object_verdict, order_verdict}
use Rattle.object.specs.RelocationTypes.{Row}
use Rattle.binder.specs.Report.{order_words, first_undefined}
use Rattle.binder.specs.Bind as binding
use Rattle.binder.specs.Bind.{files_of, names_of, objects_of, unless, prepare_verdict, types_verdict, allows, relocate_verdict, Outcome, outcome, refused_bind, outcome_of, bind_of, replied, replied_of, reply_of}
use Rattle.binder.specs.QueryAll as all
use Rattle.binder.specs.QueryAll.{list_ok, replied_all, replied_all_of}
use Rattle.binder.specs.OwnOrder as ordering
use Rattle.binder.specs.OwnOrder.{may_take, bind_ordered_set, bind_ordered_of}
use Rattle.binder.proofs.OutcomeLaws.{refused_not, refused_same, sheet_verdict, bind_one, query_one}
use Rattle.binder.proofs.QueryAllIs.{query_all_one}
use Rattle.start_stop.specs.StartStop as functions
use Rattle.start_stop.specs.StartStop.{Calls, arrays_ok, arrays_verdict, lists_verdict, listing, listing_of, then_list}
use Rattle.export.specs.Calls.{ZeroTells}

abbrev Numbered : Verdict → Type 0
Numbered v = (n k : ℕ) → v ≡ refused n k → 0 < n

passing : Numbered passed
passing n k e = refused_not n k (sym e)

either_one : (v w : Verdict) → Numbered v → Numbered w → Numbered (first v w)
either_one passed w p q = q
either_one (Err m) w p q = p

picked : (t : Bool) (n k : ℕ) → (t ≡ false → 0 < n) → Numbered (pick t passed (refused n k))
picked true n k h m j e = passing m j e
picked false n k h m j e =
    omega (arith, h refl, (refused_same n k m j e).0)

of_number : (n k : ℕ) → Numbered (verdict n k)
unfolding verdicts.verdict
of_number n k = picked (eqb n 0) n k (λ (e : eqb n 0 ≡ false). let z : n ≡ 0 → ⊥ = eqb-false n 0 e in omega (arith, z))

of_test : (t : Bool) (n k : ℕ) → 0 < n → Numbered (unless t n k)
unfolding binding.unless
of_test t n k h = picked t n k (λ _. h)

of_load : (S : Objs) (size k : ℕ) (fs : List File) → Numbered (load_verdict S size k fs)
unfolding verdicts.load_verdict
of_load S size k [] = passing
of_load S size k (f ∷ fs) =
    let n : ℕ = object_refusal f.host (size - (obj S k).offset) f.bytes in
    either_one (verdict n k) (load_verdict S size (k + 1) fs) (of_number n k) (of_load S size (k + 1) fs)

of_words : (k : ℕ) (r : Record) (ws : List Word) → Numbered (words_verdict k r ws)
unfolding verdicts.words_verdict
of_words k r [] = passing
of_words k r (w ∷ ws) =
    either_one (verdict (word_refusal r w) k) (words_verdict k r ws) (of_number (word_refusal r w) k) (of_words k r ws)

of_entries :
    (row : ℕ → Row) (S : Objs) (k : ℕ) (image : List ℕ) (r : Record) (earlier : List Copy) (es : List Rela)
    → Numbered (entries_verdict row S k image r earlier es)
unfolding verdicts.entries_verdict
of_entries row S k image r earlier [] = passing
of_entries row S k image r earlier (e ∷ es) =
    let c : List Copy = entry_copy row S k image r e in
    let rest : Verdict = entries_verdict row S k image r (earlier ++ c) es in
    either_one (verdict (entry_refusal row S k image r e) k) (first (verdict (cross_refusal earlier c) k) rest) (of_number (entry_refusal row S k image r e) k)
    (either_one (verdict (cross_refusal earlier c) k) rest (of_number (cross_refusal earlier c) k) (of_entries row S k image r (earlier ++ c) es))

of_object : (row : ℕ → Row) (S : Objs) (earlier : List Copy) (k : ℕ) (f : File) → Numbered (object_verdict row S earlier k f)
unfolding verdicts.object_verdict
of_object row S earlier k f =
    let es : List Rela = relas_of (file_image f) (file_record f) in
    either_one (words_verdict k (file_record f) (named_words (file_image f) (file_record f))) (entries_verdict row S k (file_image f) (file_record f) earlier es)
    (of_words k (file_record f) (named_words (file_image f) (file_record f))) (of_entries row S k (file_image f) (file_record f) earlier es)

of_order : (row : ℕ → Row) (S : Objs) (files : List File) (earlier : List Copy) (ks : List ℕ) → Numbered (order_verdict row S files earlier ks)
unfolding verdicts.order_verdict
of_order row S files earlier [] = passing
of_order row S files earlier (k ∷ ks) =
    let more : List Copy = earlier ++ object_copies row S k (get_or files k no_file) in
    either_one (object_verdict row S earlier k (get_or files k no_file)) (order_verdict row S files more ks)
    (of_object row S earlier k (get_or files k no_file)) (of_order row S files more ks)

of_relocate : (row : ℕ → Row) (S : Objs) (files : List File) (order : List ℕ) (policy : Policy) (words : ℕ) → Numbered (relocate_verdict row S files order policy words)
unfolding binding.relocate_verdict
of_relocate row S files order policy words =
    let u = first_undefined row S files order in
    let room = leb (length (order_words row S files order)) words in
    either_one (order_verdict row S files [] order) (first (unless (allows policy u) 19 u) (unless room 20 0)) (of_order row S files [] order)
    (either_one (unless (allows policy u) 19 u) (unless room 20 0) (of_test (allows policy u) 19 u (omega arith)) (of_test room 20 0 (omega arith)))

of_set : (setting : Setting) (types : Verdict) (os : List Input) (size : ℕ) → Numbered types → Numbered (prepare_verdict setting types os size)
unfolding binding.prepare_verdict
of_set setting types os size typed =
    let two = arena_ok size setting.address in
    let duplicate = duplicate_of os in
    let loaded = load_verdict (objects_of setting (files_of os)) size 0 (files_of os) in
    let rest = first (unless (eqb duplicate 0) 3 duplicate) loaded in
    either_one (unless two 2 0) (first types rest) (of_test two 2 0 (omega arith))
    (either_one types rest typed
    (either_one (unless (eqb duplicate 0) 3 duplicate) loaded (of_test (eqb duplicate 0) 3 duplicate (omega arith))
    (of_load (objects_of setting (files_of os)) size 0 (files_of os))))

of_prepare :
    (setting : Setting) (types : Verdict) (sheet bytes : List ℕ) (size : ℕ) → Numbered types → Numbered (sheet_verdict setting types sheet bytes size)
of_prepare setting types sheet bytes size typed =
    let one = sheet_ok sheet (length bytes) in
    either_one (unless one 1 0) (prepare_verdict setting types (set_of sheet bytes) size) (of_test one 1 0 (omega arith))
    (of_set setting types (set_of sheet bytes) size typed)

-- ---- the answers

of_outcome :
    (size words : ℕ) (v : Verdict) (a r arena report : List ℕ) (n k : ℕ) → Numbered v
    → outcome_of size words v a r ≡ outcome (refused n k) arena report → 0 < n
unfolding binding.outcome_of
of_outcome size words passed a r arena report n k h e = let z : ◌≡◌ {A = ℕ} 0 1 = cc in absurd (omega arith)
of_outcome size words (Err d) a r arena report n k h e = h n k cc

of_ordered :
    (setting : Setting) (sheet bytes : List ℕ) (size : ℕ) (policy : Policy) (words : ℕ) (order : List ℕ) (n k : ℕ) (arena report : List ℕ)
    → bind_ordered_of setting sheet bytes size policy words order ≡ outcome (refused n k) arena report → 0 < n
unfolding ordering.bind_ordered_of ordering.bind_ordered_set binding.bind_in
of_ordered setting sheet bytes size policy words order n k arena report e = go (sheet_ok sheet (length bytes)) e
  where
    os : List Input
    os = set_of sheet bytes

    go :
        (t : Bool)
        → pick t (bind_ordered_set setting os size policy words order) (refused_bind size words 1 0) ≡ outcome (refused n k) arena report
        → 0 < n
    go true q =
        let taken : Bool = may_take (files_of os) (names_of os) order in
        of_outcome size words _ _ _ arena report n k
        (either_one (first (prepare_verdict setting (types_verdict setting) os size) (unless taken 35 0)) _
        (either_one (prepare_verdict setting (types_verdict setting) os size) (unless taken 35 0)
        (of_set setting (types_verdict setting) os size (of_test setting.typed 24 0 (omega arith))) (of_test taken 35 0 (omega arith)))
        (of_relocate _ _ _ _ policy words))
        q
    go false q = let one : ◌≡◌ {A = Verdict} (refused 1 0) (refused n k) = cc in omega (arith, (refused_same 1 0 n k one).0)

not_refused : {P : Type 0} (s : symbols.Resolved) (a arena : List ℕ) (n k : ℕ) → replied (reply_of s) a ≡ replied (refused n k) arena → P
not_refused symbols.absent a arena n k e = let z : ◌≡◌ {A = ℕ} 0 1 = cc in absurd (omega arith)
not_refused (symbols.answer d s v) a arena n k e = let z : ◌≡◌ {A = ℕ} 0 1 = cc in absurd (omega arith)

of_replied :
    (size : ℕ) (v : Verdict) (s : symbols.Resolved) (a arena : List ℕ) (n k : ℕ) → Numbered v
    → replied_of size v (reply_of s) a ≡ replied (refused n k) arena → 0 < n
unfolding binding.replied_of
of_replied size passed s a arena n k h e = not_refused s a arena n k e
of_replied size (Err d) s a arena n k h e = h n k cc

of_replied_all :
    (size slots : ℕ) (v : Verdict) (a ws arena words : List ℕ) (n k : ℕ) → Numbered v
    → replied_all_of size slots v a ws ≡ replied_all (refused n k) arena words → 0 < n
unfolding all.replied_all_of
of_replied_all size slots passed a ws arena words n k h e = let z : ◌≡◌ {A = ℕ} 0 1 = cc in absurd (omega arith)
of_replied_all size slots (Err d) a ws arena words n k h e = h n k cc

bind_tells :
    (setting : Setting) (sheet bytes : List ℕ) (size : ℕ) (policy : Policy) (words n k : ℕ) (arena report : List ℕ)
    → bind_of setting sheet bytes size policy words ≡ outcome (refused n k) arena report → 0 < n
unfolding binding.bind_in
bind_tells setting sheet bytes size policy words n k arena report e =
    of_outcome size words _ _ _ arena report n k
    (either_one (sheet_verdict setting (types_verdict setting) sheet bytes size) _
    (of_prepare setting (types_verdict setting) sheet bytes size (of_test setting.typed 24 0 (omega arith))) (of_relocate _ _ _ _ policy words))
    (sym (bind_one setting sheet bytes size policy words) ∙ e)

-- ---- 26 and 27

of_arrays : (calls : ℕ → Calls) (ks : List ℕ) → Numbered (arrays_verdict calls ks)
unfolding functions.arrays_verdict
of_arrays calls [] = passing
of_arrays calls (k ∷ ks) =
    either_one (unless (arrays_ok k (calls k)) 26 k) (arrays_verdict calls ks) (of_test (arrays_ok k (calls k)) 26 k (omega arith)) (of_arrays calls ks)

of_lists : (calls : ℕ → Calls) (order : List ℕ) (starts stops : ℕ) → Numbered (lists_verdict calls order starts stops)
unfolding functions.lists_verdict
of_lists calls order starts stops =
    either_one (arrays_verdict calls order) (unless _ 27 0) (of_arrays calls order) (of_test _ 27 0 (omega arith))

of_listing :
    (starts stops : ℕ) (v : Verdict) (a r s t arena report start stop : List ℕ) (n k : ℕ) → Numbered v
    → listing_of starts stops v a r s t ≡ listing (refused n k) arena report start stop → 0 < n
unfolding functions.listing_of
of_listing starts stops passed a r s t arena report start stop n k h e = let z : ◌≡◌ {A = ℕ} 0 1 = cc in absurd (omega arith)
of_listing starts stops (Err d) a r s t arena report start stop n k h e = h n k cc

of_then :
    (setting : Setting) (sheet bytes : List ℕ) (size : ℕ) (policy : Policy) (words starts stops n k : ℕ) (arena report start stop : List ℕ) (o : Outcome)
    → bind_of setting sheet bytes size policy words ≡ o
    → then_list setting (set_of sheet bytes) starts stops o ≡ listing (refused n k) arena report start stop → 0 < n
unfolding functions.then_list functions.list_by
of_then setting sheet bytes size policy words starts stops n k arena report start stop (outcome (Err d) a r) q e =
    let same : d.number ≡ n = cc in
    omega (arith, bind_tells setting sheet bytes size policy words d.number d.object a r q, same)
of_then setting sheet bytes size policy words starts stops n k arena report start stop (outcome passed a r) q e =
    of_listing starts stops _ a r _ _ arena report start stop n k (of_lists _ _ starts stops) e

pub zero_tells : ZeroTells
unfolding binding.bind_in functions.start_stop_of
zero_tells = (
  bind_tells,
  of_ordered,
  λ setting sheet bytes size requester name n k arena e.
      of_replied size _ (resolve (objects_of setting (files_of (set_of sheet bytes))) requester (symbols.by_name name)) _ arena n k
      (either_one (sheet_verdict setting passed sheet bytes size) (unless (ltb requester (length (set_of sheet bytes))) 13 0)
      (of_prepare setting passed sheet bytes size passing)
      (of_test (ltb requester (length (set_of sheet bytes))) 13 0 (omega arith))) (sym (query_one setting sheet bytes size requester name) ∙ e),
  λ setting sheet bytes size requester list slots n k arena words e.
      let asking = unless (ltb requester (length (set_of sheet bytes))) 13 0 in
      let listed = unless (list_ok list slots) 23 0 in
      of_replied_all size slots _ _ _ arena words n k
      (either_one (sheet_verdict setting passed sheet bytes size) (first asking listed) (of_prepare setting passed sheet bytes size passing)
      (either_one asking listed (of_test (ltb requester (length (set_of sheet bytes))) 13 0 (omega arith)) (of_test (list_ok list slots) 23 0 (omega arith))))
      (sym (query_all_one setting sheet bytes size requester list slots) ∙ e),
  λ setting sheet bytes size policy words starts stops n k arena report start stop e.
      of_then setting sheet bytes size policy words starts stops n k arena report start stop _ refl e,
)
