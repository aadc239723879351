-- The report. Document 01, "Relocated bytes and report": "per object a word of kind 5 with its number, then in entry order kind 6
-- (undefined) or kind 7 (passed over, type 0 excepted) with the entry's number, RELA from 0, PLT following. Unused words are 0";
-- "Unresolved with binding other than 2 is undefined, also for symbol 0"; refusals 19 and 20. Assumes nothing.
use Rattle.std.specs.Prelude.{ℕ, ◌+◌, ◌*◌, ◌^◌, Bool, true, false, not, List, [], ◌∷◌, ◌++◌, ◌==◌, slice_index_or}
use Rattle.words.specs.Choice.{pick, both, some}
use Rattle.model.specs.Symbols.{Resolved, absent, answer}
use Rattle.model.specs.Objects.{Objs}
use Rattle.model.specs.Scope.{resolve, resolve_copy}
use Rattle.object.specs.Symbol.{symbol_at, binding_of}
use Rattle.object.specs.RelocationTypes.{Row, no_search, in_scope, ignored, passed_over, turned_away, marked_refuse, copies, writes}
use Rattle.object.specs.Record.{Record}
use Rattle.object.specs.declared.relocate.Rela.{Rela}
use Rattle.binder.specs.Instance.{File, file_image, file_record, relas_of, wanted_by}
use Rattle.binder.specs.Verdict.{no_file}

-- a word: the top four bits are the kind, the low 28 a number
abbrev pub report_word : ℕ → ℕ → ℕ
report_word kind n = kind * 2 ^ 28 + n

abbrev pub is_absent : Resolved → Bool
is_absent absent = true
is_absent (answer k s a) = false

-- "Unresolved with binding other than 2", of an entry of object `k` whose search had that answer
abbrev pub unresolved : List ℕ → Record → Rela → Resolved → Bool
unresolved image r e a = both (is_absent a) (not (binding_of (symbol_at image r.symbols e.symbol) == 2))

-- an undefined entry, by the row of its type
unfoldable pub undefined_by : Objs → ℕ → List ℕ → Record → Rela → Row → Bool
undefined_by S k image r e ignored = false
undefined_by S k image r e passed_over = false
undefined_by S k image r e turned_away = false
undefined_by S k image r e marked_refuse = false
undefined_by S k image r e (writes no_search f) = false
undefined_by S k image r e (writes (in_scope searched) f) =
    both (searched e.symbol) (unresolved image r e (resolve S k (wanted_by image r e.symbol)))
undefined_by S k image r e copies = unresolved image r e (resolve_copy S (wanted_by image r e.symbol))

abbrev pub is_undefined : (ℕ → Row) → Objs → ℕ → List ℕ → Record → Rela → Bool
is_undefined row S k image r e = undefined_by S k image r e (row e.rtype)

abbrev pub is_passed : Row → Bool
is_passed ignored = false
is_passed passed_over = true
is_passed turned_away = false
is_passed marked_refuse = false
is_passed (writes sought f) = false
is_passed copies = false

-- the words of the entries, the first of which has the number `i`
unfoldable pub entry_report : (ℕ → Row) → Objs → ℕ → List ℕ → Record → ℕ → List Rela → List ℕ
entry_report row S k image r i [] = []
entry_report row S k image r i (e ∷ es) =
    pick (is_undefined row S k image r e) (report_word 6 i ∷ [])
    (pick (is_passed (row e.rtype)) (report_word 7 i ∷ []) [])
    ++ entry_report row S k image r (i + 1) es

unfoldable pub object_words : (ℕ → Row) → Objs → ℕ → File → List ℕ
object_words row S k f = report_word 5 k ∷ entry_report row S k (file_image f) (file_record f) 0 (relas_of (file_image f) (file_record f))

-- the words of the objects of an order
unfoldable pub order_words : (ℕ → Row) → Objs → List File → List ℕ → List ℕ
order_words row S files [] = []
order_words row S files (k ∷ ks) = object_words row S k (slice_index_or files k no_file) ++ order_words row S files ks

-- 19: the first object of an order that has an undefined entry; 0 where none has
unfoldable pub has_undefined : (ℕ → Row) → Objs → ℕ → File → Bool
has_undefined row S k f = some (is_undefined row S k (file_image f) (file_record f)) (relas_of (file_image f) (file_record f))

unfoldable pub first_undefined : (ℕ → Row) → Objs → List File → List ℕ → ℕ
first_undefined row S files [] = 0
first_undefined row S files (k ∷ ks) = pick (has_undefined row S k (slice_index_or files k no_file)) k (first_undefined row S files ks)
