-- What `bind` and `query` answer, and what they leave in arena and report: from their arguments alone, refused calls too. Document 01,
-- "Refused, in checking order", "Relocated bytes and report", "An address for a name" (the public query); demand 1, "a refusal leaves zeros
-- in arena and report". Assumes nothing.
use Rattle.std.specs.Prelude.{ℕ, ◌-◌, Bool, true, false, List, [], ◌∷◌, ◌++◌, map, length, drop, replicate, ◌==◌, nat_le, nat_lt, Option, Some, None, Result, Ok, Err}
use Rattle.words.specs.Choice.{pick}
use Rattle.words.specs.Memory.{tab}
use Rattle.model.specs.Symbols.{by_name, absent, answer}
use Rattle.model.specs.Symbols as symbols
use Rattle.model.specs.Objects.{Objs}
use Rattle.model.specs.Scope.{resolve}
use Rattle.model.specs.Relocation.{placed, bound}
use Rattle.model.specs.Layout.{objs_of}
use Rattle.binder.specs.declared.Policy.{Policy}
use Rattle.binder.specs.declared.Policy.TheVariants.{Strict, Lenient}
use Rattle.binder.specs.declared.Found.{Found}
use Rattle.binder.specs.declared.Refused.{Refused}
use Rattle.object.specs.RelocationTypes.{Row}
use Rattle.sheet.specs.Sheet.{Input, sheet_ok, set_of, arena_ok, duplicate_of}
use Rattle.binder.specs.Setting.{Setting}
use Rattle.binder.specs.Instance.{File, object_from}
use Rattle.binder.specs.Verdict.{Verdict, passed, refused, first, no_file, load_verdict, order_verdict}
use Rattle.binder.specs.Report.{order_words, first_undefined}
use Rattle.binder.specs.SetOrder.{set_order}

-- ---- a set: its files by object number, the libraries' names, and its objects in a setting

unfoldable pub files_of : List Input → List File
files_of [] = []
files_of (h ∷ os) = record { host = true; bytes = h.file } ∷ map (λ o. record { host = false; bytes = o.file }) os

unfoldable pub names_of : List Input → List (List ℕ)
names_of os = map (λ o. o.name) (drop 2 os)

unfoldable pub objects_of : Setting → List File → Objs
objects_of setting [] = objs_of (object_from setting) no_file no_file []
objects_of setting (h ∷ []) = objs_of (object_from setting) h no_file []
objects_of setting (h ∷ (p ∷ fs)) = objs_of (object_from setting) h p fs

-- ---- the refusals, in checking order

-- refusal `n`, object `k`, unless the test holds
unfoldable pub unless : Bool → ℕ → ℕ → Verdict
unless t n k = pick t passed (refused n k)

-- 2 to 12 and 21 of a set, which a query meets too; `types` is what a call that binds meets between 2 and 3
unfoldable pub prepare_verdict : Setting → Verdict → List Input → ℕ → Verdict
prepare_verdict setting types os size =
    first (unless (arena_ok size setting.address) 2 0)
    (first types
    (first (unless (duplicate_of os == 0) 3 (duplicate_of os))
    (load_verdict (objects_of setting (files_of os)) size 0 (files_of os))))

-- "24, after 2": of the words of the types
abbrev pub types_verdict : Setting → Verdict
types_verdict setting = unless setting.typed 24 0

-- 19: "Strict policy and an undefined entry"
abbrev pub allows : Policy → ℕ → Bool
allows Strict undefined = undefined == 0
allows Lenient undefined = true

-- 14 to 20, 22, 25 and 28 of a set's objects in an order
unfoldable pub relocate_verdict : (ℕ → Row) → Objs → List File → List ℕ → Policy → ℕ → Verdict
relocate_verdict row S files order policy words =
    first (order_verdict row S files [] order)
    (first (unless (allows policy (first_undefined row S files order)) 19 (first_undefined row S files order))
    (unless (nat_le (length (order_words row S files order)) words) 20 0))

-- ---- bind

-- the answer, the arena and the report that a call leaves
pub data Outcome : Type 0 where
  outcome : (answer : Verdict) (arena report : List ℕ) → Outcome

-- "a refusal leaves zeros in arena and report"
abbrev pub refused_bind : ℕ → ℕ → ℕ → ℕ → Outcome
refused_bind size words n k = outcome (refused n k) (replicate size 0) (replicate words 0)

-- a refusal; else the arena and the report, "Unused words are 0"
unfoldable pub outcome_of : ℕ → ℕ → Verdict → List ℕ → List ℕ → Outcome
outcome_of size words (Err r) arena report = refused_bind size words r.number r.object
outcome_of size words passed arena report = outcome passed arena (report ++ replicate (words - length report) 0)

-- a set bound in an order, in an arena of `size` bytes and with a report of `words` words
unfoldable pub bind_in : Setting → Verdict → List File → List ℕ → ℕ → Policy → ℕ → Outcome
bind_in setting prepared files order size policy words =
    outcome_of size words (first prepared (relocate_verdict setting.row (objects_of setting files) files order policy words))
    (tab size (bound (objects_of setting files) order)) (order_words setting.row (objects_of setting files) files order)

-- a set bound in its order: refusals 2 to 25
unfoldable pub bind_set : Setting → List Input → ℕ → Policy → ℕ → Outcome
bind_set setting os size policy words =
    bind_in setting (prepare_verdict setting (types_verdict setting) os size) (files_of os) (set_order (files_of os) (names_of os)) size policy words

-- what `bind` answers for a sheet and its bytes: refusal 1, or what it does for the sheet's set
unfoldable pub bind_of : Setting → List ℕ → List ℕ → ℕ → Policy → ℕ → Outcome
bind_of setting sheet bytes size policy words =
    pick (sheet_ok sheet (length bytes)) (bind_set setting (set_of sheet bytes) size policy words) (refused_bind size words 1 0)

-- ---- query

-- "A lookup yields an object, a symbol index and an address, or absence"
abbrev pub Reply : Type 0
Reply = Result (Option Found) Refused

abbrev pub found : ℕ → ℕ → ℕ → Reply
found k i a = Ok (Some (record { object = k; symbol = i; address = a }))

pub data Replied : Type 0 where
  replied : (reply : Reply) (arena : List ℕ) → Replied

abbrev pub reply_of : symbols.Resolved → Reply
reply_of absent = Ok None
reply_of (answer k s a) = found k s.index a

-- a refusal leaves zeros
abbrev pub refused_query : ℕ → ℕ → ℕ → Replied
refused_query size n k = replied (refused n k) (replicate size 0)

-- "after an answer the arena holds the placed, unrelocated bytes"
unfoldable pub replied_of : ℕ → Verdict → Reply → List ℕ → Replied
replied_of size (Err r) reply arena = refused_query size r.number r.object
replied_of size passed reply arena = replied reply arena

-- a set that is asked: it "meets only refusals 1 to 13", 2 to 13 here, and 21
unfoldable pub ask_set : Setting → List Input → ℕ → ℕ → List ℕ → Replied
ask_set setting os size requester name =
    replied_of size (first (prepare_verdict setting passed os size) (unless (nat_lt requester (length os)) 13 0))
    (reply_of (resolve (objects_of setting (files_of os)) requester (by_name name))) (tab size (placed (objects_of setting (files_of os))))

-- what `query` answers for a sheet and its bytes
unfoldable pub query_of : Setting → List ℕ → List ℕ → ℕ → ℕ → List ℕ → Replied
query_of setting sheet bytes size requester name =
    pick (sheet_ok sheet (length bytes)) (ask_set setting (set_of sheet bytes) size requester name) (refused_query size 1 0)
