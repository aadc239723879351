-- What `bind_ordered` answers: a set bound in an order that is handed in. Document 02, (l), "A builder's own order". Words in quotes are
-- document 02's. Assumes nothing.
use Rattle.std.specs.Prelude.{ℕ, ◌-◌, Bool, not, List, length, take, drop, ◌==◌, nat_eq, slice_index}
use Rattle.words.specs.Choice.{pick, both, either, every, some}
use Rattle.words.specs.Names.{same_bytes}
use Rattle.model.specs.Order.{listed, up_from, times}
use Rattle.object.specs.declared.relocate.Rela.{Rela}
use Rattle.sheet.specs.Sheet.{Input, sheet_ok, set_of}
use Rattle.binder.specs.declared.Policy.{Policy}
use Rattle.binder.specs.Setting.{Setting}
use Rattle.binder.specs.Instance.{File, file_image, file_record, relas_of}
use Rattle.binder.specs.Verdict.{first}
use Rattle.binder.specs.SetOrder.{set_order}
use Rattle.binder.specs.Bind.{files_of, names_of, unless, prepare_verdict, types_verdict, Outcome, refused_bind, bind_in}

-- ---- "It is taken if it lists each library once, then the program, and nothing else"

-- all words but the last
abbrev pub all_but_last : List ℕ → List ℕ
all_but_last order = take (length order - 1) order

-- of a set of that many libraries: the last word is the program's number; of the others each library's is one, and none is another number
unfoldable pub is_order : ℕ → List ℕ → Bool
is_order libraries order =
    both (slice_index order (length order - 1) == 1)
    (both (every (λ k. nat_eq (times k (all_but_last order)) 1) (up_from 2 libraries))
    (every (listed libraries) (all_but_last order)))

-- ---- "sets whose only COPY entries are the program's"

-- document 01: "A COPY entry has type 5"; nothing else of it is looked at
abbrev pub is_copy : Rela → Bool
is_copy e = e.rtype == 5

unfoldable pub has_copy : File → Bool
has_copy f = some is_copy (relas_of (file_image f) (file_record f))

-- some library has one; libraries are the files after host and program
unfoldable pub library_copies : List File → Bool
library_copies files = some has_copy (drop 2 files)

-- ---- the call

-- not 35: document 01's order, or any other where no library has a COPY entry; "for other sets only document 01's order is taken"
unfoldable pub may_take : List File → List (List ℕ) → List ℕ → Bool
may_take files names order =
    both (is_order (length names) order) (either (same_bytes order (set_order files names)) (not (library_copies files)))

-- "35, after 12 .. [has] passed every object, an order that may not be taken (object 0)"
unfoldable pub bind_ordered_set : Setting → List Input → ℕ → Policy → ℕ → List ℕ → Outcome
bind_ordered_set setting os size policy words order =
    bind_in setting (first (prepare_verdict setting (types_verdict setting) os size) (unless (may_take (files_of os) (names_of os) order) 35 0)) (files_of os) order size policy words

-- what `bind_ordered` answers for a sheet and its bytes: refusal 1, or what it does for the sheet's set
unfoldable pub bind_ordered_of : Setting → List ℕ → List ℕ → ℕ → Policy → ℕ → List ℕ → Outcome
bind_ordered_of setting sheet bytes size policy words order =
    pick (sheet_ok sheet (length bytes)) (bind_ordered_set setting (set_of sheet bytes) size policy words order) (refused_bind size words 1 0)
