-- Whether an order that is handed in may be taken, as the code finds it in a loaded set. `OwnOrder` has what it comes to. Assumes nothing.
use Rattle.std.specs.Prelude.{◌≡◌, ℕ, ◌-◌, Bool, false, not, List, ◌==◌, length, slice_index_or}
use Rattle.words.specs.Choice.{pick, both, either, some}
use Rattle.words.specs.Names.{same_bytes}
use Rattle.model.specs.Order.{up_from}
use Rattle.object.specs.Entries.{relas_from}
use Rattle.object.specs.Record.{Record}
use Rattle.sheet.specs.Sheet.{Input, no_input}
use Rattle.scope.specs.Steps.Links.{link_at}
use Rattle.scope.specs.Steps.ScopeCode.{image_at}
use Rattle.binder.specs.Setting.{Setting}
use Rattle.binder.specs.declared.Policy.{Policy}
use Rattle.binder.specs.OwnOrder.{is_order, is_copy, bind_ordered_set}
use Rattle.binder.specs.Steps.Needed.{Arranged}
use Rattle.binder.specs.Steps.Relocating.{cut_to32, again_refusal, again_record}
use Rattle.binder.specs.Steps.Finished.{finished_of}
use Rattle.binder.specs.Verdict.{Verdict}

-- an entry of type 5 in RELA or PLT
abbrev pub copy_in : List ℕ → Record → Bool
copy_in image r =
    either (some is_copy (relas_from image r.rela 0 (cut_to32 r.relas))) (some is_copy (relas_from image r.plt 0 (cut_to32 r.plts)))

-- the record is read again; what was loaded is not refused then
unfoldable pub copy_again : List ℕ → List ℕ → Bool
copy_again image file = pick (again_refusal image file == 0) (copy_in image (again_record image file)) false

-- library `k` of a loaded set
abbrev pub copy_at : List Input → List ℕ → List ℕ → ℕ → Bool
copy_at os arena table k = copy_again (image_at arena (link_at table k)) (slice_index_or os k no_input).file

-- one of the libraries
abbrev pub copies_at : List Input → List ℕ → List ℕ → Bool
copies_at os arena table = some (copy_at os arena table) (up_from 2 (length os - 2))

-- the order of the set, and whether the one that was handed in may be taken
pub record Taken (os : List Input) (arena table order : List ℕ) (r : Bool) : Type 0 where
  pub own : List ℕ
  pub arranged : Arranged os arena table own
  pub is : r ≡ both (is_order (length os - 2) order) (either (same_bytes order own) (not (copies_at os arena table)))

-- what is left of a set: finished, it is `bind_ordered_set`
abbrev pub BoundOrdered : Setting → List Input → ℕ → Policy → ℕ → List ℕ → List ℕ → List ℕ → Verdict → Type 0
BoundOrdered setting os size policy words order arena' report' m =
    finished_of m arena' report' ≡ bind_ordered_set setting os size policy words order
