-- The rows that the code reads, and the memory of an object's part. Assumes nothing.
use mathlib.Core.Path.{◌≡◌, refl, sym, ap, ◌∙◌, fun_ext}
use mathlib.Core.List.{List}
use native.Mathlib.Decide.{dec_lt}
use Prim.Native.Nat.{ℕ, zero, suc, ◌+◌, ◌<◌}
use native.Mathlib.Omega.{arith}
use lib.ListN.{length, get_or, take, drop, set, replicate, length-drop}
use lib.Seq.{take_all}
use Rattle.std.proofs.lemmas.List.{get_or-set_same, get_or-set_other}
use Rattle.std.specs.Prelude.{Option, None}
use Rattle.words.specs.Memory.{mem, from}
use Rattle.words.proofs.Slices.{mem_drop}
use Rattle.object.specs.DynamicTags as DT
use Rattle.object.specs.DynamicFields.{Fields}
use Rattle.object.specs.ProgramHeader.{dynamic_of}
use Rattle.object.specs.Steps.Slots as slots
use Rattle.object.specs.Steps.Slots.{slot_of, field_in, SameFields}
use Rattle.scope.specs.declared.links.Link.{Link}
use Rattle.scope.specs.Steps.Links.{link_at}
use Rattle.scope.specs.Steps.ScopeCode.{image_at}
use Rattle.sheet.specs.Sheet.{Input, no_input}
use Rattle.start_stop.specs.StartStop.{fields_at}
use Rattle.start_stop.specs.Steps.Rows as tables
use Rattle.start_stop.specs.declared.rows.Row.{Row}
use Rattle.start_stop.specs.Steps.Rows.{row_of, no_row, row_at, fields_in, RowsRead, bytes_at}

-- ---- an object's part of the arena, from its offset on

pub part_bytes : (arena table : List ℕ) (k : ℕ) (s : Link) (part : List ℕ) → s ≡ link_at table k → part ≡ take (length arena) (drop s.offset arena)
    → mem part ≡ bytes_at arena table k
part_bytes arena table k s part e p =
    ap mem (p ∙ take_all (length arena) (drop s.offset arena) (omega (arith, length-drop s.offset arena)))
    ∙ (fun_ext (λ i. mem_drop s.offset arena i) ∙ ap (λ (x : Link). from x.offset (mem arena)) e)

-- ---- the fields of an object

none_at : (n i : ℕ) → ◌≡◌ {A = Option ℕ} (get_or (replicate n None) i None) None
none_at zero i = refl
none_at (suc n) zero = refl
none_at (suc n) (suc i) = none_at n i

-- no entry is there
pub no_slots : (image : List ℕ) → SameFields (field_in (replicate 38 None)) (fields_at image None)
no_slots image tag h = none_at 38 (slot_of tag)

-- a row hangs on eight fields, all of which have a slot
pub same_row : (f g : Fields) → SameFields f g → row_of f ≡ row_of g
unfolding tables.row_of slots.slot_of
same_row f g same =
    rw (
      same DT.INIT (omega arith),
      same DT.FINI (omega arith),
      same DT.PREINIT_ARRAY (omega arith),
      same DT.PREINIT_ARRAYSZ (omega arith),
      same DT.INIT_ARRAY (omega arith),
      same DT.INIT_ARRAYSZ (omega arith),
      same DT.FINI_ARRAY (omega arith),
      same DT.FINI_ARRAYSZ (omega arith),
    )

-- ---- the rows

-- one more row is read
pub read_next :
    (os : List Input) (arena table : List ℕ) (rows rows' : List Row) (k : ℕ) (s : Link) (image file : List ℕ) → k < length rows
    → s ≡ link_at table k → image ≡ take s.span (drop s.offset arena) → file ≡ (get_or os k no_input).file
    → rows' ≡ set rows k (row_of (fields_at image (dynamic_of file))) → RowsRead os k arena table rows → RowsRead os (k + 1) arena table rows'
read_next os arena table rows rows' k s image file room es ei ef e before i a b = go (dec_lt i k)
  where
    fields : fields_at image (dynamic_of file) ≡ fields_in os arena table k
    fields =
        ap (λ (x : List ℕ). fields_at x (dynamic_of file)) (ei ∙ ap (image_at arena) es)
        ∙ ap (λ (x : List ℕ). fields_at (image_at arena (link_at table k)) (dynamic_of x)) ef

    row : Row
    row = row_of (fields_at image (dynamic_of file))

    go : Dec (i < k) → row_at rows' i ≡ row_of (fields_in os arena table i)
    go (yes z) = ap (λ (xs : List Row). row_at xs i) e ∙ (get_or-set_other rows k i row no_row (λ e. omega (arith, e, z)) ∙ before i a z)
    go (no z) =
        let here : k ≡ i = omega (arith, z, b) in
        ap (λ (xs : List Row). row_at xs i) e
        ∙ (ap (row_at (set rows k row)) (sym here)
        ∙ (get_or-set_same rows k row no_row room
        ∙ (ap row_of fields ∙ ap (λ (q : ℕ). row_of (fields_in os arena table q)) here)))
