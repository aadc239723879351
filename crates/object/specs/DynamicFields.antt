-- The fields of the dynamic array, by their tags. System V gABI, "Dynamic Section". Document 01, "The object record": "A repeated tag: the
-- last counts"; "Of hash tables, the last GNU (0x6ffffef5), else the first SysV (4)". Assumes nothing.
use Rattle.std.specs.Prelude.{List, ℕ, eqb, Option, None}
use Rattle.words.specs.Choice.{pick}
use Rattle.object.specs.DynamicTags as DT
use Rattle.object.specs.DynamicArray.{Item, last_value, first_of, all_of, items_of}

-- what the entries of each tag give
abbrev pub Fields : Type 0
Fields = ℕ → Option ℕ

-- of the entries of a tag the last counts, of DT_HASH the first
unfoldable pub field_of : List Item → Fields
field_of items tag = pick (eqb tag DT.HASH) (first_of tag None items) (last_value tag None items)

-- the fields of the array at `at`
abbrev pub fields_of : List ℕ → ℕ → Fields
fields_of image at = field_of (items_of image at)

-- DT_NEEDED: the offsets of the needs' names, in file order
abbrev pub needed_offsets : List ℕ → ℕ → List ℕ
needed_offsets image at = all_of DT.NEEDED (items_of image at)
