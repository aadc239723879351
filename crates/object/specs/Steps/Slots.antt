-- The dynamic array as the code reads it, in one pass: a slot for each tag, and the needs. Assumes nothing.
use Rattle.std.specs.Prelude.{List, ◌≡◌, ℕ, ◌<◌, eqb, ltb, get_or, set, Option, None, Some, is_some}
use Rattle.words.specs.Choice.{pick}
use Rattle.object.specs.declared.dynamic_array.DynamicArray.{DynamicArray}
use Rattle.object.specs.DynamicArray.{ends_inside}
use Rattle.object.specs.DynamicTags as DT
use Rattle.object.specs.DynamicFields.{Fields, fields_of, needed_offsets}
use Rattle.object.specs.Steps.FirstOf.{FirstOf}

-- the slot of a tag: below 37 the tag itself, then one for each that is far above; 0 for the tags that have none
unfoldable pub slot_of : ℕ → ℕ
slot_of tag = pick (ltb tag 37) tag (pick (eqb tag DT.GNU_HASH) 37 0)

abbrev pub field_in : List (Option ℕ) → Fields
field_in slots tag = get_or slots (slot_of tag) None

-- the slots after an entry
unfoldable pub kept_of : ℕ → Option ℕ → ℕ → Option ℕ
kept_of tag was value = pick (eqb tag DT.HASH) (pick (is_some was) was (Some value)) (Some value)

abbrev pub put_of : List (Option ℕ) → ℕ → ℕ → List (Option ℕ)
put_of slots tag value = set slots (slot_of tag) (kept_of tag (field_in slots tag) value)

-- the same of each tag that has a slot
abbrev pub SameFields : Fields → Fields → Type 0
SameFields f g = (tag : ℕ) → 0 < slot_of tag → f tag ≡ g tag

-- the array at `at`, when it is read
pub record ArrayAt (image : List ℕ) (at : ℕ) (a : DynamicArray) : Type 0 where
  pub fields : SameFields (field_in a.slots) (fields_of image at)
  pub needs : FirstOf 64 (needed_offsets image at) a.needs
  pub ended : a.ended ≡ ends_inside image at
