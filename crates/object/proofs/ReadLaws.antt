-- The refusals of reading, one after another: `read_fields` and `read_object` against their definitions. Assumes nothing.
use mathlib.Core.Path.{◌≡◌, refl, sym, ap, ◌∙◌}
use mathlib.Core.Bool.{Bool}
use mathlib.Core.List.{List}
use Prim.Native.Nat.{ℕ}
use native.Mathlib.Omega.{arith}
use borrow.Author.Tests.{le-leb, lt-leb}
use lib.ListN.{length}
use Rattle.std.specs.Prelude.{Option, None, Some, Ok, Err}
use Rattle.object.specs.Refusal.{require}
use Rattle.object.specs.declared.program_header.Segment.{Segment}
use Rattle.object.specs.declared.dynamic_fields.ObjectData.{ObjectData}
use Rattle.words.specs.CopyVec.{CopyVec}
use Rattle.object.specs.declared.dynamic_array.DynamicArray.{DynamicArray}
use Rattle.object.specs.DynamicArray.{ends_inside}
use Rattle.object.specs.DynamicTags as DT
use Rattle.object.specs.DynamicFields.{Fields, fields_of, needed_offsets}
use Rattle.object.specs.Steps.FirstOf.{FirstOf}
use Rattle.object.specs.Steps.Slots.{slot_of, field_in, SameFields, ArrayAt}
use Rattle.object.proofs.RefusalLaws.{after_met, after_none}
use Rattle.object.specs.Steps.FieldsRead.{FieldsOf}
use Rattle.object.specs.Record.{Record, held_by, table_in, record_in, sizes_refusal, fields_refusal, tables_ok, read_refusal, record_at}

-- fields that are the same of each tag that has a slot give the same refusal and the same record
module _ (f g : Fields) (same : SameFields f g) where
  pub refusal_same : (ended : Bool) → fields_refusal ended f ≡ fields_refusal ended g
  unfolding fields_refusal sizes_refusal slot_of
  refusal_same ended =
      rw (
        same DT.STRTAB (omega arith),
        same DT.SYMTAB (omega arith),
        same DT.SYMENT (omega arith),
        same DT.RELAENT (omega arith),
        same DT.PLTREL (omega arith),
      )

  pub record_same : (image : List ℕ) (segments : List Segment) (needs : List ℕ) → record_in image segments f needs ≡ record_in image segments g needs
  unfolding record_in table_in slot_of
  record_same image segments needs =
      rw (
        same DT.STRTAB (omega arith),
        same DT.SYMTAB (omega arith),
        same DT.HASH (omega arith),
        same DT.GNU_HASH (omega arith),
        same DT.RELA (omega arith),
        same DT.RELASZ (omega arith),
        same DT.JMPREL (omega arith),
        same DT.PLTRELSZ (omega arith),
        same DT.RELR (omega arith),
        same DT.RELRSZ (omega arith),
      )

module _ (host : Bool) (image : List ℕ) (segments : List Segment) where
  pub read_none : read_refusal host image segments None ≡ 9
  unfolding read_refusal
  read_none = refl

  -- after the array `a` at `at` was read, whose fields have the refusal `n`
  module _
      (at : ℕ) (a : DynamicArray) (r : ArrayAt image at a) (n : ℕ) (e : n ≡ fields_refusal a.ended (field_in a.slots))
    where
      number : n ≡ fields_refusal (ends_inside image at) (fields_of image at)
      number = e ∙ rw r.ended (refusal_same (field_in a.slots) (fields_of image at) r.fields (ends_inside image at))

      pub read_refused : (n ≡ 0 → ⊥) → read_refusal host image segments (Some at) ≡ n
      unfolding read_refusal
      read_refused ne = rw (← number) (after_met n _ ne)

      module _ (z : n ≡ 0) where
        pub read_many : (many : CopyVec ℕ) → a.needs ≡ Err many → read_refusal host image segments (Some at) ≡ 11
        unfolding read_refusal require
        read_many many l =
            let more : FirstOf 64 (needed_offsets image at) (Err many) = rw l at r.needs in
            after_none _ _ (sym number ∙ z) ∙ rw (lt-leb (length (needed_offsets image at)) 64 more.0)

        -- the record, and refusal 12
        pub read_record :
            (needs : CopyVec ℕ) → a.needs ≡ Ok needs → (o : Record)
            → o ≡ record_in image segments (field_in a.slots) needs.items
            → (read_refusal host image segments (Some at) ≡ require (tables_ok host image (record_at image segments (Some at))) 12 0)
            × (o ≡ record_at image segments (Some at))
        unfolding read_refusal record_at require
        read_record needs l o eo =
            let held : FirstOf 64 (needed_offsets image at) (Ok needs) = rw l at r.needs in
            let same : o ≡ record_in image segments (fields_of image at) (needed_offsets image at) =
            eo ∙ (rw held.1 (record_same (field_in a.slots) (fields_of image at) r.fields image segments (needed_offsets image at)))
            in
            (after_none _ _ (sym number ∙ z) ∙ rw (le-leb (length (needed_offsets image at)) 64 held.0), same)

  -- after the fields were read, refusal 12 is left
  pub read_left :
      (d : Option ℕ) (o : ObjectData) → FieldsOf image segments d o → (t : Bool) → t ≡ tables_ok host image (held_by o)
      → read_refusal host image segments d ≡ require t 12 0
  read_left d o f t e =
      f.tables host
      ∙ sym (ap (λ (b : Bool). require b 12 0) e ∙ ap (λ (r : Record). require (tables_ok host image r) 12 0) f.object)
