-- What `read_fields` answers: refusals 9 to 11, and the record before its tables are looked at. Assumes nothing.
use Rattle.std.specs.Prelude.{Bool, List, ◌≡◌, ℕ, Option, Result, Ok, Err}
use Rattle.words.specs.Refusal.{refusal_number}
use Rattle.words.specs.declared.refusal.Refusal.{Refusal}
use Rattle.object.specs.Refusal.{require}
use Rattle.object.specs.declared.program_header.Segment.{Segment}
use Rattle.object.specs.declared.dynamic_fields.ObjectData.{ObjectData}
use Rattle.object.specs.Record.{held_by, tables_ok, read_refusal, record_at}
use Rattle.object.specs.Steps.RecordBounds.{RelocationCounts}

-- not refused: refusal 12 is left
pub record FieldsOf (image : List ℕ) (segments : List Segment) (d : Option ℕ) (o : ObjectData) : Type 0 where
  pub tables : (host : Bool) → read_refusal host image segments d ≡ require (tables_ok host image (record_at image segments d)) 12 0
  pub object : held_by o ≡ record_at image segments d
  pub counts : RelocationCounts o

-- refused: whether it is the host or not
abbrev pub FieldsRead : List ℕ → List Segment → Option ℕ → Result ObjectData Refusal → Type 0
FieldsRead image segments d (Ok o) = FieldsOf image segments d o
FieldsRead image segments d (Err e) = (host : Bool) → read_refusal host image segments d ≡ refusal_number e
