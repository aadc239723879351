-- One object, from its file: refusals 4 to 12 and 21, the placed bytes and the record. Document 01, "Refused, in checking order": "4 to 12 run
-- object by object". All of it hangs on the file, on whether it is the host's, and, for refusal 8, on the room that is left; nothing on
-- where in the arena the object is placed. Assumes nothing.
use Rattle.std.specs.Prelude.{Bool, List, ◌≡◌, ℕ, ◌≤◌, length, Result, IfOk, OnOk}
use Rattle.words.specs.Refusal.{refused_by}
use Rattle.words.specs.declared.refusal.Refusal.{Refusal}
use Rattle.object.specs.Refusal.{after}
use Rattle.object.specs.ProgramHeader.{dynamic_of}
use Rattle.object.specs.Placed.{segments_of, object_span, object_image, place_refusal, placed_part}
use Rattle.object.specs.Record.{Record, held_by, read_refusal, record_at}
use Rattle.object.specs.declared.dynamic_fields.ObjectData.{ObjectData}

-- the record of a file
unfoldable pub object_record : Bool → List ℕ → Record
object_record host file = record_at (object_image host file) (segments_of host file) (dynamic_of file)

-- refusals 4 to 12 and 21, where `room` bytes are left in the arena
unfoldable pub object_refusal : Bool → ℕ → List ℕ → ℕ
object_refusal host room file =
    after (place_refusal host room file) (read_refusal host (object_image host file) (segments_of host file) (dynamic_of file))

-- what loading answers, and what it leaves in the part of the arena that it is lent
pub record LoadedBy (host : Bool) (file entry exit : List ℕ) (r : Result ObjectData Refusal) : Type 0 where
  pub refusal : refused_by r ≡ object_refusal host (length entry) file
  pub object : IfOk r (λ o. held_by o ≡ object_record host file)
  -- what placing leaves, where reading refuses too: as it was after 4 to 8, the placed bytes after 9 to 12
  pub part : exit ≡ placed_part host file entry
  pub fits : OnOk r (object_span host file ≤ length entry)
