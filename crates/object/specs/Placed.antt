-- An object checked by its headers and placed: refusals 4 to 8 and 21, and the placed bytes. Document 01, "Placed bytes" ("The host is copied
-- whole; its span is its length") and "The host's keeps no segments"; refusal 7, "Host: length no multiple of 4,096; others: ..";
-- refusal 8, "The span passes the arena's end". Document 02, (a): "21, after 7, a PT_LOAD p_align, the host's excepted". Assumes nothing.
use Rattle.std.specs.Prelude.{Bool, List, [], ◌≡◌, ℕ, ◌%◌, eqb, leb, length, Result, IfOk}
use Rattle.words.specs.Choice.{pick, every}
use Rattle.words.specs.Memory.{Mem, mem, tab, patch}
use Rattle.words.specs.Page.{page_size}
use Rattle.words.specs.Refusal.{refused_by}
use Rattle.words.specs.declared.refusal.Refusal.{Refusal}
use Rattle.object.specs.Refusal.{require, after}
use Rattle.object.specs.Header.{header_refusal}
use Rattle.object.specs.ProgramHeader.{loads_of}
use Rattle.object.specs.Segments.{segments_ok, span_of, placed_of}
use Rattle.object.specs.Alignment.{align_ok, align_of}
use Rattle.object.specs.declared.program_header.Segment.{Segment}
use Rattle.object.specs.declared.object_data.Placed.{Placed}

-- the segments that the record keeps, the span, the alignment, and the placed bytes; `host` says whether the file is the host's
unfoldable pub segments_of : Bool → List ℕ → List Segment
segments_of host file = pick host [] (loads_of file)

unfoldable pub object_span : Bool → List ℕ → ℕ
object_span host file = pick host (length file) (span_of (loads_of file))

unfoldable pub object_align : Bool → List ℕ → ℕ
object_align host file = align_of (segments_of host file)

unfoldable pub object_bytes : Bool → List ℕ → Mem
object_bytes host file = pick host (mem file) (placed_of file)

-- the image of the object: the placed bytes of its span
abbrev pub object_image : Bool → List ℕ → List ℕ
object_image host file = tab (object_span host file) (object_bytes host file)

-- refusals 4 to 7 and 21, by the file alone; the host keeps no segments, so its p_align is not read
unfoldable pub file_refusal : Bool → List ℕ → ℕ
file_refusal host file =
    after (header_refusal file) (require (pick host (eqb (length file % page_size) 0) (segments_ok file (loads_of file))) 7
    (require (every align_ok (segments_of host file)) 21 0))

-- refusals 4 to 8 and 21, where `room` bytes are left in the arena
unfoldable pub place_refusal : Bool → ℕ → List ℕ → ℕ
place_refusal host room file = after (file_refusal host file) (require (leb (object_span host file) room) 8 0)

-- an object that passed the header checks
pub record Checked (host : Bool) (file : List ℕ) (p : Placed) : Type 0 where
  pub passed : file_refusal host file ≡ 0
  pub span : p.span ≡ object_span host file
  pub align : p.align ≡ object_align host file
  pub segments : p.loads.items ≡ segments_of host file

-- what the header checks answer
pub record CheckedBy (host : Bool) (file : List ℕ) (r : Result Placed Refusal) : Type 0 where
  pub refusal : refused_by r ≡ file_refusal host file
  pub placed : IfOk r (Checked host file)

-- what placing leaves of the part of the arena that it is lent: the span's bytes are the placed ones, all others as they were; where it
-- refuses, every byte is as it was
unfoldable pub placed_part : Bool → List ℕ → List ℕ → List ℕ
placed_part host file entry =
    pick (eqb (place_refusal host (length entry) file) 0) (patch entry 0 (object_span host file) (object_bytes host file)) entry

-- what placing answers, and what it leaves in that part
pub record PlacedBy (host : Bool) (file entry exit : List ℕ) (r : Result (Unit {0}) Refusal) : Type 0 where
  pub refusal : refused_by r ≡ place_refusal host (length entry) file
  pub part : exit ≡ placed_part host file entry
