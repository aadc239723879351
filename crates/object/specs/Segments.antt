-- The load segments: which are refused, the span, and the placed bytes. Document 01, "Placed bytes" and refusal 7; System V gABI,
-- "Program Header" and "Program Loading". Assumes nothing.
use Rattle.std.specs.Prelude.{Bool, true, not, List, [], ◌∷◌, ℕ, ◌+◌, ◌-◌, ◌/◌, ◌%◌, ◌^◌, max, eqb, leb, length}
use Rattle.words.specs.Choice.{both, either, every, some}
use Rattle.words.specs.Memory.{Mem, mem, tab, from, write}
use Rattle.words.specs.Page.{page_size, page_start, page_end}
use Rattle.object.specs.Header.{table_end}
use Rattle.object.specs.ProgramHeader.{loads_of}
use Rattle.object.specs.TableBytes.{is_writable}
use Rattle.object.specs.declared.program_header.Segment.{Segment}

-- ---- refusal 7

-- a "PT_LOAD with offset and vaddr 0", "its file bytes" holding the header table, which ends at `end`
unfoldable pub holds_headers : ℕ → Segment → Bool
holds_headers end s = both (eqb s.offset 0) (both (eqb s.vaddr 0) (leb end s.filesz))

-- PF_R
abbrev pub is_readable : Segment → Bool
is_readable s = eqb (s.flags / 4 % 2) 1

-- not "one with p_memsz 0, p_filesz over p_memsz, file end passed", of a file of `n` bytes
unfoldable pub sizes_ok : ℕ → Segment → Bool
sizes_ok n s = both (not (eqb s.memsz 0)) (both (leb s.filesz s.memsz) (leb (s.offset + s.filesz) n))

-- not "end over 2^28, offset and vaddr unequal modulo 4,096"
unfoldable pub address_ok : Segment → Bool
address_ok s = both (leb (s.vaddr + s.memsz) (2 ^ 28)) (eqb (s.offset % page_size) (s.vaddr % page_size))

-- not "no read flag, zero fill without write flag"
unfoldable pub flags_ok : Segment → Bool
flags_ok s = both (is_readable s) (either (leb s.memsz s.filesz) (is_writable s))

unfoldable pub segment_ok : ℕ → Segment → Bool
segment_ok n s = both (sizes_ok n s) (both (address_ok s) (flags_ok s))

-- not "a page shared with another"
unfoldable pub pages_apart : Segment → Segment → Bool
pages_apart s t =
    either (leb (page_end (s.vaddr + s.memsz)) (page_start t.vaddr)) (leb (page_end (t.vaddr + t.memsz)) (page_start s.vaddr))

unfoldable pub all_apart : List Segment → Bool
all_apart [] = true
all_apart (s ∷ ss) = both (every (pages_apart s) ss) (all_apart ss)

-- the segments are not refused
unfoldable pub segments_ok : List ℕ → List Segment → Bool
segments_ok file segments =
    both (leb (length segments) 16)
    (both (some (holds_headers (table_end file)) segments)
    (both (every (segment_ok (length file)) segments) (all_apart segments)))

-- ---- the span: "from 0 to the largest p_vaddr + p_memsz of PT_LOAD (1), rounded up to a page"

unfoldable pub end_of : List Segment → ℕ
end_of [] = 0
end_of (s ∷ ss) = max (s.vaddr + s.memsz) (end_of ss)

abbrev pub span_of : List Segment → ℕ
span_of segments = page_end (end_of segments)

-- ---- placing

-- how many "file bytes from p_offset rounded down to a page, through p_offset + p_filesz rounded up" there are; none where the unrounded
-- length, p_offset + p_filesz less p_offset rounded down, is 0
abbrev pub file_bytes : Segment → ℕ
file_bytes s = page_end (s.offset + s.filesz) - page_start s.offset

-- they "go to p_vaddr rounded down; past the file's end they are 0"; "Then p_filesz to p_memsz is zeroed"
unfoldable pub place_segment : List ℕ → Segment → Mem → Mem
place_segment file s m =
    write (write m (page_start s.vaddr) (file_bytes s) (from (page_start s.offset) (mem file))) (s.vaddr + s.filesz)
    (s.memsz - s.filesz) (λ _. 0)

-- "For each PT_LOAD", in the order of the headers
unfoldable pub place_segments : List ℕ → List Segment → Mem → Mem
place_segments file [] m = m
place_segments file (s ∷ ss) m = place_segments file ss (place_segment file s m)

-- the placed bytes of a file: "The rest .. is 0"
unfoldable pub placed_of : List ℕ → Mem
placed_of file = place_segments file (loads_of file) (λ _. 0)

abbrev pub segments_image : List ℕ → List ℕ
segments_image file = tab (span_of (loads_of file)) (placed_of file)
