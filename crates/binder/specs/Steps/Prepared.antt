-- Preparing a set: refusals 2 to 12 and 21, and its objects loaded one after another, in the code's order. Document 01, "Refused, in checking
-- order"; "Placed bytes": "Host at arena offset 0, then each object at the next free offset"; document 02, (a). `Bind` has what it comes to.
-- Assumes nothing.
use Rattle.std.specs.Prelude.{◌≡◌, ℕ, ◌+◌, ◌-◌, ◌≤◌, Bool, List, [], ◌∷◌, length, Result, Ok, Err}
use Rattle.words.specs.Memory.{Mem, mem, write, patch}
use Rattle.object.specs.Placed.{object_span, object_bytes}
use Rattle.object.specs.Record.{view_of}
use Rattle.object.specs.Loaded.{object_refusal}
use Rattle.sheet.specs.Sheet.{Input}
use Rattle.binder.specs.Setting.{Setting}
use Rattle.binder.specs.Instance.{File, file_record, offset_of}
use Rattle.binder.specs.Verdict.{Verdict, passed, first, verdict}
use Rattle.binder.specs.Bind.{files_of, prepare_verdict}
use Rattle.scope.specs.Steps.Links.{link_at, count_in, address_in, FilteredBelow, Filtered}
use Rattle.scope.specs.declared.links.Link.{Link}
use Rattle.words.specs.Refusal.{refusal_number}
use Rattle.words.specs.declared.refusal.Refusal.{Refusal}

-- 4 to 12 and 21 of the files from object `k` on, in an arena of `size` bytes whose next free offset is `free`
unfoldable pub load_from : Setting → ℕ → ℕ → ℕ → List File → Verdict
load_from setting size k free [] = passed
load_from setting size k free (f ∷ fs) =
    first (verdict (object_refusal f.host (size - offset_of setting f free) f.bytes) k)
    (load_from setting size (k + 1) (offset_of setting f free + object_span f.host f.bytes) fs)

-- the link of a file at an offset
abbrev pub link_of : File → ℕ → Link
link_of f off = record { offset = off; span = object_span f.host f.bytes; view = view_of (file_record f) }

-- the files placed one after another from `free` on
unfoldable pub place_files : Setting → List File → ℕ → Mem → Mem
place_files setting [] free m = m
place_files setting (f ∷ fs) free m =
    place_files setting fs (offset_of setting f free + object_span f.host f.bytes)
    (write m (offset_of setting f free) (object_span f.host f.bytes) (object_bytes f.host f.bytes))

-- the table has the links of the files from object `k` on, `free` being the next free offset
unfoldable pub Linked : Setting → List ℕ → ℕ → ℕ → List File → Type 0
Linked setting table k free [] = Unit {0}
Linked setting table k free (f ∷ fs) =
    (link_at table k ≡ link_of f (offset_of setting f free))
    × Linked setting table (k + 1) (offset_of setting f free + object_span f.host f.bytes) fs

-- a file of which no refusal was met, placed at an offset: its link, and what it leaves
pub record LinkedAt (host : Bool) (file : List ℕ) (off : ℕ) (before after : List ℕ) (s : Link) : Type 0 where
  pub refusal : object_refusal host (length before - off) file ≡ 0
  pub link : s ≡ link_of (record { host = host; bytes = file }) off
  pub arena : mem after ≡ write (mem before) off (object_span host file) (object_bytes host file)
  pub fits : off + object_span host file ≤ length before

-- what loading a file at an offset answers and leaves
abbrev pub LoadedAt : Bool → List ℕ → ℕ → List ℕ → List ℕ → Result Link Refusal → Type 0
LoadedAt host file off before after (Err e) = refusal_number e ≡ object_refusal host (length before - off) file
LoadedAt host file off before after (Ok s) = LinkedAt host file off before after s

-- the arena with zeros from the next free offset to an object's
abbrev pub gapped : List ℕ → ℕ → ℕ → List ℕ
gapped before free off = patch before free (off - free) (λ _. 0)

-- what loading a file where it goes answers and leaves
abbrev pub LoadedNext : Setting → File → ℕ → List ℕ → List ℕ → Result Link Refusal → Type 0
LoadedNext setting f free before after (Err e) = refusal_number e ≡ object_refusal f.host (length before - offset_of setting f free) f.bytes
LoadedNext setting f free before after (Ok s) =
    LinkedAt f.host f.bytes (offset_of setting f free) (gapped before free (offset_of setting f free)) after s

-- what loading a list of files leaves: their bytes, and zeros elsewhere, whatever the arena held before
pub record LoadedFiles (setting : Setting) (files : List File) (before after links : List ℕ) (r : Verdict) : Type 0 where
  pub met : r ≡ load_from setting (length before) 0 0 files
  pub arena : r ≡ passed → mem after ≡ place_files setting files 0 (λ _. 0)
  pub table : r ≡ passed → Linked setting links 0 0 files
  pub filtered : r ≡ passed → FilteredBelow links (length files)

-- what preparing a set leaves, where `types` is met between 2 and 3
pub record Prepared (setting : Setting) (types : Verdict) (os : List Input) (before after links : List ℕ) (r : Verdict) : Type 0 where
  pub met : r ≡ prepare_verdict setting types os (length before)
  pub arena : r ≡ passed → mem after ≡ place_files setting (files_of os) 0 (λ _. 0)
  pub table : r ≡ passed → Linked setting links 0 0 (files_of os)
  pub filtered : r ≡ passed → Filtered links
  pub counted : r ≡ passed → count_in links ≡ length os
  pub addressed : r ≡ passed → address_in links ≡ setting.address
