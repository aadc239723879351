-- What to call to start and to stop a bound set, and when. System V gABI, "Initialization and Termination Functions", and "Dynamic Section"
-- (DT_INIT 12, DT_FINI 13, DT_INIT_ARRAY 25, DT_FINI_ARRAY 26, their sizes 27 and 28, DT_PREINIT_ARRAY 32 and its size 33); document 02, (g): "The
-- service wants the start and stop functions as two lists of 64-bit addresses, each with its count, from a call of its own that binds first."
-- Tags and counts are those of the placed file, words those of the bound arena. Assumes nothing.
use Rattle.std.specs.Prelude.{Bool, not, List, [], ◌∷◌, ◌++◌, reverse, ℕ, ◌+◌, ◌-◌, ◌*◌, eqb, leb, length, get_or, replicate, Option, None, Some, unwrap_or, Result, Ok, Err}
use Rattle.words.specs.Choice.{pick, both, either}
use Rattle.words.specs.Memory.{Mem, mem, tab, from}
use Rattle.words.specs.Words.{le_at, sum64}
use Rattle.model.specs.Objects.{Obj, Objs, obj}
use Rattle.object.specs.DynamicTags as DT
use Rattle.object.specs.DynamicFields.{Fields, fields_of}
use Rattle.object.specs.ProgramHeader.{dynamic_of}
use Rattle.object.specs.Record.{entry_count}
use Rattle.sheet.specs.Sheet.{Input, set_of}
use Rattle.binder.specs.declared.Policy.{Policy}
use Rattle.binder.specs.declared.Refused.{Refused}
use Rattle.start_stop.specs.declared.Counts.{Counts}
use Rattle.start_stop.specs.declared.rows.Array.{Array}
use Rattle.binder.specs.Setting.{Setting}
use Rattle.binder.specs.Instance.{File, file_image}
use Rattle.binder.specs.Verdict.{Verdict, passed, refused, first, no_file}
use Rattle.binder.specs.SetOrder.{set_order}
use Rattle.binder.specs.Bind.{files_of, names_of, objects_of, unless, Outcome, outcome, bind_of}

-- ---- what an object gives

-- the fields of the dynamic array that stands there
abbrev pub fields_at : List ℕ → Option ℕ → Fields
fields_at image None = λ tag. None
fields_at image (Some at) = fields_of image at

-- a file's, as it was placed
abbrev pub placed_fields : File → Fields
placed_fields f = fields_at (file_image f) (dynamic_of f.bytes)

-- an array of functions (Array): where it starts in its object, and how many words it has. "An array's count is its byte size divided by 8, 0 where size or pointer is missing"
abbrev pub array_of : Fields → ℕ → ℕ → Array
array_of f pointer size = record { at = unwrap_or (f pointer) 0; count = entry_count (f pointer) (f size) 8 }

-- what is called of an object: DT_INIT and DT_FINI by their values, 0 where there is none, and three arrays; `bytes` are the arena's from
-- the object's offset on
pub record Calls : Type 0 where
  pub base : ℕ
  pub span : ℕ
  pub bytes : Mem
  pub init : ℕ
  pub fini : ℕ
  pub preinits : Array
  pub inits : Array
  pub finis : Array

abbrev pub calls_of : Obj → Fields → List ℕ → Calls
calls_of o f arena =
    record {
      base = o.base;
      span = o.span;
      bytes = from o.offset (mem arena);
      init = unwrap_or (f DT.INIT) 0;
      fini = unwrap_or (f DT.FINI) 0;
      preinits = array_of f DT.PREINIT_ARRAY DT.PREINIT_ARRAYSZ;
      inits = array_of f DT.INIT_ARRAY DT.INIT_ARRAYSZ;
      finis = array_of f DT.FINI_ARRAY DT.FINI_ARRAYSZ;
    }

-- of object `k` of a set that was bound in that arena
abbrev pub calls_in : Objs → List File → List ℕ → ℕ → Calls
calls_in S files arena k = calls_of (obj S k) (placed_fields (get_or files k no_file)) arena

-- "Array words are read after relocation, 0 listed too"
unfoldable pub words_of : Mem → Array → List ℕ
words_of bytes a = tab a.count (λ i. le_at 8 bytes (a.at + 8 * i))

-- "its DT_INIT, if present and its value is not 0"; "DT_INIT and DT_FINI gain base modulo 2^64"
unfoldable pub function_of : ℕ → ℕ → List ℕ
function_of base value = pick (eqb value 0) [] (sum64 base value ∷ [])

-- "its DT_INIT .., and its init array from first to last"
unfoldable pub starts_of : Calls → List ℕ
starts_of c = function_of c.base c.init ++ words_of c.bytes c.inits

-- "fini array from last to first, then DT_FINI under the same condition"
unfoldable pub stops_of : Calls → List ℕ
stops_of c = reverse (words_of c.bytes c.finis) ++ function_of c.base c.fini

-- ---- the lists of a set, whose object `k` gives `calls k`

-- what the objects of a list give, one after another
unfoldable pub in_turn : (ℕ → List ℕ) → List ℕ → List ℕ
in_turn gives [] = []
in_turn gives (k ∷ ks) = gives k ++ in_turn gives ks

-- "the program's preinit array; then per object in binding order .."; the order has program and libraries: "The host gives none"
unfoldable pub start_list : (ℕ → Calls) → List ℕ → List ℕ
start_list calls order = words_of (calls 1).bytes (calls 1).preinits ++ in_turn (λ k. starts_of (calls k)) order

-- "Stopping goes through the objects backwards"
unfoldable pub stop_list : (ℕ → Calls) → List ℕ → List ℕ
stop_list calls order = in_turn (λ k. stops_of (calls k)) (reverse order)

-- ---- refusals 26 and 27

-- not 26: "a non-empty array .. whose counted words are not wholly in its object's span"
unfoldable pub in_span : ℕ → Array → Bool
in_span span a = either (eqb a.count 0) (leb (a.at + 8 * a.count) span)

-- the arrays that are listed of object `k`; a preinit array is the program's
unfoldable pub arrays_ok : ℕ → Calls → Bool
arrays_ok k c =
    both (in_span c.span c.inits) (both (in_span c.span c.finis) (either (not (eqb k 1)) (in_span c.span c.preinits)))

-- "first such object in binding order"
unfoldable pub arrays_verdict : (ℕ → Calls) → List ℕ → Verdict
arrays_verdict calls [] = passed
arrays_verdict calls (k ∷ ks) = first (unless (arrays_ok k (calls k)) 26 k) (arrays_verdict calls ks)

-- 26, then "27, a list slice too short (object 0)": of `starts` and `stops` words
unfoldable pub lists_verdict : (ℕ → Calls) → List ℕ → ℕ → ℕ → Verdict
lists_verdict calls order starts stops =
    first (arrays_verdict calls order)
    (unless (both (leb (length (start_list calls order)) starts) (leb (length (stop_list calls order)) stops)) 27 0)

-- ---- the call

-- a refusal, or how many words each list has
abbrev pub Lists : Type 0
Lists = Result Counts Refused

abbrev pub counted : ℕ → ℕ → Lists
counted start stop = Ok (record { start = start; stop = stop })

-- the answer, and what the call leaves in arena, report and lists
pub data Listing : Type 0 where
  listing : (answer : Lists) (arena report start stop : List ℕ) → Listing

-- "Any refusal leaves zeros in the lists too"
abbrev pub refused_lists : ℕ → ℕ → ℕ → ℕ → ℕ → ℕ → Listing
refused_lists size words starts stops n k =
    listing (refused n k) (replicate size 0) (replicate words 0) (replicate starts 0) (replicate stops 0)

-- "Unused list words are 0"
abbrev pub padded : ℕ → List ℕ → List ℕ
padded n ws = ws ++ replicate (n - length ws) 0

-- a refusal; else the lists, each with its count
unfoldable pub listing_of : ℕ → ℕ → Verdict → List ℕ → List ℕ → List ℕ → List ℕ → Listing
listing_of starts stops (Err r) arena report start stop = refused_lists (length arena) (length report) starts stops r.number r.object
listing_of starts stops passed arena report start stop =
    listing (counted (length start) (length stop)) arena report (padded starts start) (padded stops stop)

-- a refusal, or the lists, in slices of `starts` and `stops` words
unfoldable pub list_by : (ℕ → Calls) → List ℕ → ℕ → ℕ → List ℕ → List ℕ → Listing
list_by calls order starts stops arena report =
    listing_of starts stops (lists_verdict calls order starts stops) arena report (start_list calls order) (stop_list calls order)

-- "a call of its own that binds first": a refusal of `bind`, or the lists of the set in the arena that it left
unfoldable pub then_list : Setting → List Input → ℕ → ℕ → Outcome → Listing
then_list setting os starts stops (outcome (Err r) arena report) =
    refused_lists (length arena) (length report) starts stops r.number r.object
then_list setting os starts stops (outcome passed arena report) =
    list_by (calls_in (objects_of setting (files_of os)) (files_of os) arena) (set_order (files_of os) (names_of os)) starts stops arena report

-- what `start_stop` answers for a sheet and its bytes
unfoldable pub start_stop_of : Setting → List ℕ → List ℕ → ℕ → Policy → ℕ → ℕ → ℕ → Listing
start_stop_of setting sheet bytes size policy words starts stops =
    then_list setting (set_of sheet bytes) starts stops (bind_of setting sheet bytes size policy words)
