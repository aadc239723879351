-- What the code reads of the placed objects, a row for each, and what is called by these rows of a bound set. Assumes nothing.
use Rattle.std.specs.Prelude.{List, ◌≡◌, ℕ, ◌^◌, ◌≤◌, ◌<◌, length, get_or, unwrap_or}
use Rattle.words.specs.Memory.{Mem, mem, from}
use Rattle.words.specs.Words.{sum64}
use Rattle.object.specs.DynamicTags as DT
use Rattle.object.specs.DynamicFields.{Fields}
use Rattle.object.specs.ProgramHeader.{dynamic_of}
use Rattle.sheet.specs.Sheet.{Input, no_input}
use Rattle.scope.specs.Steps.Links.{link_at, address_in}
use Rattle.scope.specs.Steps.ScopeCode.{image_at}
use Rattle.start_stop.specs.declared.rows.Array.{Array}
use Rattle.start_stop.specs.declared.rows.Row.{Row}
use Rattle.start_stop.specs.StartStop.{fields_at, array_of, Calls}

-- the row of an object with these fields
unfoldable pub row_of : Fields → Row
row_of f =
    record {
      init = unwrap_or (f DT.INIT) 0;
      fini = unwrap_or (f DT.FINI) 0;
      preinits = array_of f DT.PREINIT_ARRAY DT.PREINIT_ARRAYSZ;
      inits = array_of f DT.INIT_ARRAY DT.INIT_ARRAYSZ;
      finis = array_of f DT.FINI_ARRAY DT.FINI_ARRAYSZ;
    }

-- an object that calls nothing
abbrev pub no_array : Array
no_array = record { at = 0; count = 0 }

abbrev pub no_row : Row
no_row = record { init = 0; fini = 0; preinits = no_array; inits = no_array; finis = no_array }

-- the row of object `k`; none past the table's end
abbrev pub row_at : List Row → ℕ → Row
row_at rows k = get_or rows k no_row

-- the fields of object `k` of a loaded set
abbrev pub fields_in : List Input → List ℕ → List ℕ → ℕ → Fields
fields_in os arena table k = fields_at (image_at arena (link_at table k)) (dynamic_of (get_or os k no_input).file)

-- the rows of program and libraries have them
abbrev pub RowsRead : List Input → ℕ → List ℕ → List ℕ → List Row → Type 0
RowsRead os count arena table rows = (k : ℕ) → 1 ≤ k → k < count → row_at rows k ≡ row_of (fields_in os arena table k)

-- ---- what is called of object `k`, by the tables

abbrev pub base_at : List ℕ → ℕ → ℕ
base_at table k = sum64 (address_in table) (link_at table k).offset

abbrev pub bytes_at : List ℕ → List ℕ → ℕ → Mem
bytes_at arena table k = from (link_at table k).offset (mem arena)

abbrev pub calls_at : List ℕ → List ℕ → List Row → ℕ → Calls
calls_at arena table rows k =
    record {
      base = base_at table k;
      span = (link_at table k).span;
      bytes = bytes_at arena table k;
      init = (row_at rows k).init;
      fini = (row_at rows k).fini;
      preinits = (row_at rows k).preinits;
      inits = (row_at rows k).inits;
      finis = (row_at rows k).finis;
    }

-- the arrays of object `k` have at most 2^25 words, as all that lie in a span do
pub record FewWords (rows : List Row) (k : ℕ) : Type 0 where
  pub inits : (row_at rows k).inits.count ≤ 2 ^ 25
  pub finis : (row_at rows k).finis.count ≤ 2 ^ 25

-- the same of the objects of a list
abbrev pub AllFew : List Row → List ℕ → Type 0
AllFew rows order = (i : ℕ) → i < length order → FewWords rows (get_or order i 0)

-- the numbers of an order have spans of at most 2^28, as refusal 2 lets them be, and the program is one of them
pub record InOrder (table order : List ℕ) : Type 0 where
  pub spans : (i : ℕ) → i < length order → (link_at table (get_or order i 0)).span ≤ 2 ^ 28
  pub place : ℕ
  pub there : place < length order
  pub program : get_or order place 0 ≡ 1
