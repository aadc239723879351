-- Document 02, (g), "What to call, and when": cases of what an object gives, of both lists of a set and of refusals 26 and 27, each for all
-- bytes, tags or sets of which the facts before the arrow hold. Words in quotes are document 02's. Each stands for one way to read the
-- request wrongly. Assumes nothing.
use Rattle.std.specs.Prelude.{true, false, List, [], ◌∷◌, ◌≡◌, ℕ, ◌-◌, ◌^◌, eqb, leb, length, get_or, None, Some}
use Rattle.words.specs.Choice.{pick}
use Rattle.words.specs.Memory.{Mem, mem, tab, from}
use Rattle.words.specs.Words.{le_at, sum64}
use Rattle.model.specs.Objects.{Obj, Objs, obj}
use Rattle.object.specs.DynamicTags as DT
use Rattle.object.specs.DynamicFields.{Fields}
use Rattle.object.specs.ProgramHeader.{dynamic_of}
use Rattle.binder.specs.Instance.{File}
use Rattle.binder.specs.Verdict.{passed, refused, no_file}
use Rattle.start_stop.specs.declared.rows.Array.{Array}
use Rattle.start_stop.specs.StartStop.{
  fields_at,
  placed_fields,
  array_of,
  Calls,
  calls_of,
  calls_in,
  function_of,
  starts_of,
  stops_of,
  start_list,
  stop_list,
  in_span,
  arrays_ok,
  arrays_verdict,
  lists_verdict,
}

-- an array of `count` words at `at`
abbrev pub words_at : ℕ → ℕ → Array
words_at at count = record { at = at; count = count }

-- what an object of 40 bytes gives that has all: DT_INIT, DT_FINI, a preinit array of one word, an init and a fini array of two
abbrev pub full_calls : ℕ → Mem → Calls
full_calls base bytes =
    record {
      base = base;
      span = 40;
      bytes = bytes;
      init = 0x1000;
      fini = 0x2000;
      preinits = words_at 0 1;
      inits = words_at 8 2;
      finis = words_at 24 2;
    }

-- a program with the bytes `p` and a library with the bytes `l`, both of that kind, and the order in which they are bound
abbrev pub pair_of : Mem → Mem → ℕ → Calls
pair_of p l k = pick (eqb k 1) (full_calls 0x10000000 p) (full_calls 0x20000000 l)

abbrev pub pair_order : List ℕ
pair_order = 2 ∷ (1 ∷ [])

-- the fields of object `k` as they would be read in the arena after relocation
abbrev pub arena_fields : Objs → List File → List ℕ → ℕ → Fields
arena_fields S files arena k =
    fields_at (tab (obj S k).span (from (obj S k).offset (mem arena))) (dynamic_of (get_or files k no_file).bytes)

-- of one object
pub record ObjectCalls : Type 0 where
  -- "its DT_INIT, if present and its value is not 0"; "DT_INIT and DT_FINI gain base modulo 2^64"
  pub value_0 : (base : ℕ) → function_of base 0 ≡ []
  pub value_1 : function_of 0x10000000 1 ≡ 0x10000001 ∷ []
  pub wraps : function_of 0x10000000 (2 ^ 64 - 0x1000) ≡ 0xFFFF000 ∷ []
  -- "its DT_INIT .., and its init array from first to last": the array's words as they stand, 0 too, without base
  pub starts : (base : ℕ) (m : Mem) → starts_of (full_calls base m) ≡ sum64 base 0x1000 ∷ (le_at 8 m 8 ∷ (le_at 8 m 16 ∷ []))
  -- "fini array from last to first, then DT_FINI"
  pub stops : (base : ℕ) (m : Mem) → stops_of (full_calls base m) ≡ le_at 8 m 32 ∷ (le_at 8 m 24 ∷ (sum64 base 0x2000 ∷ []))
  -- "An array's count is its byte size divided by 8, 0 where size or pointer is missing"
  pub size_23 :
      (f : Fields) → f DT.FINI_ARRAY ≡ Some 24 → f DT.FINI_ARRAYSZ ≡ Some 23
      → array_of f DT.FINI_ARRAY DT.FINI_ARRAYSZ ≡ words_at 24 2
  pub no_pointer : (f : Fields) → f DT.FINI_ARRAY ≡ None → array_of f DT.FINI_ARRAY DT.FINI_ARRAYSZ ≡ words_at 0 0
  pub no_size :
      (f : Fields) → f DT.FINI_ARRAY ≡ Some 24 → f DT.FINI_ARRAYSZ ≡ None
      → array_of f DT.FINI_ARRAY DT.FINI_ARRAYSZ ≡ words_at 24 0
  -- "Array words are read after relocation": from the arena, not from the placed bytes
  pub relocated_words :
      (o : Obj) (f : Fields) (arena : List ℕ) → f DT.INIT ≡ None → f DT.INIT_ARRAY ≡ Some 16 → f DT.INIT_ARRAYSZ ≡ Some 8
      → starts_of (calls_of o f arena) ≡ le_at 8 (from o.offset (mem arena)) 16 ∷ []
  -- tags are those of the placed file, also where relocation wrote over them
  pub placed_tags :
      (S : Objs) (files : List File) (arena : List ℕ) (k : ℕ)
      → placed_fields (get_or files k no_file) DT.INIT ≡ Some 0x1000 → arena_fields S files arena k DT.INIT ≡ Some 0x3000
      → (calls_in S files arena k).init ≡ 0x1000

-- of the pair
pub record PairCalls : Type 0 where
  -- "the program's preinit array", no library's; "then per object in binding order"
  pub start_list_lem :
      (p l : Mem)
      → start_list (pair_of p l) pair_order
      ≡ le_at 8 p 0 ∷ (0x20001000 ∷ (le_at 8 l 8 ∷ (le_at 8 l 16 ∷ (0x10001000 ∷ (le_at 8 p 8 ∷ (le_at 8 p 16 ∷ []))))))
  -- "Stopping goes through the objects backwards"
  pub stop_list_lem :
      (p l : Mem)
      → stop_list (pair_of p l) pair_order
      ≡ le_at 8 p 32 ∷ (le_at 8 p 24 ∷ (0x10002000 ∷ (le_at 8 l 32 ∷ (le_at 8 l 24 ∷ (0x20002000 ∷ [])))))
  -- "27, a list slice too short (object 0)": 7 words start, 6 stop
  pub slices_fit : (p l : Mem) → lists_verdict (pair_of p l) pair_order 7 6 ≡ passed
  pub start_short : (p l : Mem) → lists_verdict (pair_of p l) pair_order 6 6 ≡ refused 27 0
  pub stop_short : (p l : Mem) → lists_verdict (pair_of p l) pair_order 7 5 ≡ refused 27 0

-- 26, and 27 after it
pub record ArrayRefusals : Type 0 where
  -- "a non-empty array listed here whose counted words are not wholly in its object's span": a library's preinit array is not listed
  pub to_the_end : in_span 40 (words_at 24 2) ≡ true
  pub past_the_end : in_span 40 (words_at 25 2) ≡ false
  pub empty : (span at : ℕ) → in_span span (words_at at 0) ≡ true
  pub library_preinit : (c : Calls) → in_span c.span c.inits ≡ true → in_span c.span c.finis ≡ true → arrays_ok 2 c ≡ true
  pub program_preinit :
      (c : Calls) → in_span c.span c.inits ≡ true → in_span c.span c.finis ≡ true → in_span c.span c.preinits ≡ false
      → arrays_ok 1 c ≡ false
  -- "first such object in binding order"
  pub first_in_order :
      (calls : ℕ → Calls) → arrays_ok 2 (calls 2) ≡ false → arrays_ok 1 (calls 1) ≡ false → arrays_verdict calls pair_order ≡ refused 26 2
  -- 26 before 27
  pub refusal_26_first :
      (calls : ℕ → Calls) (order : List ℕ) (starts stops k : ℕ) → arrays_verdict calls order ≡ refused 26 k
      → leb (length (start_list calls order)) starts ≡ false → lists_verdict calls order starts stops ≡ refused 26 k

pub record StartStopCases : Type 0 where
  pub of_objects : ObjectCalls
  pub of_pairs : PairCalls
  pub of_arrays : ArrayRefusals
