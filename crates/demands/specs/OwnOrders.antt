-- What is proved of `bind_ordered`, over sheets and bytes. Document 02, (l), "A builder's own order"; demand 1. Words in quotes are document
-- 02's. That b precedes a where a needs b is claimed of document 01's order alone (OrderReport). Assumes nothing.
use Rattle.std.specs.Prelude.{Bool, true, false, not, List, [], ◌∷◌, ◌⊎◌, ◌≡◌, ℕ, ◌/◌, ◌^◌, eqb, length, replicate, Err}
use Rattle.words.specs.Choice.{pick, both, some}
use Rattle.model.specs.Order.{OnceEach}
use Rattle.sheet.specs.Sheet.{sheet_ok, set_of}
use Rattle.binder.specs.declared.Policy.{Policy}
use Rattle.binder.specs.Setting.{Setting, setting_of}
use Rattle.binder.specs.Report.{report_word}
use Rattle.binder.specs.SetOrder.{set_order}
use Rattle.binder.specs.Bind.{files_of, names_of, prepare_verdict, types_verdict, relocate_verdict, Outcome, outcome, refused_bind, bind_of}
use Rattle.binder.specs.OwnOrder.{is_order, is_copy, library_copies, may_take, bind_ordered_of}
use Rattle.demands.specs.LongerSet.{set_objects}
use Rattle.demands.specs.OrderReport.{numbers_of}
use Rattle.demands.specs.FieldCases.{entry}
use Rattle.demands.specs.Refusals.{BindNumber, ObjectOf}
use Rattle.binder.specs.Verdict.{Verdict, passed, refused}

-- ---- which orders are taken: cases of two libraries, and of none

pub record OrderCases : Type 0 where
  -- "each library once, then the program"
  pub ascending : is_order 2 (2 ∷ 3 ∷ 1 ∷ []) ≡ true
  pub descending : is_order 2 (3 ∷ 2 ∷ 1 ∷ []) ≡ true
  pub alone : is_order 0 (1 ∷ []) ≡ true
  pub program_first : is_order 2 (1 ∷ 2 ∷ 3 ∷ []) ≡ false
  pub program_missing : is_order 2 (2 ∷ 3 ∷ []) ≡ false
  pub library_twice : is_order 2 (2 ∷ 2 ∷ 1 ∷ []) ≡ false
  pub library_missing : is_order 2 (3 ∷ 1 ∷ []) ≡ false
  -- "and nothing else"
  pub host : is_order 2 (0 ∷ 2 ∷ 3 ∷ 1 ∷ []) ≡ false
  pub program_twice : is_order 2 (1 ∷ 2 ∷ 3 ∷ 1 ∷ []) ≡ false
  pub no_object : is_order 2 (2 ∷ 3 ∷ 4 ∷ 1 ∷ []) ≡ false
  pub word_after : is_order 2 (2 ∷ 3 ∷ 1 ∷ 0 ∷ []) ≡ false
  pub empty : is_order 2 [] ≡ false
  pub empty_alone : is_order 0 [] ≡ false
  -- a COPY entry has type 5: whatever its place, its symbol and what a search for it answers, and among other entries too
  pub copy : (p s a : ℕ) → is_copy (entry p 5 s a) ≡ true
  pub copy_of_nothing : some is_copy (entry 0x1000 8 0 0 ∷ entry 0 5 0 0 ∷ []) ≡ true
  -- all 32 bits of the type count
  pub high_bit : (p s a : ℕ) → is_copy (entry p 0x80000005 s a) ≡ false
  pub address : (p s a : ℕ) → is_copy (entry p 6 s a) ≡ false

-- ---- "35, after 12 .. [has] passed every object, an order that may not be taken (object 0)"

pub record OrderRefused : Type 0 where
  -- what bind refuses before any entry is refused so, whatever the order
  pub loading :
      (setting : Setting) (sheet bytes : List ℕ) (size : ℕ) (policy : Policy) (words : ℕ) (order : List ℕ) (n k : ℕ)
      → sheet_ok sheet (length bytes) ≡ true
      → prepare_verdict setting (types_verdict setting) (set_of sheet bytes) size ≡ refused n k
      → bind_ordered_of setting sheet bytes size policy words order ≡ refused_bind size words n k
  -- then 35, whatever the entries
  pub not_taken :
      (setting : Setting) (sheet bytes : List ℕ) (size : ℕ) (policy : Policy) (words : ℕ) (order : List ℕ)
      → sheet_ok sheet (length bytes) ≡ true
      → prepare_verdict setting (types_verdict setting) (set_of sheet bytes) size ≡ passed
      → may_take (files_of (set_of sheet bytes)) (names_of (set_of sheet bytes)) order ≡ false
      → bind_ordered_of setting sheet bytes size policy words order ≡ refused_bind size words 35 0
  -- then 14 to 20, 22, 25 and 28, in that order
  pub entries :
      (setting : Setting) (sheet bytes : List ℕ) (size : ℕ) (policy : Policy) (words : ℕ) (order : List ℕ) (n k : ℕ)
      → sheet_ok sheet (length bytes) ≡ true
      → prepare_verdict setting (types_verdict setting) (set_of sheet bytes) size ≡ passed
      → may_take (files_of (set_of sheet bytes)) (names_of (set_of sheet bytes)) order ≡ true
      → relocate_verdict setting.row (set_objects setting sheet bytes) (files_of (set_of sheet bytes)) order policy words ≡ refused n k
      → bind_ordered_of setting sheet bytes size policy words order ≡ refused_bind size words n k

-- ---- "every such order leaves the same arena"

abbrev pub arena_of : Outcome → List ℕ
arena_of (outcome answer arena report) = arena

abbrev pub report_of : Outcome → List ℕ
report_of (outcome answer arena report) = report

abbrev pub binds_it : Verdict → Bool
binds_it passed = true
binds_it (Err r) = false

abbrev pub is_bound : Outcome → Bool
is_bound (outcome answer arena report) = binds_it answer

-- the words of object `k` in a report: its word of kind 5, and the words after it up to the next of kind 5; `here` after its word of kind 5
unfoldable pub words_of_object : ℕ → Bool → List ℕ → List ℕ
words_of_object k here [] = []
words_of_object k here (w ∷ ws) =
    pick (eqb (w / 2 ^ 28) 5) (pick (eqb w (report_word 5 k)) (w ∷ words_of_object k true ws) (words_of_object k false ws))
    (pick (both here (not (eqb w 0))) (w ∷ words_of_object k here ws) (words_of_object k here ws))

-- two calls that bind a set, or both refuse it: the same bytes, and of each object the same words
pub record SameBinding (a b : Outcome) : Type 0 where
  pub bound : is_bound a ≡ is_bound b
  pub arena : arena_of a ≡ arena_of b
  pub words : (k : ℕ) → words_of_object k false (report_of a) ≡ words_of_object k false (report_of b)

-- "For sets whose only COPY entries are the program's, .. every such order leaves the same arena": the one that document 01's leaves, whatever the words of the types
abbrev pub OrderFree : Type 0
OrderFree =
    (address : ℕ) (types sheet bytes : List ℕ) (size : ℕ) (policy : Policy) (words : ℕ) (order : List ℕ)
    → library_copies (files_of (set_of sheet bytes)) ≡ false
    → is_order (length (names_of (set_of sheet bytes))) order ≡ true
    → SameBinding (bind_ordered_of (setting_of address types) sheet bytes size policy words order) (bind_of (setting_of address types) sheet bytes size policy words)

-- in document 01's order the call is `bind`: the same answer, arena and report, for every set
abbrev pub DocumentOrder : Type 0
DocumentOrder =
    (setting : Setting) (sheet bytes : List ℕ) (size : ℕ) (policy : Policy) (words : ℕ)
    → bind_ordered_of setting sheet bytes size policy words (set_order (files_of (set_of sheet bytes)) (names_of (set_of sheet bytes)))
    ≡ bind_of setting sheet bytes size policy words

-- "The report follows the order used": its words of kind 5 are the order, which has each library once, then the program, and nothing else
abbrev pub OrderUsed : Type 0
OrderUsed =
    (setting : Setting) (sheet bytes : List ℕ) (size : ℕ) (policy : Policy) (words : ℕ) (order arena report : List ℕ)
    → bind_ordered_of setting sheet bytes size policy words order ≡ outcome passed arena report
    → (numbers_of 5 report ≡ order) × OnceEach (length (set_of sheet bytes)) order

-- ---- demand 1: "a bound arena with its report, or one numbered refusal with an object number; a refusal leaves zeros in arena and report"

-- a refusal of `bind`, or 35 with object 0
pub record OrderedRefused (sheet bytes : List ℕ) (size words n k : ℕ) (arena report : List ℕ) : Type 0 where
  pub number : (BindNumber n × ObjectOf (length (set_of sheet bytes)) n k) ⊎ ((n ≡ 35) × (k ≡ 0))
  pub arena_zeros : arena ≡ replicate size 0
  pub report_zeros : report ≡ replicate words 0

pub record OrderedAnswers : Type 0 where
  pub refused :
      (setting : Setting) (sheet bytes : List ℕ) (size : ℕ) (policy : Policy) (words : ℕ) (order : List ℕ) (n k : ℕ) (arena report : List ℕ)
      → bind_ordered_of setting sheet bytes size policy words order ≡ outcome (refused n k) arena report
      → OrderedRefused sheet bytes size words n k arena report
  pub lengths :
      (setting : Setting) (sheet bytes : List ℕ) (size : ℕ) (policy : Policy) (words : ℕ) (order : List ℕ) (a : Verdict) (arena report : List ℕ)
      → bind_ordered_of setting sheet bytes size policy words order ≡ outcome a arena report
      → (length arena ≡ size) × (length report ≡ words)
