-- The pair of sheets is as it is said to be. Assumes nothing.
use mathlib.Core.Path.{◌≡◌, refl, sym, ap, subst, ◌∙◌}
use mathlib.Core.Bool.{Bool, true, false}
use mathlib.Core.List.Memᴰ
use mathlib.Core.List.{List, [], ◌∷◌, ◌++◌, Memᴰ}
use Prim.Native.Nat.{ℕ, zero, suc, ◌+◌, ◌-◌, ◌≤◌, ◌<◌}
use native.Mathlib.Omega.{arith}
use lib.Dec.{leb}
use lib.ListN.{length, replicate}
use Rattle.words.specs.Choice.{pick, every, some, below}
use Rattle.words.specs.Memory.{Mem, tab, mem, write, In}
use Rattle.words.specs.Words.{byte_of, le_at}
use Rattle.words.specs.Names.{until_zero, same_bytes}
use Rattle.words.specs.Hash.{elf_hash, gnu_hash}
use Rattle.words.proofs.Slices.{mem_tab}
use Rattle.words.proofs.Words.{le_at_same}
use Rattle.model.specs.Objects as objects
use Rattle.model.specs.Objects.{Obj, Objs}
use Rattle.model.specs.Symbols.{by_name, Definition, absent, answer}
use Rattle.model.specs.Symbols as symbols
use Rattle.model.specs.Scope.{scope_answer, protected_of, scan, resolve}
use Rattle.model.specs.Order.{visit, order_of}
use Rattle.model.specs.Relocation.{add_words, address_or0, effect, effects, relocate, run, bound, placed}
use Rattle.model.specs.Layout as layouts
use Rattle.model.specs.Longer.{OnlyProgramCopies, HostOrNowhere, nowhere, Excepted, named}
use Rattle.object.specs.Refusal.{require}
use Rattle.object.specs.TableBytes.{is_table, table_bytes, table_name, in_writable}
use Rattle.object.specs.Symbol.{symbol_from, is_exported}
use Rattle.object.specs.HashTable.{walk, walk_from, may_hold, is_hit, is_exported_hit, first_in, find_by, definition, answer_in}
use Rattle.object.specs.HashTable as hashes
use Rattle.object.specs.HashCheck.{symbol_ok}
use Rattle.object.specs.Entries.{rela_at, relas_from, relrs_from, relr_words}
use Rattle.object.specs.RelocationTypes.{row_in, row_under, applied_row, supplied_types, may_apply}
use Rattle.object.specs.Placed.{object_bytes}
use Rattle.object.specs.Record.{Record, view_of, index_ok, checked_symbol}
use Rattle.sheet.specs.Sheet.{Input, pair_ok, lib_words, total, sheet_ok, cut, libs_of, set_of, arena_ok, duplicate_from}
use Rattle.sheet.specs.Sheet as sheets
use Rattle.binder.specs.declared.Policy.TheVariants.{Lenient}
use Rattle.binder.specs.Instance.{File, exported_of, places_of, named_words, relas_of, entry_by, object_at, multiple_from, next_offset, object_from}
use Rattle.binder.specs.Copies.{crosses_one, copy_by, entries_copies, object_copies}
use Rattle.binder.specs.Verdict.{Verdict, passed, verdict, refusal_by, words_verdict, entries_verdict, object_verdict, order_verdict}
use Rattle.binder.specs.Steps.Prepared.{load_from}
use Rattle.binder.specs.Report.{report_word, is_absent, undefined_by, entry_report, object_words, order_words}
use Rattle.binder.specs.SetOrder.{needed_objects, set_order}
use Rattle.binder.specs.Bind.{files_of, names_of, objects_of, unless, prepare_verdict, types_verdict, relocate_verdict, outcome, outcome_of, bind_in, bind_set, bind_of, query_of, replied, reply_of}
use Rattle.demands.specs.LongerSet.{PassesLoading, BoundBy, set_objects}
use Rattle.demands.specs.PairOfSheets.{word_bytes, host_file, program_file, library_file, setting, sheet, bytes, longer_sheet, longer_bytes, PairOfSheets}
use Rattle.demands.proofs.LongerQueryLaw.{asked}
use Rattle.demands.proofs.LongerSetLaw.{longer_set}
use Rattle.demands.proofs.PairFiles.{
  Reads,
  host_image,
  host_record,
  host_reads,
  program_image,
  program_record,
  program_reads,
  library_image,
  library_record,
  a_reads,
  b_reads,
}
use Rattle.binder.proofs.LoadsSame.{loads_same}
use Rattle.demands.proofs.TypesHold.{supplied_ok}

-- ---- the sets

abbrev input : List ℕ → List ℕ → Input
input file name = record { file = file; name = name }

abbrev inputs : List Input
inputs = input host_file [] ∷ (input program_file [] ∷ (input (library_file 97) (108 ∷ []) ∷ []))

abbrev longer_inputs : List Input
longer_inputs = input host_file [] ∷ (input program_file [] ∷ (input (library_file 97) (108 ∷ []) ∷ (input (library_file 98) (109 ∷ []) ∷ [])))

set_is : set_of sheet bytes ≡ inputs
unfolding word_bytes tab cut sheets.inputs_of libs_of
set_is = refl

longer_is : set_of longer_sheet longer_bytes ≡ longer_inputs
unfolding word_bytes tab cut sheets.inputs_of libs_of
longer_is = refl

sheet_ok_lem : sheet_ok sheet (length bytes) ≡ true
unfolding word_bytes tab sheet_ok lib_words pair_ok total
sheet_ok_lem = refl

longer_ok : sheet_ok longer_sheet (length longer_bytes) ≡ true
unfolding word_bytes tab sheet_ok lib_words pair_ok total
longer_ok = refl

-- ---- the objects

abbrev file : Bool → List ℕ → File
file host bs = record { host = host; bytes = bs }

-- the object of a file with that image and that record
abbrev object_of : Bool → List ℕ → ℕ → ℕ → List ℕ → Record → List objects.Entry → Obj
object_of host bs off span image r es =
    record {
      offset = off;
      span = span;
      base = 0x10000000 + off;
      image = object_bytes host bs;
      find = λ wanted. exported_of (answer_in image (view_of r) wanted.name);
      words = [];
      entries = es;
    }

abbrev host_obj : Obj
host_obj = object_of true host_file 0 0x1000 host_image host_record []

abbrev program_obj : Obj
program_obj =
    object_of false program_file 0x1000 0x2000 program_image program_record
    (objects.symbol 0x1000 8 (by_name (97 ∷ [])) (λ a. a) ∷ (objects.symbol 0x1008 8 (by_name (98 ∷ [])) (λ a. a) ∷ []))

abbrev library_obj : ℕ → ℕ → Obj
library_obj c off = object_of false (library_file c) off 0x1000 (library_image c) library_record []

host_is : object_from setting (file true host_file) 0 ≡ host_obj
unfolding object_from object_at next_offset
host_is = rw (host_reads.image_is, host_reads.record_is, host_reads.span_is)

program_is : object_from setting (file false program_file) 0x1000 ≡ program_obj
unfolding object_from object_at next_offset word_bytes tab mem byte_of le_at until_zero places_of named_words relr_words relrs_from relas_of relas_from rela_at entry_by row_in row_under applied_row supplied_types may_apply some
program_is = rw (program_reads.align_is, program_reads.image_is, program_reads.record_is, program_reads.span_is)

a_is : object_from setting (file false (library_file 97)) 0x3000 ≡ library_obj 97 0x3000
unfolding object_from object_at next_offset places_of named_words relr_words relrs_from relas_of relas_from
a_is = rw (a_reads.align_is, a_reads.image_is, a_reads.record_is, a_reads.span_is)

b_is : object_from setting (file false (library_file 98)) 0x4000 ≡ library_obj 98 0x4000
unfolding object_from object_at next_offset places_of named_words relr_words relrs_from relas_of relas_from
b_is = rw (b_reads.align_is, b_reads.image_is, b_reads.record_is, b_reads.span_is)

abbrev S : Objs
S = record { host = host_obj; program = program_obj; libs = library_obj 97 0x3000 ∷ [] }

abbrev T : Objs
T = record { host = host_obj; program = program_obj; libs = library_obj 97 0x3000 ∷ (library_obj 98 0x4000 ∷ []) }

abbrev files : List File
files = file true host_file ∷ (file false program_file ∷ (file false (library_file 97) ∷ []))

abbrev longer_files : List File
longer_files = file true host_file ∷ (file false program_file ∷ (file false (library_file 97) ∷ (file false (library_file 98) ∷ [])))

S_is : objects_of setting files ≡ S
unfolding objects_of layouts.objs_of layouts.layout
S_is = rw (host_is, program_is, a_is)

T_is : objects_of setting longer_files ≡ T
unfolding objects_of layouts.objs_of layouts.layout
T_is = rw (host_is, program_is, a_is, b_is)

-- ---- refusals 4 to 12 and 21

load_next_lem :
    (size k off span : ℕ) (host : Bool) (bs image : List ℕ) (r : Record) (fs : List File) → Reads host bs span image r
    → next_offset host 0x1000 0x10000000 off ≡ off
    → span ≤ size - off
    → load_from setting size (k + 1) (off + span) fs ≡ passed
    → load_from setting size k off (file host bs ∷ fs) ≡ passed
unfolding load_from verdict
load_next_lem size k off span host bs image r fs reads next fits rest =
    rw (reads.align_is, next, reads.loads (size - off) fits, reads.span_is) rest

-- offsets that are multiples of 4,096
next_page : (host : Bool) (off : ℕ) → multiple_from 0x1000 (0x10000000 + off) ≡ 0x10000000 + off → next_offset host 0x1000 0x10000000 off ≡ off
unfolding next_offset
next_page true off e = refl
next_page false off e = omega (arith, e)

load_end : (size k off : ℕ) → load_from setting size k off [] ≡ passed
unfolding load_from
load_end size k off = refl

S_loads : load_from setting 0x4000 0 0 files ≡ passed
S_loads =
    load_next_lem 0x4000 0 0 0x1000 true host_file host_image host_record _ host_reads (next_page true 0 refl) (omega arith)
    (load_next_lem 0x4000 1 0x1000 0x2000 false program_file program_image program_record _ program_reads (next_page false 0x1000 refl) (omega arith)
    (load_next_lem 0x4000 2 0x3000 0x1000 false (library_file 97) (library_image 97) library_record _ a_reads (next_page false 0x3000 refl) (omega arith) (load_end 0x4000 3 0x4000)))

T_loads : load_from setting 0x5000 0 0 longer_files ≡ passed
T_loads =
    load_next_lem 0x5000 0 0 0x1000 true host_file host_image host_record _ host_reads (next_page true 0 refl) (omega arith)
    (load_next_lem 0x5000 1 0x1000 0x2000 false program_file program_image program_record _ program_reads (next_page false 0x1000 refl) (omega arith)
    (load_next_lem 0x5000 2 0x3000 0x1000 false (library_file 97) (library_image 97) library_record _ a_reads (next_page false 0x3000 refl) (omega arith)
    (load_next_lem 0x5000 3 0x4000 0x1000 false (library_file 98) (library_image 98) library_record _ b_reads (next_page false 0x4000 refl) (omega arith) (load_end 0x5000 4 0x5000))))

S_prepared : PassesLoading setting sheet bytes 0x4000
unfolding prepare_verdict unless arena_ok duplicate_from some files_of
S_prepared = (sheet_ok_lem, rw set_is (loads_same setting 0x4000 files ∙ S_loads))

T_prepared : PassesLoading setting longer_sheet longer_bytes 0x5000
unfolding prepare_verdict unless arena_ok duplicate_from some files_of same_bytes
T_prepared = (longer_ok, rw longer_is (loads_same setting 0x5000 longer_files ∙ T_loads))

-- ---- the order: no library needs another

order_one : (needs : ℕ → List ℕ) → needs 2 ≡ [] → order_of needs 1 ≡ 2 ∷ 1 ∷ []
unfolding order_of visit
order_one needs two = rw two

order_two : (needs : ℕ → List ℕ) → needs 2 ≡ [] → needs 3 ≡ [] → order_of needs 2 ≡ 2 ∷ 3 ∷ 1 ∷ []
unfolding order_of visit
order_two needs two three = rw (two, three)

S_order : set_order files ((108 ∷ []) ∷ []) ≡ 2 ∷ 1 ∷ []
unfolding set_order needed_objects
S_order = order_one _ (rw a_reads.record_is)

T_order : set_order longer_files ((108 ∷ []) ∷ ((109 ∷ []) ∷ [])) ≡ 2 ∷ 3 ∷ 1 ∷ []
unfolding set_order needed_objects
T_order = order_two _ (rw a_reads.record_is) (rw b_reads.record_is)

-- ---- refusals 14 to 18, and 28: none reads another object

program_verdict : (A : Objs) → object_verdict setting.row A [] 1 (file false program_file) ≡ passed
unfolding object_verdict words_verdict entries_verdict crosses_one copy_by verdict refusal_by word_bytes every some tab mem byte_of le_at until_zero named_words
    relr_words relrs_from relas_of relas_from rela_at row_in row_under applied_row supplied_types may_apply checked_symbol index_ok symbol_ok is_table table_bytes
    table_name in_writable require below
program_verdict A = rw (program_reads.image_is, program_reads.record_is)

library_verdict :
    (A : Objs) (k c : ℕ) → Reads false (library_file c) 0x1000 (library_image c) library_record
    → object_verdict setting.row A [] k (file false (library_file c)) ≡ passed
unfolding object_verdict words_verdict entries_verdict named_words relr_words relrs_from relas_of relas_from
library_verdict A k c reads = rw (reads.image_is, reads.record_is)

-- a library has no entries
library_copies_lem :
    (A : Objs) (k c : ℕ) → Reads false (library_file c) 0x1000 (library_image c) library_record
    → object_copies setting.row A k (file false (library_file c)) ≡ []
unfolding entries_copies relas_of relas_from
library_copies_lem A k c reads = rw (reads.image_is, reads.record_is)

S_entries : order_verdict setting.row S files [] (2 ∷ 1 ∷ []) ≡ passed
unfolding order_verdict
S_entries = rw (library_verdict S 2 97 a_reads, library_copies_lem S 2 97 a_reads, program_verdict S)

T_entries : order_verdict setting.row T longer_files [] (2 ∷ 3 ∷ 1 ∷ []) ≡ passed
unfolding order_verdict
T_entries =
    rw (library_verdict T 2 97 a_reads, library_copies_lem T 2 97 a_reads, library_verdict T 3 98 b_reads, library_copies_lem T 3 98 b_reads, program_verdict T)

-- ---- lookups

abbrev found : Definition
found = record { index = 1; value = 0x18; size = 8; protected = false; absolute = false }

record Lookups : Type 0 where
  a_in_S : resolve S 1 (by_name (97 ∷ [])) ≡ answer 2 found 0x10003018
  a_in_T : resolve T 1 (by_name (97 ∷ [])) ≡ answer 2 found 0x10003018
  b_in_S : resolve S 1 (by_name (98 ∷ [])) ≡ absent
  b_in_T : resolve T 1 (by_name (98 ∷ [])) ≡ answer 3 found 0x10004018

look : Lookups
unfolding resolve scan scope_answer protected_of symbols.address word_bytes tab mem byte_of le_at until_zero same_bytes elf_hash gnu_hash walk walk_from
    may_hold is_hit is_exported_hit first_in find_by definition hashes.answer_of symbol_from is_exported
look = record { a_in_S = refl; a_in_T = refl; b_in_S = refl; b_in_T = refl }

-- ---- reports

program_words :
    (A : Objs) (t : Bool) → is_absent (resolve A 1 (by_name (97 ∷ []))) ≡ false → is_absent (resolve A 1 (by_name (98 ∷ []))) ≡ t
    → object_words setting.row A 1 (file false program_file) ≡ 0x50000001 ∷ pick t (0x60000001 ∷ []) []
unfolding object_words entry_report undefined_by word_bytes tab mem byte_of le_at until_zero relas_of relas_from rela_at row_in row_under applied_row supplied_types may_apply some symbol_from
program_words A true a b = rw (program_reads.image_is, program_reads.record_is, a, b)
program_words A false a b = rw (program_reads.image_is, program_reads.record_is, a, b)

library_words :
    (A : Objs) (k c : ℕ) → Reads false (library_file c) 0x1000 (library_image c) library_record
    → object_words setting.row A k (file false (library_file c)) ≡ report_word 5 k ∷ []
unfolding object_words entry_report relas_of relas_from
library_words A k c reads = rw (reads.image_is, reads.record_is)

S_words : order_words setting.row S files (2 ∷ 1 ∷ []) ≡ 0x50000002 ∷ (0x50000001 ∷ (0x60000001 ∷ []))
unfolding order_words
S_words = rw (library_words S 2 97 a_reads, program_words S true (rw look.a_in_S) (rw look.b_in_S))

T_words : order_words setting.row T longer_files (2 ∷ 3 ∷ 1 ∷ []) ≡ 0x50000002 ∷ (0x50000003 ∷ (0x50000001 ∷ []))
unfolding order_words
T_words = rw (library_words T 2 97 a_reads, library_words T 3 98 b_reads, program_words T false (rw look.a_in_T) (rw look.b_in_T))

-- ---- bound

types_passed : types_verdict setting ≡ passed
unfolding unless
types_passed = rw supplied_ok

prepared_typed :
    (sheet bytes : List ℕ) (size : ℕ) → PassesLoading setting sheet bytes size
    → prepare_verdict setting (types_verdict setting) (set_of sheet bytes) size ≡ passed
prepared_typed sheet bytes size v = ap (λ (t : Verdict). prepare_verdict setting t (set_of sheet bytes) size) types_passed ∙ v.1

-- a set whose stages are known
bind_passed :
    (sheet bytes : List ℕ) (size : ℕ) (os : List Input) (order ws : List ℕ) (A : Objs) → set_of sheet bytes ≡ os
    → PassesLoading setting sheet bytes size → objects_of setting (files_of os) ≡ A → set_order (files_of os) (names_of os) ≡ order
    → order_verdict setting.row A (files_of os) [] order ≡ passed → order_words setting.row A (files_of os) order ≡ ws → leb (length ws) 16 ≡ true
    → bind_of setting sheet bytes size Lenient 16 ≡ outcome passed (tab size (bound A order)) (ws ++ replicate (16 - length ws) 0)
unfolding bind_of bind_set bind_in relocate_verdict unless outcome_of
bind_passed sheet bytes size os order ws A s v o r e w l = rw (v.0, prepared_typed sheet bytes size v, s, o, r, e, w, l)

S_bound : BoundBy setting sheet bytes 0x4000 Lenient 16 (tab 0x4000 (bound S (2 ∷ 1 ∷ []))) (0x50000002 ∷ 0x50000001 ∷ 0x60000001 ∷ replicate 13 0)
unfolding files_of names_of
S_bound = bind_passed sheet bytes 0x4000 inputs (2 ∷ 1 ∷ []) _ S set_is S_prepared S_is S_order S_entries S_words refl

T_bound :
    BoundBy setting longer_sheet longer_bytes 0x5000 Lenient 16 (tab 0x5000 (bound T (2 ∷ 3 ∷ 1 ∷ [])))
    (0x50000002 ∷ 0x50000003 ∷ 0x50000001 ∷ replicate 13 0)
unfolding files_of names_of
T_bound = bind_passed longer_sheet longer_bytes 0x5000 longer_inputs (2 ∷ 3 ∷ 1 ∷ []) _ T longer_is T_prepared T_is T_order T_entries T_words refl

-- ---- asked by the program

query_passed :
    (sheet bytes : List ℕ) (size : ℕ) (os : List Input) (A : Objs) (name : List ℕ) (x : symbols.Resolved) → set_of sheet bytes ≡ os
    → PassesLoading setting sheet bytes size → objects_of setting (files_of os) ≡ A → 1 < length os → resolve A 1 (by_name name) ≡ x
    → query_of setting sheet bytes size 1 name ≡ replied (reply_of x) (tab size (placed A))
query_passed sheet bytes size os A name x s v o l e = asked setting sheet bytes size 1 name v (rw s l) ∙ rw (s, o, e)

-- ---- the program's words

word_of : (size : ℕ) (m : Mem) (at : ℕ) → at + 8 ≤ size → le_at 8 (mem (tab size m)) at ≡ le_at 8 m at
word_of size m at l = le_at_same 8 (mem (tab size m)) m at at (λ k h. mem_tab size m (at + k) (omega arith))

record ProgramWords : Type 0 where
  a_in_S : le_at 8 (bound S (2 ∷ 1 ∷ [])) 0x2000 ≡ 0x10003018
  a_in_T : le_at 8 (bound T (2 ∷ 3 ∷ 1 ∷ [])) 0x2000 ≡ 0x10003018
  b_in_S : le_at 8 (bound S (2 ∷ 1 ∷ [])) 0x2008 ≡ 0
  b_in_T : le_at 8 (bound T (2 ∷ 3 ∷ 1 ∷ [])) 0x2008 ≡ 0x10004018

program_has : ProgramWords
unfolding le_at bound run relocate add_words effects effect write byte_of address_or0
program_has = record { a_in_S = rw look.a_in_S; a_in_T = rw look.a_in_T; b_in_S = rw look.b_in_S; b_in_T = rw look.b_in_T }

-- the bytes from 0x2008 on are named by entry 1 of the program, which found b nowhere
excepted : (i : ℕ) → In 0x2008 8 i → Excepted S i
excepted i w =
    named (
      1,
      objects.symbol 0x1008 8 (by_name (98 ∷ [])) (λ a. a),
      omega arith,
      omega arith,
      Memᴰ.tail (Memᴰ.head refl),
      (subst (λ (x : symbols.Resolved). HostOrNowhere x) (sym look.b_in_S) nowhere, omega arith),
    )

-- the library has no entries
only : OnlyProgramCopies S
only zero l h e m = absurd (omega arith)
only (suc zero) l h e m = absurd (omega arith)
only (suc (suc zero)) l h e m = absurd (Memᴰ.not-nil m)
only (suc (suc (suc k))) l h e m = absurd (omega arith)

objects_are : set_objects setting sheet bytes ≡ S
unfolding files_of
objects_are = rw set_is S_is

pub pair_of_sheets : PairOfSheets
unfolding files_of
pair_of_sheets =
    record {
      arena = tab 0x4000 (bound S (2 ∷ 1 ∷ []));
      arena' = tab 0x5000 (bound T (2 ∷ 3 ∷ 1 ∷ []));
      bound = S_bound;
      longer_bound = T_bound;
      only = subst OnlyProgramCopies (sym objects_are) only;
      a_asked = (tab 0x4000 (placed S), query_passed sheet bytes 0x4000 inputs S (97 ∷ []) _ set_is S_prepared S_is (omega arith) look.a_in_S);
      a_asked_longer = (
        tab 0x5000 (placed T),
        query_passed longer_sheet longer_bytes 0x5000 longer_inputs T (97 ∷ []) _ longer_is T_prepared T_is (omega arith) look.a_in_T,
      );
      b_asked = (tab 0x4000 (placed S), query_passed sheet bytes 0x4000 inputs S (98 ∷ []) _ set_is S_prepared S_is (omega arith) look.b_in_S);
      b_asked_longer = (
        tab 0x5000 (placed T),
        query_passed longer_sheet longer_bytes 0x5000 longer_inputs T (98 ∷ []) _ longer_is T_prepared T_is (omega arith) look.b_in_T,
      );
      a_word = word_of 0x4000 (bound S (2 ∷ 1 ∷ [])) 0x2000 (omega arith) ∙ program_has.a_in_S;
      a_word_longer = word_of 0x5000 (bound T (2 ∷ 3 ∷ 1 ∷ [])) 0x2000 (omega arith) ∙ program_has.a_in_T;
      b_word = word_of 0x4000 (bound S (2 ∷ 1 ∷ [])) 0x2008 (omega arith) ∙ program_has.b_in_S;
      b_word_longer = word_of 0x5000 (bound T (2 ∷ 3 ∷ 1 ∷ [])) 0x2008 (omega arith) ∙ program_has.b_in_T;
      b_excepted = λ i w. subst (λ (A : Objs). Excepted A i) (sym objects_are) (excepted i w);
      kept =
          longer_set setting Lenient sheet bytes 0x4000 16 _ _ S_bound (subst OnlyProgramCopies (sym objects_are) only) 0x30000140 0x40000001
          (library_file 98 ++ (109 ∷ [])) 0x5000 16 _ _ T_bound;
    }
