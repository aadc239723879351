-- Documents 01 and 02: the cases of refusals and of the search hold. Assumes nothing.
use mathlib.Core.Bool.{Bool, true, false}
use mathlib.Core.List.{List}
use mathlib.Core.Logic.{◌≢◌}
use mathlib.Core.Path.{◌≡◌, refl, sym, ◌∙◌}
use Prim.Native.Nat.{ℕ, suc, ◌%◌}
use native.Mathlib.Omega.{arith}
use lib.Dec.{eqb, leb}
use lib.ListN.{length}
use borrow.Author.Tests.{le-ltb, le-leb}
use Rattle.words.specs.Choice.{both, every}
use Rattle.words.specs.Page.{page_size}
use Rattle.object.specs.Refusal.{require, after}
use Rattle.object.specs.Header.{magic, class, encoding, header_count, table_end, file_type, machine, is_shared_object, is_x86, headers_inside, header_refusal}
use Rattle.object.specs.Segments.{flags_ok}
use Rattle.object.specs.Alignment.{power_up_to, align_ok, align_of}
use Rattle.object.specs.Placed.{segments_of, object_span, object_align, file_refusal, place_refusal}
use Rattle.object.specs.Loaded.{object_refusal}
use Rattle.object.specs.Record.{sizes_refusal, fields_refusal, read_refusal, index_ok, checked_symbol}
use Rattle.object.specs.HashTable.{is_hit, is_exported_hit, first_in}
use Rattle.binder.specs.Verdict.{copy_ok, copy_refusal}
use Rattle.binder.specs.Bind.{unless, replied_of, ask_set}
use Rattle.demands.specs.RefusalCases.{FileCases, RecordCases, SetCases, SearchCases, RefusalCases}

-- a test that does not hold, behind others
both_false : (a : Bool) → both a false ≡ false
both_false true = refl
both_false false = refl

-- the refusals of one step are those of the next
from_header : (host : Bool) (room : ℕ) (file : List ℕ) (n : ℕ) → header_refusal file ≡ suc n → object_refusal host room file ≡ suc n
unfolding object_refusal place_refusal file_refusal after
from_header host room file n h = rw h

from_file : (host : Bool) (room : ℕ) (file : List ℕ) (n : ℕ) → file_refusal host file ≡ suc n → object_refusal host room file ≡ suc n
unfolding object_refusal place_refusal after
from_file host room file n h = rw h

not_4 : (file : List ℕ) → eqb (file_type file) 3 ≡ false → header_refusal file ≡ 4
unfolding header_refusal is_shared_object require
not_4 file h = rw (h, both_false (eqb (magic file) 0x464c457f), both_false (leb 64 (length file)))

not_5 : (file : List ℕ) → is_shared_object file ≡ true → eqb (machine file) 62 ≡ false → header_refusal file ≡ 5
unfolding header_refusal is_x86 require
not_5 file four h = rw (four, h, both_false (eqb (encoding file) 1), both_false (eqb (class file) 2))

not_6 : (file : List ℕ) → is_shared_object file ≡ true → is_x86 file ≡ true → header_count file ≡ 65 → header_refusal file ≡ 6
unfolding header_refusal headers_inside require
not_6 file four five h = rw (four, five, h)

all_passed :
    (file : List ℕ) → is_shared_object file ≡ true → is_x86 file ≡ true → header_count file ≡ 64 → leb (table_end file) (length file) ≡ true
    → header_refusal file ≡ 0
unfolding header_refusal headers_inside require
all_passed file four five h inside = rw (four, five, inside, h)

-- the host meets 7 at most
host_refusal : (file : List ℕ) → header_refusal file ≡ 0 → file_refusal true file ≡ require (eqb (length file % page_size) 0) 7 0
unfolding file_refusal segments_of require after every
host_refusal file passed = rw passed

seven_or_none : (b : Bool) → require b 7 0 ≢ 21
unfolding require
seven_or_none true e = omega (arith, e)
seven_or_none false e = omega (arith, e)

pub file_cases : FileCases
unfolding object_refusal place_refusal file_refusal header_refusal is_shared_object headers_inside require after flags_ok align_ok power_up_to object_align align_of segments_of every
file_cases =
    record {
      short = λ host room. refl;
      not_type_3 = λ host room file h. from_header host room file 3 (not_4 file h);
      not_machine_62 = λ host room file four h. from_header host room file 4 (not_5 file four h);
      headers_65 = λ host room file four five h. from_header host room file 5 (not_6 file four five h);
      headers_64 = all_passed;
      host_part_page = λ room file passed h. rw (passed, h);
      execute_only = refl;
      read_only = refl;
      zeros_read_only = refl;
      zeros_writable = refl;
      align_0 = refl;
      align_3 = refl;
      align_limit = refl;
      align_over = refl;
      host_align = λ file. refl;
      host_not_21 = λ file passed h. seven_or_none (eqb (length file % page_size) 0) (sym (host_refusal file passed) ∙ h);
      align_before_8 = λ host room file h. from_file host room file 20 h;
      no_room = λ host room file passed h. rw (passed, h);
      room_to_the_end = λ host file passed. rw (passed, le-leb (object_span host file) (object_span host file) (omega arith));
    }

pub record_cases : RecordCases
unfolding object_refusal after read_refusal fields_refusal sizes_refusal require checked_symbol index_ok
record_cases =
    record {
      no_dynamic = λ host room file passed missing. rw (passed, missing);
      not_ended = λ f. refl;
      no_strings = λ f h. rw h;
      no_symbols = λ f strings h. rw (strings, h);
      pltrel_17 = λ f strings symbols syment relaent h. rw (strings, symbols, syment, relaent, h);
      pltrel_7 = λ f strings symbols syment relaent h. rw (strings, symbols, syment, relaent, h);
      index_at_count = λ image r h. (rw h, rw h);
    }

pub set_cases : SetCases
unfolding ask_set replied_of unless copy_refusal copy_ok require
set_cases =
    record {
      requester_past_last = λ setting os size name passed. rw (passed, le-ltb (length os) (length os) (omega arith));
      absolute_copy = λ S k r p size d a s some absolute writable. rw (some, writable, absolute);
      copy_17_first = λ S k r p size d a s some h. rw (some, h);
      strict = refl;
      strict_defined = refl;
      lenient = refl;
    }

pub search_cases : SearchCases
unfolding is_exported_hit first_in
search_cases =
    record {
      hidden_passed_over = λ image symbols strings t name g s h. rw (h, both_false (is_hit image symbols strings t name g s));
      exported_taken = λ image symbols strings t name g s same exported. rw (same, exported);
      goes_on = λ p s t no yes. rw (no, yes);
      chain_end = λ at n symoffset b shift. refl;
      chain_goes_on = λ at n symoffset b shift. refl;
    }

pub refusal_cases : RefusalCases
refusal_cases = record { of_files = file_cases; of_records = record_cases; of_sets = set_cases; of_searches = search_cases }
