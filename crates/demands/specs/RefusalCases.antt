-- Document 01, "Refused, in checking order", and document 02, (a) and (c): cases of refusals 4 to 11, 13, 14, 18, 19 and 21 and of the search, each
-- for every file, record or set of which the facts before the arrow hold. Words in quotes are the documents'. Each stands for one way to read them
-- wrongly. Assumes nothing.
use Rattle.std.specs.Prelude.{Bool, true, false, List, [], ◌∷◌, ◌≢◌, ◌≡◌, ℕ, ◌%◌, min, eqb, leb, length, Some, None, is_some, Err}
use Rattle.words.specs.Page.{page_size}
use Rattle.model.specs.Symbols.{Definition, answer}
use Rattle.model.specs.Objects.{Objs}
use Rattle.sheet.specs.Sheet.{Input}
use Rattle.words.specs.Refusal.{refused_by}
use Rattle.words.specs.declared.refusal.Refusal.TheVariants as refusals
use Rattle.object.specs.Header.{file_type, machine, header_count, table_end, is_shared_object, is_x86, header_refusal}
use Rattle.object.specs.ProgramHeader.{dynamic_of}
use Rattle.object.specs.Segments.{flags_ok}
use Rattle.object.specs.Alignment.{align_ok}
use Rattle.object.specs.Placed.{object_span, object_align, file_refusal, place_refusal}
use Rattle.object.specs.Loaded.{object_refusal}
use Rattle.object.specs.DynamicTags as DT
use Rattle.object.specs.DynamicFields.{Fields}
use Rattle.object.specs.Record.{Record, fields_refusal, checked_symbol}
use Rattle.object.specs.Symbol.{symbol_at, is_exported}
use Rattle.object.specs.HashTable.{is_last, is_hit, is_exported_hit, first_in}
use Rattle.object.specs.TableBytes.{in_writable}
use Rattle.object.specs.declared.program_header.Segment.{Segment}
use Rattle.object.specs.declared.hash_tables.HashTable.{HashTable}
use Rattle.object.specs.declared.hash_tables.HashTable.TheVariants.{Gnu}
use Rattle.binder.specs.declared.Policy.TheVariants.{Strict, Lenient}
use Rattle.binder.specs.Setting.{Setting}
use Rattle.binder.specs.Verdict.{passed, copy_refusal}
use Rattle.binder.specs.Bind.{allows, prepare_verdict, refused_query, ask_set}

-- a PT_LOAD of 16 bytes at 0 with these flags, p_memsz and p_align
abbrev pub load_with : ℕ → ℕ → ℕ → Segment
load_with flags memsz align = record { flags = flags; offset = 0; vaddr = 0; filesz = 16; memsz = memsz; align = align }

-- 4 to 8 and 21 of a file, whatever room is left
pub record FileCases : Type 0 where
  -- "Under 64 bytes", "e_type not 3"
  pub short : (host : Bool) (room : ℕ) → object_refusal host room [] ≡ 4
  pub not_type_3 : (host : Bool) (room : ℕ) (file : List ℕ) → eqb (file_type file) 3 ≡ false → object_refusal host room file ≡ 4
  -- "machine not 62"
  pub not_machine_62 :
      (host : Bool) (room : ℕ) (file : List ℕ) → is_shared_object file ≡ true → eqb (machine file) 62 ≡ false → object_refusal host room file ≡ 5
  -- "Over 64 program headers": 65 are, 64 are not
  pub headers_65 :
      (host : Bool) (room : ℕ) (file : List ℕ) → is_shared_object file ≡ true → is_x86 file ≡ true → header_count file ≡ 65
      → object_refusal host room file ≡ 6
  pub headers_64 :
      (file : List ℕ) → is_shared_object file ≡ true → is_x86 file ≡ true → header_count file ≡ 64 → leb (table_end file) (length file) ≡ true
      → header_refusal file ≡ 0
  -- "Host: length no multiple of 4,096"; "no read flag" (PF_R is 4), "zero fill without write flag" (PF_W is 2)
  pub host_part_page :
      (room : ℕ) (file : List ℕ) → header_refusal file ≡ 0 → eqb (length file % page_size) 0 ≡ false → object_refusal true room file ≡ 7
  pub execute_only : flags_ok (load_with 1 16 4096) ≡ false
  pub read_only : flags_ok (load_with 4 16 4096) ≡ true
  pub zeros_read_only : flags_ok (load_with 4 17 4096) ≡ false
  pub zeros_writable : flags_ok (load_with 6 17 4096) ≡ true
  -- "a PT_LOAD p_align .. other than 0 that is no power of two or is over 2,097,152"
  pub align_0 : align_ok (load_with 4 16 0) ≡ true
  pub align_3 : align_ok (load_with 4 16 3) ≡ false
  pub align_limit : align_ok (load_with 4 16 2097152) ≡ true
  pub align_over : align_ok (load_with 4 16 4194304) ≡ false
  -- "the host's excepted"; 21 comes before 8
  pub host_align : (file : List ℕ) → object_align true file ≡ 4096
  pub host_not_21 : (file : List ℕ) → header_refusal file ≡ 0 → file_refusal true file ≢ 21
  pub align_before_8 : (host : Bool) (room : ℕ) (file : List ℕ) → file_refusal host file ≡ 21 → object_refusal host room file ≡ 21
  -- "The span passes the arena's end"
  pub no_room :
      (host : Bool) (room : ℕ) (file : List ℕ) → file_refusal host file ≡ 0 → leb (object_span host file) room ≡ false
      → object_refusal host room file ≡ 8
  pub room_to_the_end : (host : Bool) (file : List ℕ) → file_refusal host file ≡ 0 → place_refusal host (object_span host file) file ≡ 0

-- 9 to 11 and 14 of an object
pub record RecordCases : Type 0 where
  -- "No PT_DYNAMIC, or its entries through the first of tag 0 not wholly inside the span"
  pub no_dynamic :
      (host : Bool) (room : ℕ) (file : List ℕ) → place_refusal host room file ≡ 0 → dynamic_of file ≡ None → object_refusal host room file ≡ 9
  pub not_ended : (f : Fields) → fields_refusal false f ≡ 9
  -- "No string or no symbol table": each by itself
  pub no_strings : (f : Fields) → is_some (f DT.STRTAB) ≡ false → fields_refusal true f ≡ 10
  pub no_symbols : (f : Fields) → is_some (f DT.STRTAB) ≡ true → is_some (f DT.SYMTAB) ≡ false → fields_refusal true f ≡ 10
  -- "DT_PLTREL not 7"
  pub pltrel_17 :
      (f : Fields) → is_some (f DT.STRTAB) ≡ true → is_some (f DT.SYMTAB) ≡ true → f DT.SYMENT ≡ Some 24 → f DT.RELAENT ≡ Some 24
      → f DT.PLTREL ≡ Some 17 → fields_refusal true f ≡ 11
  pub pltrel_7 :
      (f : Fields) → is_some (f DT.STRTAB) ≡ true → is_some (f DT.SYMTAB) ≡ true → f DT.SYMENT ≡ Some 24 → f DT.RELAENT ≡ Some 24
      → f DT.PLTREL ≡ Some 7 → fields_refusal true f ≡ 0
  -- "Symbol index at or above a known count": the count itself
  pub index_at_count :
      (image : List ℕ) (r : Record) → r.known ≡ Some 14
      → (checked_symbol image r 14 ≡ Err refusals.SymbolIndex) × (refused_by (checked_symbol image r 14) ≡ 14)

-- 13, 18 and 19 of a set
pub record SetCases : Type 0 where
  -- "A query's requester is no object of the set": the first number that is none
  pub requester_past_last :
      (setting : Setting) (os : List Input) (size : ℕ) (name : List ℕ) → prepare_verdict setting passed os size ≡ passed
      → ask_set setting os size (length os) name ≡ refused_query size 13 0
  -- "from an absolute symbol"; 17 comes before it
  pub absolute_copy :
      (S : Objs) (k : ℕ) (r : Record) (p size d a : ℕ) (s : Definition) → eqb (min size s.size) 0 ≡ false → s.absolute ≡ true
      → in_writable r.segments p (min size s.size) ≡ true → copy_refusal S k r p size (answer d s a) ≡ 18
  pub copy_17_first :
      (S : Objs) (k : ℕ) (r : Record) (p size d a : ℕ) (s : Definition) → eqb (min size s.size) 0 ≡ false
      → in_writable r.segments p (min size s.size) ≡ false → copy_refusal S k r p size (answer d s a) ≡ 17
  -- "Strict policy and an undefined entry": not under the lenient one
  pub strict : allows Strict 2 ≡ false
  pub strict_defined : allows Strict 0 ≡ true
  pub lenient : allows Lenient 2 ≡ true

-- "A search now passes over a hit that is not exported and goes on in that chain"
pub record SearchCases : Type 0 where
  pub hidden_passed_over :
      (image : List ℕ) (symbols strings : ℕ) (t : HashTable) (name : List ℕ) (g s : ℕ)
      → is_exported (symbol_at image symbols s) ≡ false → is_exported_hit image symbols strings t name g s ≡ false
  -- the first exported hit, protected or not
  pub exported_taken :
      (image : List ℕ) (symbols strings : ℕ) (t : HashTable) (name : List ℕ) (g s : ℕ)
      → is_hit image symbols strings t name g s ≡ true → is_exported (symbol_at image symbols s) ≡ true
      → is_exported_hit image symbols strings t name g s ≡ true
  pub goes_on : (p : ℕ → Bool) (s t : ℕ) → p s ≡ false → p t ≡ true → first_in p (s ∷ (t ∷ [])) ≡ Some t
  -- "that chain": a GNU chain ends with the first word whose lowest bit is set
  pub chain_end : (at n symoffset b shift : ℕ) → is_last (Gnu at n symoffset b shift) 0x2B607 ≡ true
  pub chain_goes_on : (at n symoffset b shift : ℕ) → is_last (Gnu at n symoffset b shift) 0x2B606 ≡ false

pub record RefusalCases : Type 0 where
  pub of_files : FileCases
  pub of_records : RecordCases
  pub of_sets : SetCases
  pub of_searches : SearchCases
