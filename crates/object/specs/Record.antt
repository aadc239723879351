-- The object record, and refusals 9 to 12. Document 01, "The object record"; document 02, (a); System V gABI, "Dynamic Section". "Pointers are offsets
-- from base." Sums of offsets are natural numbers: a table that starts outside the span is outside. Assumes nothing.
use Rattle.std.specs.Prelude.{Bool, true, List, ◌≡◌, ℕ, ◌+◌, ◌*◌, ◌/◌, eqb, leb, ltb, length, Option, None, Some, is_some, unwrap_or, Err, Ok, Result, IfOk}
use Rattle.words.specs.Choice.{pick, both, either, every}
use Rattle.words.specs.Names.{name_at}
use Rattle.words.specs.Refusal.{refused_by}
use Rattle.words.specs.declared.refusal.Refusal.{Refusal}
use Rattle.words.specs.declared.refusal.Refusal.TheVariants as refusals
use Rattle.object.specs.Refusal.{require, after}
use Rattle.object.specs.declared.program_header.Segment.{Segment}
use Rattle.object.specs.declared.hash_tables.HashTable.{HashTable}
use Rattle.object.specs.declared.hash_tables.HashTable.TheVariants.{Without}
use Rattle.object.specs.declared.hash_tables.View.{View}
use Rattle.object.specs.declared.symbol.Symbol.{Symbol}
use Rattle.object.specs.declared.dynamic_fields.ObjectData.{ObjectData}
use Rattle.object.specs.DynamicArray.{ends_inside}
use Rattle.object.specs.DynamicTags as DT
use Rattle.object.specs.DynamicFields.{Fields, fields_of, needed_offsets}
use Rattle.object.specs.TableBytes.{is_table, table_bytes, table_name}
use Rattle.object.specs.Alignment.{align_of}
use Rattle.object.specs.HashTable.{sysv_at, gnu_at}
use Rattle.object.specs.Symbol.{symbol_at}
use Rattle.object.specs.HashCheck.{symbol_ok, table_ok}
use Rattle.object.specs.SymbolCount.{count_of}

-- ---- the record

pub record Record : Type 0 where
  -- "up to 16 load segments and up to 64 needed offsets"
  pub segments : List Segment
  pub needed : List ℕ
  pub span : ℕ
  -- document 02, (a): "the largest p_align of its PT_LOAD headers"
  pub align : ℕ
  -- the string table and the symbol table
  pub strings : ℕ
  pub symbols : ℕ
  -- "which hash table was chosen, SysV or GNU, with its numbers", and the symbol count
  pub table : HashTable
  pub known : Option ℕ
  -- the relocation tables and their counts
  pub rela : ℕ
  pub relas : ℕ
  pub plt : ℕ
  pub plts : ℕ
  pub relr : ℕ
  pub relrs : ℕ

-- what the struct of the code holds
abbrev pub held_by : ObjectData → Record
held_by o =
    record {
      segments = o.segments.items;
      needed = o.needed.items;
      span = o.span;
      align = o.align;
      strings = o.strings;
      symbols = o.symbols;
      table = o.table;
      known = o.known;
      rela = o.rela;
      relas = o.relas;
      plt = o.plt;
      plts = o.plts;
      relr = o.relr;
      relrs = o.relrs;
    }

-- "Counts are byte sizes divided by 24 (RELA, PLT) or 8 (RELR), 0 where the size or the pointer is missing"; a missing size is 0
abbrev pub entry_count : Option ℕ → Option ℕ → ℕ → ℕ
entry_count pointer size unit = pick (is_some pointer) (unwrap_or size 0 / unit) 0

-- "Of hash tables, the last GNU (0x6ffffef5), else the first SysV (4)"
unfoldable pub table_in : List ℕ → Fields → HashTable
table_in image f =
    pick (is_some (f DT.GNU_HASH)) (gnu_at image (unwrap_or (f DT.GNU_HASH) 0))
    (pick (is_some (f DT.HASH)) (sysv_at image (unwrap_or (f DT.HASH) 0)) Without)

abbrev pub view_in : List ℕ → Fields → View
view_in image f = record { symbols = unwrap_or (f DT.SYMTAB) 0; strings = unwrap_or (f DT.STRTAB) 0; table = table_in image f }

-- the record of an image, the bytes of the span
unfoldable pub record_in : List ℕ → List Segment → Fields → List ℕ → Record
record_in image segments f needs =
    record {
      segments = segments;
      needed = needs;
      span = length image;
      align = align_of segments;
      strings = unwrap_or (f DT.STRTAB) 0;
      symbols = unwrap_or (f DT.SYMTAB) 0;
      table = table_in image f;
      known = count_of image (view_in image f);
      rela = unwrap_or (f DT.RELA) 0;
      relas = entry_count (f DT.RELA) (f DT.RELASZ) 24;
      plt = unwrap_or (f DT.JMPREL) 0;
      plts = entry_count (f DT.JMPREL) (f DT.PLTRELSZ) 24;
      relr = unwrap_or (f DT.RELR) 0;
      relrs = entry_count (f DT.RELR) (f DT.RELRSZ) 8;
    }

-- what a lookup reads of the record
abbrev pub view_of : Record → View
view_of r = record { symbols = r.symbols; strings = r.strings; table = r.table }

-- ---- refusals 9 to 12

-- "DT_SYMENT or DT_RELAENT not 24, DT_PLTREL not 7": said of an entry that is there
abbrev pub field_is : ℕ → Option ℕ → Bool
field_is n None = true
field_is n (Some v) = eqb v n

-- 11, the count of needs excepted
unfoldable pub sizes_refusal : Fields → ℕ
sizes_refusal f =
    require (field_is 24 (f DT.SYMENT)) 11
    (require (field_is 24 (f DT.RELAENT)) 11
    (require (field_is 7 (f DT.PLTREL)) 11 0))

-- 9, 10 and these
unfoldable pub fields_refusal : Bool → Fields → ℕ
fields_refusal ended f =
    require ended 9
    (require (is_some (f DT.STRTAB)) 10
    (require (is_some (f DT.SYMTAB)) 10 (sizes_refusal f)))

-- a table byte of the object
abbrev pub is_table_of : Record → ℕ → Bool
is_table_of r = is_table r.span r.segments

-- "a need's name"
unfoldable pub needs_ok : List ℕ → Record → Bool
needs_ok image r = every (λ n. table_name (is_table_of r) image (r.strings + n)) r.needed

-- "a non-empty relocation table": the entries that are counted
unfoldable pub relocations_ok : Record → Bool
relocations_ok r =
    both (table_bytes (is_table_of r) r.rela (24 * r.relas))
    (both (table_bytes (is_table_of r) r.plt (24 * r.plts)) (table_bytes (is_table_of r) r.relr (8 * r.relrs)))

-- 12: "Not wholly table bytes: a need's name .., a non-empty relocation table (host excepted), the chosen hash table .."
unfoldable pub tables_ok : Bool → List ℕ → Record → Bool
tables_ok host image r =
    both (needs_ok image r)
    (both (either host (relocations_ok r)) (table_ok (is_table_of r) image r.symbols r.strings r.table))

-- the refusal of an object whose dynamic array stands there, and its record
unfoldable pub read_refusal : Bool → List ℕ → List Segment → Option ℕ → ℕ
read_refusal host image segments None = 9
read_refusal host image segments (Some at) =
    after (fields_refusal (ends_inside image at) (fields_of image at))
    (require (leb (length (needed_offsets image at)) 64) 11
    (require (tables_ok host image (record_in image segments (fields_of image at) (needed_offsets image at))) 12 0))

unfoldable pub record_at : List ℕ → List Segment → Option ℕ → Record
record_at image segments None = record_in image segments (fields_of image 0) (needed_offsets image 0)
record_at image segments (Some at) = record_in image segments (fields_of image at) (needed_offsets image at)

-- what reading answers
pub record ReadBy (host : Bool) (image : List ℕ) (segments : List Segment) (d : Option ℕ) (r : Result ObjectData Refusal) : Type 0 where
  pub refusal : refused_by r ≡ read_refusal host image segments d
  pub object : IfOk r (λ o. held_by o ≡ record_at image segments d)

-- ---- what an entry and a need name

-- 14: "Symbol index at or above a known count"
unfoldable pub index_ok : Option ℕ → ℕ → Bool
index_ok None index = true
index_ok (Some count) index = ltb index count

-- the symbol of an entry, or refusal 14, or 15: "That symbol or its name not in table bytes"
unfoldable pub checked_symbol : List ℕ → Record → ℕ → Result Symbol Refusal
checked_symbol image r index =
    pick (index_ok r.known index)
    (pick (symbol_ok (is_table_of r) image r.symbols r.strings index) (Ok (symbol_at image r.symbols index)) (Err refusals.SymbolBytes))
    (Err refusals.SymbolIndex)

-- the name of a symbol, and of a need
abbrev pub name_of : List ℕ → Record → Symbol → List ℕ
name_of image r y = name_at image (r.strings + y.name)

abbrev pub need_name : List ℕ → Record → ℕ → List ℕ
need_name image r n = name_at image (r.strings + n)
