-- The files of the pair of sheets, read: spans, images, records, and that no refusal meets them. Assumes nothing.
use Rattle.std.specs.Prelude.{None, Some}
use mathlib.Core.Path.{◌≡◌, refl, sym, ap, ◌∙◌}
use mathlib.Core.Bool.{Bool, true, false}
use mathlib.Core.Logic.{inl, inr, ◌⊎◌}
use mathlib.Core.List.{List, [], ◌∷◌, ◌++◌}
use Prim.Native.Nat.{ℕ, zero, suc, ◌+◌, ◌-◌, ◌%◌, ◌≤◌, ◌<◌}
use native.Mathlib.Omega.{arith}
use borrow.Author.Tests.{le-leb}
use lib.Dec.{eqb}
use lib.ListN.{length, replicate, length-append, length-replicate}
use Rattle.std.specs.Prelude.{Some}
use Rattle.words.specs.Choice.{pick, every, some, below}
use Rattle.words.specs.Memory.{Mem, tab, mem, write, from, In}
use Rattle.words.specs.Words.{byte_of, le_at}
use Rattle.words.specs.Page.{page_size}
use Rattle.words.specs.Names.{until_zero}
use Rattle.words.proofs.Memory.{Out, in_or_out, out_empty, write_in, write_out}
use Rattle.words.proofs.Slices.{mem_ext, mem_tab, mem_past, length_tab}
use Rattle.object.specs.Refusal.{require, after}
use Rattle.object.specs.Header.{is_shared_object, is_x86, headers_inside, header_refusal}
use Rattle.object.specs.ProgramHeader.{loads_in, loads_of, segment_at, dynamic_in, dynamic_of}
use Rattle.object.specs.Segments.{
  segments_ok,
  holds_headers,
  sizes_ok,
  address_ok,
  flags_ok,
  segment_ok,
  pages_apart,
  all_apart,
  end_of,
  place_segment,
  place_segments,
  placed_of,
}
use Rattle.object.specs.Alignment.{power_up_to, align_ok, align_of}
use Rattle.object.specs.Placed.{segments_of, object_span, object_align, object_bytes, file_refusal, place_refusal, object_image}
use Rattle.object.specs.DynamicArray.{items_in, end_in, last_value, first_of, all_of}
use Rattle.object.specs.DynamicFields.{field_of}
use Rattle.object.specs.TableBytes.{is_table, table_bytes, table_name}
use Rattle.object.specs.HashTable.{walk, walk_from}
use Rattle.object.specs.HashCheck.{numbers_ok, bucket_ok, length_ok, chain_ok, symbol_ok, walk_ok, table_ok}
use Rattle.object.specs.SymbolCount.{table_count, count_of}
use Rattle.object.specs.Record.{
  Record,
  table_in,
  record_in,
  sizes_refusal,
  fields_refusal,
  needs_ok,
  relocations_ok,
  tables_ok,
  read_refusal,
  record_at,
}
use Rattle.object.specs.Loaded.{object_record, object_refusal}
use Rattle.object.specs.declared.program_header.Segment.{Segment}
use Rattle.object.specs.declared.hash_tables.HashTable.TheVariants.{Without, SysV}
use Rattle.object.proofs.RefusalLaws.{after_none}
use Rattle.demands.specs.PairOfSheets.{word_bytes, host_file, program_file, library_file}

-- ---- a file and zeros

zero_at : (n i : ℕ) → mem (replicate n 0) i ≡ 0
unfolding mem
zero_at zero i = refl
zero_at (suc n) zero = refl
zero_at (suc n) (suc i) = zero_at n i

mem_padded : (xs : List ℕ) (n i : ℕ) → mem (xs ++ replicate n 0) i ≡ mem xs i
unfolding mem
mem_padded [] n i = zero_at n i
mem_padded (x ∷ xs) n zero = refl
mem_padded (x ∷ xs) n (suc i) = mem_padded xs n i

padded :
    (file : List ℕ) (n span : ℕ) (m : Mem) → length file + n ≡ span → ((i : ℕ) → m i ≡ mem file i)
    → tab span m ≡ file ++ replicate n 0
padded file n span m e same =
    mem_ext (tab span m) (file ++ replicate n 0) (length_tab span m ∙ sym many)
    (λ i h.
    let g : i < span = omega (arith, length_tab span m) in
    mem_tab span m i g ∙ (same i ∙ sym (mem_padded file n i)))
  where
    many : length (file ++ replicate n 0) ≡ span
    many = simp (length-append, length-replicate) e

-- a read-only segment of a file that fits a page, placed at 0
page : (file : List ℕ) (n i : ℕ) → length file ≤ 4096 → write (write (λ _. 0) 0 4096 (from 0 (mem file))) n 0 (λ _. 0) i ≡ mem file i
page file n i l =
    write_out (write (λ _. 0) 0 4096 (from 0 (mem file))) n 0 (λ _. 0) i (out_empty n 0 i (λ h. omega arith)) ∙ go (in_or_out 0 4096 i)
  where
    go : In 0 4096 i ⊎ Out 0 4096 i → write (λ _. 0) 0 4096 (from 0 (mem file)) i ≡ mem file i
    go (inl w) =
        let e : 0 + (i - 0) ≡ i = omega arith in
        write_in (λ _. 0) 0 4096 (from 0 (mem file)) i w ∙ ap (mem file) e
    go (inr (inl w)) = absurd (omega arith)
    go (inr (inr w)) = write_out (λ _. 0) 0 4096 (from 0 (mem file)) i (inr w) ∙ sym (mem_past file i (omega arith))

-- a writable one, of zeros alone, past the file
zeros : (file : List ℕ) (m : Mem) (at n i : ℕ) → length file ≤ at → m i ≡ mem file i → write (write m at 0 (from 0 (mem file))) at n (λ _. 0) i ≡ mem file i
zeros file m at n i l same = go (in_or_out at n i)
  where
    go : In at n i ⊎ Out at n i → write (write m at 0 (from 0 (mem file))) at n (λ _. 0) i ≡ mem file i
    go (inl w) = write_in (write m at 0 (from 0 (mem file))) at n (λ _. 0) i w ∙ sym (mem_past file i (omega arith))
    go (inr w) =
        write_out (write m at 0 (from 0 (mem file))) at n (λ _. 0) i w
        ∙ (write_out m at 0 (from 0 (mem file)) i (out_empty at 0 i (λ h. omega arith)) ∙ same)

-- ---- what loading makes of a file

pub record Reads (host : Bool) (file : List ℕ) (span : ℕ) (image : List ℕ) (r : Record) : Type 0 where
  pub span_is : object_span host file ≡ span
  pub align_is : object_align host file ≡ 0x1000
  pub image_is : object_image host file ≡ image
  pub record_is : object_record host file ≡ r
  pub loads : (room : ℕ) → span ≤ room → object_refusal host room file ≡ 0

-- what is computed of a file: its header, segments and dynamic array; then, of its bytes and `n` zeros, its record
record Computed (host : Bool) (file : List ℕ) (segments : List Segment) (at n : ℕ) (r : Record) : Type 0 where
  header : header_refusal file ≡ 0
  segments_are : segments_of host file ≡ segments
  segments_ok_lem : pick host (eqb (length file % page_size) 0) (segments_ok file (loads_of file)) ≡ true
  aligned : every align_ok segments ≡ true
  align_of_lem : align_of segments ≡ 0x1000
  array : dynamic_of file ≡ Some at
  record_of : record_at (file ++ replicate n 0) segments (Some at) ≡ r
  tables_ok_lem : read_refusal host (file ++ replicate n 0) segments (Some at) ≡ 0

module _ (host : Bool) (file : List ℕ) (segments : List Segment) (at n span : ℕ) (r : Record) (c : Computed host file segments at n r)
    (long : object_span host file ≡ span) (fills : length file + n ≡ span) (same : (i : ℕ) → object_bytes host file i ≡ mem file i) where
  image_padded : object_image host file ≡ file ++ replicate n 0
  image_padded = rw long (padded file n span (object_bytes host file) fills same)

  places : (room : ℕ) → span ≤ room → place_refusal host room file ≡ 0
  unfolding place_refusal file_refusal require after
  places room l = rw (c.header, c.segments_ok_lem, c.segments_are, c.aligned, long, le-leb span room l)

  file_reads : Reads host file span (file ++ replicate n 0) r
  unfolding object_record object_refusal object_align
  file_reads =
      record {
        span_is = long;
        align_is = rw c.segments_are c.align_of_lem;
        image_is = image_padded;
        record_is = rw (image_padded, c.segments_are, c.array) c.record_of;
        loads = λ room l. after_none (place_refusal host room file) _ (places room l) ∙ rw (image_padded, c.segments_are, c.array) c.tables_ok_lem;
      }

-- ---- images and records

abbrev pub host_image : List ℕ
host_image = host_file ++ replicate 0 0

abbrev pub host_record : Record
host_record =
    record {
      segments = [];
      needed = [];
      span = 0x1000;
      align = 0x1000;
      strings = 0;
      symbols = 0;
      table = Without;
      known = None;
      rela = 0;
      relas = 0;
      plt = 0;
      plts = 0;
      relr = 0;
      relrs = 0;
    }

abbrev program_segments : List Segment
program_segments =
    record { flags = 4; offset = 0; vaddr = 0; filesz = 440; memsz = 440; align = 0 }
    ∷ record { flags = 6; offset = 0; vaddr = 0x1000; filesz = 0; memsz = 16; align = 0 } ∷ []

abbrev pub program_image : List ℕ
program_image = program_file ++ replicate (0x2000 - 440) 0

abbrev pub program_record : Record
program_record =
    record {
      segments = program_segments;
      needed = [];
      span = 0x2000;
      align = 0x1000;
      strings = 0x180;
      symbols = 0x138;
      table = Without;
      known = Some 3;
      rela = 0x188;
      relas = 2;
      plt = 0;
      plts = 0;
      relr = 0;
      relrs = 0;
    }

abbrev library_segments : List Segment
library_segments = record { flags = 4; offset = 0; vaddr = 0; filesz = 320; memsz = 320; align = 0 } ∷ []

abbrev pub library_image : ℕ → List ℕ
library_image c = library_file c ++ replicate (0x1000 - 320) 0

abbrev pub library_record : Record
library_record =
    record {
      segments = library_segments;
      needed = [];
      span = 0x1000;
      align = 0x1000;
      strings = 0x120;
      symbols = 0xF0;
      table = SysV 0x128 1 2;
      known = Some 2;
      rela = 0;
      relas = 0;
      plt = 0;
      plts = 0;
      relr = 0;
      relrs = 0;
    }

abbrev LibraryComputed : ℕ → Type 0
LibraryComputed c = Computed false (library_file c) library_segments 0xB0 (0x1000 - 320) library_record

record AllComputed : Type 0 where
  of_host : Computed true host_file [] 0x78 0 host_record
  of_program : Computed false program_file program_segments 0xE8 (0x2000 - 440) program_record
  of_a : LibraryComputed 97
  of_b : LibraryComputed 98

computed : AllComputed
unfolding word_bytes every some below tab mem byte_of le_at until_zero require after is_shared_object is_x86 headers_inside header_refusal loads_in segment_at dynamic_in segments_ok holds_headers
    sizes_ok address_ok flags_ok segment_ok pages_apart all_apart segments_of items_in end_in last_value first_of all_of field_of is_table table_bytes table_name walk walk_from numbers_ok
    bucket_ok length_ok chain_ok symbol_ok walk_ok table_ok table_in table_count count_of record_in record_at sizes_refusal fields_refusal needs_ok relocations_ok tables_ok
    read_refusal power_up_to align_ok align_of
computed =
    record {
      of_host = record { header = refl; segments_are = refl; segments_ok_lem = refl; aligned = refl; align_of_lem = refl; array = refl; record_of = refl; tables_ok_lem = refl };
      of_program = record { header = refl; segments_are = refl; segments_ok_lem = refl; aligned = refl; align_of_lem = refl; array = refl; record_of = refl; tables_ok_lem = refl };
      of_a = record { header = refl; segments_are = refl; segments_ok_lem = refl; aligned = refl; align_of_lem = refl; array = refl; record_of = refl; tables_ok_lem = refl };
      of_b = record { header = refl; segments_are = refl; segments_ok_lem = refl; aligned = refl; align_of_lem = refl; array = refl; record_of = refl; tables_ok_lem = refl };
    }

-- ---- the host

host_length : length host_file ≡ 0x1000
unfolding word_bytes tab
host_length = refl

pub host_reads : Reads true host_file 0x1000 host_image host_record
unfolding object_span object_bytes
host_reads =
    file_reads true host_file [] 0x78 0 0x1000 host_record computed.of_host host_length (omega (arith, host_length)) (λ i. refl)

-- ---- the program

program_length : length program_file ≡ 440
unfolding word_bytes tab
program_length = refl

program_bytes : (i : ℕ) → object_bytes false program_file i ≡ mem program_file i
unfolding object_bytes placed_of place_segments place_segment segments_of
program_bytes i =
    rw computed.of_program.segments_are
    (zeros program_file (write (write (λ _. 0) 0 0x1000 (from 0 (mem program_file))) 440 0 (λ _. 0)) 0x1000 16 i (omega (arith, program_length))
    (page program_file 440 i (omega (arith, program_length))))

program_span : object_span false program_file ≡ 0x2000
unfolding object_span end_of segments_of
program_span = rw computed.of_program.segments_are

pub program_reads : Reads false program_file 0x2000 program_image program_record
program_reads =
    file_reads false program_file program_segments 0xE8 (0x2000 - 440) 0x2000 program_record computed.of_program program_span
    (omega (arith, program_length)) program_bytes

-- ---- the libraries

library_length : (c : ℕ) → length (library_file c) ≡ 320
unfolding word_bytes tab
library_length c = refl

library_reads_by : (c : ℕ) → LibraryComputed c → Reads false (library_file c) 0x1000 (library_image c) library_record
unfolding object_span object_bytes end_of placed_of place_segments place_segment segments_of
library_reads_by c known =
    file_reads false (library_file c) library_segments 0xB0 (0x1000 - 320) 0x1000 library_record known (rw known.segments_are)
    (omega (arith, library_length c))
    (λ i. rw known.segments_are (page (library_file c) 320 i (omega (arith, library_length c))))

pub a_reads : Reads false (library_file 97) 0x1000 (library_image 97) library_record
a_reads = library_reads_by 97 computed.of_a

pub b_reads : Reads false (library_file 98) 0x1000 (library_image 98) library_record
b_reads = library_reads_by 98 computed.of_b
