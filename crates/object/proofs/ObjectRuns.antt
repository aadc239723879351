-- The runs of an object: they follow one another from 0 to the span, and say the placed bytes. Assumes nothing.
use mathlib.Core.Path.{◌≡◌, refl, sym, ap, ◌∙◌}
use mathlib.Core.Logic.{◌⊎◌, inl, inr}
use mathlib.Core.Bool.{Bool, true, false}
use mathlib.Core.List.{List, [], ◌∷◌}
use Prim.Native.Nat.{ℕ, ◌+◌, ◌-◌, ◌%◌, ◌≤◌, ◌<◌, min, max}
use native.Mathlib.Omega.{arith}
use lib.Dec.{eqb, leb}
use lib.ListN.{length}
use Rattle.words.specs.Choice.{pick, every, some}
use Rattle.words.specs.Memory.{Mem, mem, from, In, write}
use Rattle.words.specs.Page.{page_size, page_start, page_end}
use Rattle.words.proofs.Choice.{both_true}
use Rattle.words.proofs.Memory.{Out, in_or_out, write_in, write_out}
use Rattle.words.proofs.Slices.{mem_past}
use Rattle.object.specs.Header.{header_refusal, table_end}
use Rattle.object.specs.ProgramHeader.{loads_of}
use Rattle.object.specs.Segments.{holds_headers, segment_ok, all_apart, segments_ok, end_of, span_of, file_bytes, place_segment, place_segments, placed_of}
use Rattle.object.specs.Placed.{object_span, object_bytes, file_refusal}
use Rattle.object.specs.Runs.{file_from, zeros, Run, between, by_address, file_end, segment_runs, runs_from, runs_of, said_by}
use Rattle.object.specs.declared.program_header.Segment.{Segment}
use Rattle.object.proofs.Ranges.{split}
use Rattle.object.proofs.RefusalLaws.{required, after_zero}
use Rattle.object.proofs.SegmentLaws.{Sound, sound, bytes_from}
use Rattle.object.proofs.OrderedSegments.{Ascending, ascending, every_ordered, end_ordered, place_out, place_ordered, place_above}
use Rattle.object.proofs.RunLaws.{Tiled, tiled_between, said_none, said_in, said_out}

-- ---- the runs follow one another

-- file bytes end in the pages of the segment
file_end_lem : (n : ℕ) (s : Segment) → Sound n s → file_end n s ≤ page_end (s.vaddr + s.memsz)
file_end_lem n s o = omega (arith, o.file_bytes_lem)

max_all : (a f e : ℕ) → a ≤ e → f ≤ e → max (max a f) e ≡ e
max_all a f e h g = omega arith

tiled_segment :
    (n : ℕ) (s : Segment) (rs : List Run) (b : ℕ) → Sound n s → Tiled (page_end (s.vaddr + s.memsz)) rs b
    → Tiled (page_start s.vaddr) (segment_runs n s rs) b
unfolding segment_runs
tiled_segment n s rs b o t =
    let a : max (page_start s.vaddr) (s.vaddr + s.filesz) ≡ s.vaddr + s.filesz = omega arith in
    let c : max (s.vaddr + s.filesz) (s.vaddr + s.memsz) ≡ s.vaddr + s.memsz = omega (arith, o.file_bytes_lem) in
    let d : max (max (s.vaddr + s.memsz) (file_end n s)) (page_end (s.vaddr + s.memsz)) ≡ page_end (s.vaddr + s.memsz)
    = max_all (s.vaddr + s.memsz) (file_end n s) (page_end (s.vaddr + s.memsz)) (omega arith) (file_end_lem n s o) in
    tiled_between (page_start s.vaddr) (s.vaddr + s.filesz) _ _ b
    (rw a
    (tiled_between (s.vaddr + s.filesz) (s.vaddr + s.memsz) _ _ b
    (rw c
    (tiled_between (s.vaddr + s.memsz) (file_end n s) _ _ b
    (tiled_between (max (s.vaddr + s.memsz) (file_end n s)) (page_end (s.vaddr + s.memsz)) _ rs b (rw d t))))))

pub tiled_runs : (n done : ℕ) (ss : List Segment) → every (segment_ok n) ss ≡ true → Ascending done ss
    → Tiled done (runs_from n done ss) (max done (page_end (end_of ss)))
unfolding every runs_from end_of
tiled_runs n done [] ok h = omega arith
tiled_runs n done (s ∷ ss) ok h =
    let b = both_true (segment_ok n s) (every (segment_ok n) ss) ok in
    let e = s.vaddr + s.memsz in
    let a : max done (page_start s.vaddr) ≡ page_start s.vaddr = omega (arith, h.0) in
    let c : max (page_end e) (page_end (end_of ss)) ≡ max done (page_end (max e (end_of ss))) = omega (arith, h.0) in
    tiled_between done (page_start s.vaddr) zeros _ (max done (page_end (max e (end_of ss))))
    (rw a (tiled_segment n s (runs_from n (page_end e) ss) (max done (page_end (max e (end_of ss)))) (sound n s b.0)
    (rw (sym c) (tiled_runs n (page_end e) ss b.1 h.1))))

-- ---- what they say

-- the byte of the file at an address, from p_offset and p_vaddr or from their pages
same_place : (o v m i : ℕ) → o % 4096 ≡ v % 4096 → v + m ≤ i → o + m + (i - (v + m)) ≡ page_start o + (i - page_start v)
same_place o v m i e h = omega arith

-- before the end of p_filesz's last page
in_page : (v f r b i : ℕ) → i < v + min (page_end (v + f) - v) r → b ≡ page_end (v + f) - page_start v → i < page_start v + b
in_page v f r b i h e = omega arith

-- past the end of the file
past_file : (n o v f i : ℕ) → o % 4096 ≡ v % 4096 → o + f ≤ n → v ≤ i → v + min (page_end (v + f) - v) (n - o) ≤ i → i < page_end (v + f)
    → n ≤ page_start o + (i - page_start v)
past_file n o v f i e h l g u = let k : n - o ≤ i - v = omega arith in omega (arith, k)

module _ (file : List ℕ) (s : Segment) (rs : List Run) (o : Sound (length file) s) where
  -- the runs of the segment from its second, its third and its fourth on
  abbrev from_4 : List Run
  from_4 = between (max (s.vaddr + s.memsz) (file_end (length file) s)) (page_end (s.vaddr + s.memsz)) zeros rs

  abbrev from_3 : List Run
  from_3 = between (s.vaddr + s.memsz) (file_end (length file) s) (file_from (s.offset + s.memsz)) from_4

  abbrev from_2 : List Run
  from_2 = between (s.vaddr + s.filesz) (s.vaddr + s.memsz) zeros from_3

  module _ (i : ℕ) where
    past_1 : s.vaddr + s.filesz ≤ i → said_by file (segment_runs (length file) s rs) i ≡ said_by file from_2 i
    unfolding segment_runs
    past_1 h = said_out file (page_start s.vaddr) (s.vaddr + s.filesz) (file_from (page_start s.offset)) from_2 i (inr h)

    past_2 : s.vaddr + s.memsz ≤ i → said_by file (segment_runs (length file) s rs) i ≡ said_by file from_3 i
    past_2 h =
        past_1 (omega (arith, o.file_bytes_lem)) ∙ said_out file (s.vaddr + s.filesz) (s.vaddr + s.memsz) zeros from_3 i (inr h)

    past_3 : max (s.vaddr + s.memsz) (file_end (length file) s) ≤ i → said_by file (segment_runs (length file) s rs) i ≡ said_by file from_4 i
    past_3 h =
        past_2 (omega arith)
        ∙ said_out file (s.vaddr + s.memsz) (file_end (length file) s) (file_from (s.offset + s.memsz)) from_4 i (inr (omega arith))

    -- past the segment's pages the other runs say it
    said_after : page_end (s.vaddr + s.memsz) ≤ i → said_by file (segment_runs (length file) s rs) i ≡ said_by file rs i
    said_after h =
        past_3 (omega (arith, file_end_lem (length file) s o))
        ∙ said_out file (max (s.vaddr + s.memsz) (file_end (length file) s)) (page_end (s.vaddr + s.memsz)) zeros rs i (inr h)

  module _ (m : Mem) (i : ℕ) (z : m i ≡ 0) (l : page_start s.vaddr ≤ i) (u : i < page_end (s.vaddr + s.memsz)) where
    -- document 01's two writes
    abbrev pages : Mem
    pages = write m (page_start s.vaddr) (file_bytes s) (from (page_start s.offset) (mem file))

    kept : Out (s.vaddr + s.filesz) (s.memsz - s.filesz) i → place_segment file s m i ≡ pages i
    unfolding place_segment
    kept w = write_out pages (s.vaddr + s.filesz) (s.memsz - s.filesz) (λ _. 0) i w

    zeroed : In (s.vaddr + s.filesz) (s.memsz - s.filesz) i → place_segment file s m i ≡ 0
    unfolding place_segment
    zeroed w = write_in pages (s.vaddr + s.filesz) (s.memsz - s.filesz) (λ _. 0) i w

    copied : i < page_start s.vaddr + file_bytes s → pages i ≡ mem file (page_start s.offset + (i - page_start s.vaddr))
    copied w = write_in m (page_start s.vaddr) (file_bytes s) (from (page_start s.offset) (mem file)) i (l, w)

    first : i < s.vaddr + s.filesz → said_by file (segment_runs (length file) s rs) i ≡ place_segment file s m i
    unfolding segment_runs
    first h =
        said_in file (page_start s.vaddr) (s.vaddr + s.filesz) (file_from (page_start s.offset)) from_2 i l h
        ∙ sym (kept (inl h) ∙ copied (omega (arith, bytes_from (length file) s o)))

    second : s.vaddr + s.filesz ≤ i → i < s.vaddr + s.memsz → said_by file (segment_runs (length file) s rs) i ≡ place_segment file s m i
    second h g =
        past_1 i h
        ∙ (said_in file (s.vaddr + s.filesz) (s.vaddr + s.memsz) zeros from_3 i h g ∙ sym (zeroed (h, omega (arith, o.file_bytes_lem))))

    third : s.vaddr + s.memsz ≤ i → i < file_end (length file) s → said_by file (segment_runs (length file) s rs) i ≡ place_segment file s m i
    third h g =
        let e : s.offset + s.memsz + (i - (s.vaddr + s.memsz)) ≡ page_start s.offset + (i - page_start s.vaddr) = same_place s.offset s.vaddr s.memsz i o.aligned h in
        past_2 i h
        ∙ (said_in file (s.vaddr + s.memsz) (file_end (length file) s) (file_from (s.offset + s.memsz)) from_4 i h g
        ∙ (ap (mem file) e ∙ sym (kept (inr (omega (arith, o.file_bytes_lem))) ∙ copied (in_page s.vaddr s.filesz (length file - s.offset) (file_bytes s) i g (bytes_from (length file) s o)))))

    fourth : max (s.vaddr + s.memsz) (file_end (length file) s) ≤ i → said_by file (segment_runs (length file) s rs) i ≡ place_segment file s m i
    fourth h =
        past_3 i h
        ∙ (said_in file (max (s.vaddr + s.memsz) (file_end (length file) s)) (page_end (s.vaddr + s.memsz)) zeros rs i h u
        ∙ sym (kept (inr (omega (arith, o.file_bytes_lem))) ∙ go (in_or_out (page_start s.vaddr) (file_bytes s) i)))
      where
        page_of : In (page_start s.vaddr) (file_bytes s) i → i < page_end (s.vaddr + s.filesz)
        page_of w = omega (arith, bytes_from (length file) s o)

        go : In (page_start s.vaddr) (file_bytes s) i ⊎ Out (page_start s.vaddr) (file_bytes s) i → pages i ≡ 0
        go (inl w) =
            copied w.1
            ∙ mem_past file (page_start s.offset + (i - page_start s.vaddr)) (past_file (length file) s.offset s.vaddr s.filesz i o.aligned o.in_file (omega arith) (omega arith) (page_of w))
        go (inr w) = write_out m (page_start s.vaddr) (file_bytes s) (from (page_start s.offset) (mem file)) i w ∙ z

    said_segment : said_by file (segment_runs (length file) s rs) i ≡ place_segment file s m i
    said_segment = go (split i (s.vaddr + s.filesz)) (split i (s.vaddr + s.memsz)) (split i (file_end (length file) s))
      where
        go : (i < s.vaddr + s.filesz) ⊎ (s.vaddr + s.filesz ≤ i) → (i < s.vaddr + s.memsz) ⊎ (s.vaddr + s.memsz ≤ i)
            → (i < file_end (length file) s) ⊎ (file_end (length file) s ≤ i)
            → said_by file (segment_runs (length file) s rs) i ≡ place_segment file s m i
        go (inl a) b c = first a
        go (inr a) (inl b) c = second a b
        go (inr a) (inr b) (inl c) = third b c
        go (inr a) (inr b) (inr c) = fourth (omega arith)

said_runs :
    (file : List ℕ) (done : ℕ) (ss : List Segment) (m : Mem) (i : ℕ) → every (segment_ok (length file)) ss ≡ true → Ascending done ss
    → done ≤ i
    → m i ≡ 0
    → said_by file (runs_from (length file) done ss) i ≡ place_segments file ss m i
unfolding every runs_from place_segments
said_runs file done [] m i ok h l z = said_none file i ∙ sym z
said_runs file done (s ∷ ss) m i ok h l z =
    let b = both_true (segment_ok (length file) s) (every (segment_ok (length file)) ss) ok in
    go (sound (length file) s b.0) b.1 (split i (page_start s.vaddr)) (split i (page_end (s.vaddr + s.memsz)))
    (λ g q. said_runs file (page_end (s.vaddr + s.memsz)) ss (place_segment file s m) i b.1 h.1 g q)
  where
    rest : List Run
    rest = runs_from (length file) (page_end (s.vaddr + s.memsz)) ss

    go : Sound (length file) s → every (segment_ok (length file)) ss ≡ true → (i < page_start s.vaddr) ⊎ (page_start s.vaddr ≤ i)
        → (i < page_end (s.vaddr + s.memsz)) ⊎ (page_end (s.vaddr + s.memsz) ≤ i)
        → (page_end (s.vaddr + s.memsz) ≤ i → place_segment file s m i ≡ 0
        → said_by file (runs_from (length file) (page_end (s.vaddr + s.memsz)) ss) i ≡ place_segments file ss (place_segment file s m) i)
        → said_by file
        (between done (page_start s.vaddr) zeros (segment_runs (length file) s (runs_from (length file) (page_end (s.vaddr + s.memsz)) ss))) i
        ≡ place_segments file ss (place_segment file s m) i
    go o ok (inl a) c next =
        said_in file done (page_start s.vaddr) zeros (segment_runs (length file) s (runs_from (length file) (page_end (s.vaddr + s.memsz)) ss)) i l a
        ∙ sym (place_above file (page_end (s.vaddr + s.memsz)) ss (place_segment file s m) i ok h.1 (omega arith)
        ∙ (place_out file s m i o (inl a) ∙ z))
    go o ok (inr a) (inl c) next =
        said_out file done (page_start s.vaddr) zeros (segment_runs (length file) s (runs_from (length file) (page_end (s.vaddr + s.memsz)) ss)) i (inr a)
        ∙ (said_segment file s (runs_from (length file) (page_end (s.vaddr + s.memsz)) ss) o m i z a c
        ∙ sym (place_above file (page_end (s.vaddr + s.memsz)) ss (place_segment file s m) i ok h.1 c))
    go o ok (inr a) (inr c) next =
        said_out file done (page_start s.vaddr) zeros (segment_runs (length file) s (runs_from (length file) (page_end (s.vaddr + s.memsz)) ss)) i (inr a)
        ∙ (said_after file s (runs_from (length file) (page_end (s.vaddr + s.memsz)) ss) o i c ∙ next c (place_out file s m i o (inr c) ∙ z))

-- ---- the object

-- what refusal 7 lets through
module _ (file : List ℕ) (ok : segments_ok file (loads_of file) ≡ true) where
  pub fine : (every (segment_ok (length file)) (loads_of file) ≡ true) × (all_apart (loads_of file) ≡ true)
  unfolding segments_ok
  fine =
      let a = both_true (leb (length (loads_of file)) 16) _ ok in
      let b = both_true (some (holds_headers (table_end file)) (loads_of file)) _ a.1 in
      both_true (every (segment_ok (length file)) (loads_of file)) (all_apart (loads_of file)) b.1

  in_order : Ascending 0 (by_address (loads_of file))
  in_order = ascending (length file) (loads_of file) fine.0 fine.1

  pub tiled_file : Tiled 0 (runs_from (length file) 0 (by_address (loads_of file))) (span_of (loads_of file))
  tiled_file =
      let e : max 0 (page_end (end_of (by_address (loads_of file)))) ≡ page_end (end_of (loads_of file)) = omega (arith, end_ordered (loads_of file)) in
      rw e at (tiled_runs (length file) 0 (by_address (loads_of file)) (every_ordered (segment_ok (length file)) (loads_of file) fine.0) in_order)

  pub said_file : (i : ℕ) → said_by file (runs_from (length file) 0 (by_address (loads_of file))) i ≡ placed_of file i
  unfolding placed_of
  said_file i =
      said_runs file 0 (by_address (loads_of file)) (λ _. 0) i (every_ordered (segment_ok (length file)) (loads_of file) fine.0) in_order (omega arith) refl
      ∙ ap (λ (m : Mem). m i) (place_ordered file (loads_of file) (λ _. 0) fine.0 fine.1)

tiled_host : (file : List ℕ) → Tiled 0 (between 0 (length file) (file_from 0) []) (length file)
tiled_host file = tiled_between 0 (length file) (file_from 0) [] (length file) (omega arith)

-- what refusals 4 to 7 let through
pub passed_seven : (host : Bool) (file : List ℕ) → file_refusal host file ≡ 0
    → pick host (eqb (length file % page_size) 0) (segments_ok file (loads_of file)) ≡ true
unfolding file_refusal
passed_seven host file e = (required (pick host (eqb (length file % page_size) 0) (segments_ok file (loads_of file))) 6 _ (after_zero (header_refusal file) _ e).1).0

pub tiled_object : (host : Bool) (file : List ℕ) → file_refusal host file ≡ 0 → Tiled 0 (runs_of host file) (object_span host file)
unfolding runs_of object_span
tiled_object true file e = tiled_host file
tiled_object false file e = tiled_file file (passed_seven false file e)

pub runs_say :
    (host : Bool) (file : List ℕ) → file_refusal host file ≡ 0 → (i : ℕ) → i < object_span host file
    → said_by file (runs_of host file) i ≡ object_bytes host file i
unfolding runs_of object_span object_bytes
runs_say true file e i h = said_in file 0 (length file) (file_from 0) [] i (omega arith) h ∙ ap (mem file) (omega arith)
runs_say false file e i h = said_file file (passed_seven false file e) i
