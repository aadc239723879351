-- Refusals 7, 21 and 8, and what placing leaves. Assumes nothing.
use mathlib.Core.Path.{◌≡◌, refl, sym, ap, ◌∙◌}
use mathlib.Core.Bool.{Bool, true, false}
use mathlib.Core.List.{List, [], ◌∷◌}
use Prim.Native.Nat.{ℕ, ◌-◌, ◌%◌, ◌≤◌, ◌<◌}
use native.Mathlib.Omega.{arith}
use borrow.Author.Tests.{eq-eqb, ne_eqb, le-leb, lt-leb, leb-true}
use lib.Dec.{eqb, leb}
use lib.ListN.{length}
use Rattle.words.specs.Choice.{pick, both, every, some}
use Rattle.words.specs.Memory.{mem, from, patch}
use Rattle.words.specs.Page.{page_size}
use Rattle.words.proofs.Choice.{both_true}
use Rattle.words.proofs.Slices.{patch_same}
use Rattle.object.specs.Refusal.{require, after}
use Rattle.object.specs.Header.{header_refusal, table_end}
use Rattle.object.proofs.RefusalLaws.{required, after_met, after_zero, after_twice}
use Rattle.object.proofs.SegmentLaws.{sound}
use Rattle.object.proofs.AlignLaws.{align_least, align_largest}
use Rattle.object.proofs.MarkLaws.{never}
use Rattle.object.proofs.RunLaws.{written, write_between}
use Rattle.object.proofs.ObjectRuns.{fine, passed_seven, tiled_object, runs_say}
use Rattle.object.specs.ProgramHeader.{loads_of}
use Rattle.object.specs.Segments.{holds_headers, segment_ok, all_apart, segments_ok, end_of, span_of}
use Rattle.object.specs.Alignment.{align_ok, align_of}
use Rattle.object.specs.Placed.{segments_of, object_span, object_align, object_bytes, file_refusal, place_refusal, placed_part, Checked}
use Rattle.object.specs.Runs.{file_from, by_address, runs_from, runs_of, said_by}
use Rattle.object.specs.Steps.WriteRuns.{write_runs}
use Rattle.object.specs.declared.program_header.Segment.{Segment}
use Rattle.object.specs.declared.object_data.Placed.{Placed}

-- ---- the segments of a file

module _ (file : List ℕ) (ss : List Segment) where
  pub many : 16 < length ss → segments_ok file ss ≡ false
  unfolding segments_ok
  many h = rw (lt-leb _ _ h)

  -- the tests in their order
  pub tests_in_order :
      length ss ≤ 16
      → segments_ok file ss ≡ both (some (holds_headers (table_end file)) ss) (both (every (segment_ok (length file)) ss) (all_apart ss))
  unfolding segments_ok
  tests_in_order few = rw (le-leb _ _ few)

  pub ok_every : segments_ok file ss ≡ true → every (segment_ok (length file)) ss ≡ true
  unfolding segments_ok
  ok_every ok =
      let a = both_true (leb (length ss) 16) _ ok in
      let b = both_true (some (holds_headers (table_end file)) ss) _ a.1 in
      (both_true (every (segment_ok (length file)) ss) _ b.1).0

-- ---- refusals 4 to 8 and 21

module _ (host : Bool) (file : List ℕ) where
  abbrev pub Passes : Bool → Type 0
  Passes t = pick host (eqb (length file % page_size) 0) (segments_ok file (loads_of file)) ≡ t

  abbrev pub Aligned : Bool → Type 0
  Aligned t = every align_ok (segments_of host file) ≡ t

  pub refusal_header : (header_refusal file ≡ 0 → ⊥) → file_refusal host file ≡ header_refusal file
  unfolding file_refusal
  refusal_header ne = after_met (header_refusal file) _ ne

  module _ (z : header_refusal file ≡ 0) where
    pub refusal_seven : Passes false → file_refusal host file ≡ 7
    unfolding file_refusal after require
    refusal_seven e = rw (z, e)

    pub refusal_align : Passes true → Aligned false → file_refusal host file ≡ 21
    unfolding file_refusal after require
    refusal_align e g = rw (z, e, g)

    pub refusal_none : Passes true → Aligned true → file_refusal host file ≡ 0
    unfolding file_refusal after require
    refusal_none e g = rw (z, e, g)

  -- what refusal 21 lets through
  pub aligned : file_refusal host file ≡ 0 → Aligned true
  unfolding file_refusal
  aligned e =
      let a = after_zero (header_refusal file) _ e in
      let b = required (pick host (eqb (length file % page_size) 0) (segments_ok file (loads_of file))) 6 _ a.1 in
      (required (every align_ok (segments_of host file)) 20 0 b.1).0

  -- the alignment of an object that passes 21
  pub object_align_lem : file_refusal host file ≡ 0 → (4096 ≤ object_align host file) × (object_align host file ≤ 2097152)
  unfolding object_align
  object_align_lem e = (align_least (segments_of host file), align_largest (segments_of host file) (aligned e))

  module _ (room : ℕ) where
    pub place_file : (file_refusal host file ≡ 0 → ⊥) → place_refusal host room file ≡ file_refusal host file
    unfolding place_refusal
    place_file ne = after_met (file_refusal host file) _ ne

    module _ (z : file_refusal host file ≡ 0) where
      pub place_eight : room < object_span host file → place_refusal host room file ≡ 8
      unfolding place_refusal after require
      place_eight h = rw (z, lt-leb (object_span host file) room h)

      pub place_none : object_span host file ≤ room → place_refusal host room file ≡ 0
      unfolding place_refusal after require
      place_none h = rw (z, le-leb (object_span host file) room h)

    -- 4 to 8 and 21 as one chain
    pub place_chain : place_refusal host room file
        ≡ after (header_refusal file)
        (require (pick host (eqb (length file % page_size) 0) (segments_ok file (loads_of file))) 7
        (require (every align_ok (segments_of host file)) 21
        (require (leb (object_span host file) room) 8 0)))
    unfolding place_refusal file_refusal
    place_chain =
        after_twice (header_refusal file) (pick host (eqb (length file % page_size) 0) (segments_ok file (loads_of file)))
        (every align_ok (segments_of host file)) (require (leb (object_span host file) room) 8 0)

-- ---- what placing leaves

module _ (host : Bool) (file entry : List ℕ) where
  pub part_placed : place_refusal host (length entry) file ≡ 0
      → placed_part host file entry ≡ patch entry 0 (object_span host file) (object_bytes host file)
  unfolding placed_part
  part_placed z = rw (eq-eqb _ _ z)

  part_kept : (place_refusal host (length entry) file ≡ 0 → ⊥) → placed_part host file entry ≡ entry
  unfolding placed_part
  part_kept ne = rw (ne_eqb _ _ ne)

  -- what writing the runs leaves
  runs_placed : file_refusal host file ≡ 0
      → write_runs file (runs_of host file) entry ≡ patch entry 0 (object_span host file) (object_bytes host file)
  runs_placed z =
      let e : object_span host file - 0 ≡ object_span host file = omega arith in
      written file 0 (runs_of host file) (object_span host file) entry (tiled_object host file z)
      ∙ (ap (λ (k : ℕ). patch entry 0 k (from 0 (said_by file (runs_of host file)))) e
      ∙ patch_same entry 0 (object_span host file) (from 0 (said_by file (runs_of host file))) (object_bytes host file)
      (λ k h. ap (said_by file (runs_of host file)) (omega arith) ∙ runs_say host file z k h))

  module _ (p : Placed) (c : Checked host file p) where
    pub placed_eight : length entry < p.span → (place_refusal host (length entry) file ≡ 8) × (entry ≡ placed_part host file entry)
    placed_eight h =
        let e : place_refusal host (length entry) file ≡ 8 = place_eight host file (length entry) c.passed (omega (arith, c.span)) in
        (e, sym (part_kept (λ (g : place_refusal host (length entry) file ≡ 0). omega (arith, e, g))))

    pub placed_runs : {exit : List ℕ} → p.span ≤ length entry → exit ≡ write_runs file (runs_of host file) entry
        → (place_refusal host (length entry) file ≡ 0) × (exit ≡ placed_part host file entry)
    placed_runs h x =
        let e : place_refusal host (length entry) file ≡ 0 = place_none host file (length entry) c.passed (omega (arith, c.span)) in
        (e, x ∙ (runs_placed c.passed ∙ sym (part_placed e)))

-- ---- the host

module _ (file : List ℕ) (z : header_refusal file ≡ 0) where
  pub host_seven : (length file % page_size ≡ 0 → ⊥) → file_refusal true file ≡ 7
  host_seven ne = refusal_seven true file z (ne_eqb (length file % page_size) 0 ne)

  pub host_checked :
      (p : Placed) → length file % page_size ≡ 0 → p.span ≡ length file → p.align ≡ 4096 → p.loads.items ≡ []
      → Checked true file p
  unfolding object_span object_align segments_of align_of every
  host_checked p whole s g l =
      record { passed = refusal_none true file z (eq-eqb (length file % page_size) 0 whole) refl; span = s; align = g; segments = l }

pub host_runs : (file entry : List ℕ) {exit : List ℕ} → exit ≡ patch entry 0 (length file) (from 0 (mem file)) → exit ≡ write_runs file (runs_of true file) entry
unfolding runs_of write_runs
host_runs file entry x =
    let z : length file ≡ length file - 0 = omega arith in
    x ∙ (ap (λ (k : ℕ). patch entry 0 k (from 0 (mem file))) z ∙ sym (write_between file 0 (length file) (file_from 0) [] entry))

-- ---- the program or a library

module _ (file : List ℕ) (z : header_refusal file ≡ 0) where
  pub file_seven : segments_ok file (loads_of file) ≡ false → file_refusal false file ≡ 7
  file_seven e = refusal_seven false file z e

  module _ (ok : segments_ok file (loads_of file) ≡ true) where
    pub file_align : every align_ok (loads_of file) ≡ false → file_refusal false file ≡ 21
    unfolding segments_of
    file_align e = refusal_align false file z ok e

    pub file_checked :
        (p : Placed) → every align_ok (loads_of file) ≡ true → p.span ≡ span_of (loads_of file) → p.align ≡ align_of (loads_of file)
        → p.loads.items ≡ loads_of file
        → Checked false file p
    unfolding object_span object_align segments_of
    file_checked p al s g l = record { passed = refusal_none false file z ok al; span = s; align = g; segments = l }

module _ (file : List ℕ) (ss : List Segment) (same : ss ≡ segments_of false file) where
  pub file_every : file_refusal false file ≡ 0 → (length ss ≤ 16) × (every (segment_ok (length file)) ss ≡ true)
  unfolding segments_of segments_ok
  file_every z =
      let ok = passed_seven false file z in
      rw same (leb-true (length (loads_of file)) 16 (both_true (leb (length (loads_of file)) 16) _ ok).0, (fine file ok).0)

  pub file_runs :
      (entry : List ℕ) {exit : List ℕ} → exit ≡ write_runs file (runs_from (length file) 0 (by_address ss)) entry
      → exit ≡ write_runs file (runs_of false file) entry
  unfolding segments_of runs_of
  file_runs entry x = x ∙ ap (λ (ss : List Segment). write_runs file (runs_from (length file) 0 (by_address ss)) entry) same

-- the span of a file that is not refused is not empty
pub file_span : (file : List ℕ) → file_refusal false file ≡ 0 → 0 < object_span false file
unfolding object_span segments_ok some every end_of
file_span file z = go (loads_of file) (passed_seven false file z)
  where
    go : (ss : List Segment) → segments_ok file ss ≡ true → 0 < span_of ss
    go [] ok = never ok
    go (s ∷ ss) ok =
        let a = both_true (leb (length (s ∷ ss)) 16) _ ok in
        let b = both_true (some (holds_headers (table_end file)) (s ∷ ss)) _ a.1 in
        let c = both_true (every (segment_ok (length file)) (s ∷ ss)) _ b.1 in
        let d = both_true (segment_ok (length file) s) _ c.0 in
        omega (arith, (sound (length file) s d.0).some_bytes)
