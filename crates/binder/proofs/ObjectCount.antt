-- A set that was loaded has no more objects than the arena has bytes: each has a dynamic array in its span. Assumes nothing.
use Rattle.std.specs.Prelude.{Option, None, Some}
use Rattle.std.proofs.Common.{◌≡◌, ℕ, zero, suc, ◌+◌, ◌-◌, ◌<◌, ◌≤◌, Bool, true, List, [], ◌∷◌, length, sym, true≢false, arith}
use Rattle.words.proofs.Slices.{length_tab}
use Rattle.object.specs.DynamicArray.{item_room, end_in, ends_inside}
use Rattle.object.specs.DynamicArray as arrays
use Rattle.object.specs.DynamicFields.{fields_of}
use Rattle.object.specs.ProgramHeader.{dynamic_of}
use Rattle.object.specs.Placed.{segments_of, object_span, object_bytes, object_image}
use Rattle.object.specs.Record.{fields_refusal, read_refusal}
use Rattle.object.specs.Record as records
use Rattle.object.specs.Loaded.{object_refusal}
use Rattle.object.specs.declared.program_header.Segment.{Segment}
use Rattle.object.proofs.RefusalLaws.{required, after_zero}
use Rattle.binder.specs.Setting.{Setting}
use Rattle.binder.specs.Instance.{File, offset_of}
use Rattle.binder.specs.Steps.Prepared.{load_from}
use Rattle.binder.proofs.OffsetLaws.{offset_after, load_read, link_fits}
use Rattle.binder.proofs.Lies.{first_loaded}
use Rattle.binder.specs.Verdict.{passed}

-- the entry of tag 0 is inside the span
end_room : (n : ℕ) (image : List ℕ) (at : ℕ) → end_in n image at ≡ true → 0 < n
unfolding arrays.end_in
end_room zero image at e = absurd (true≢false (sym e))
end_room (suc n) image at e = omega arith

read_some : (host : Bool) (image : List ℕ) (segments : List Segment) (d : Option ℕ) → read_refusal host image segments d ≡ 0 → 0 < length image
unfolding records.read_refusal records.fields_refusal
read_some host image segments None e = absurd (omega arith)
read_some host image segments (Some at) e =
    let a = after_zero (fields_refusal (ends_inside image at) (fields_of image at)) _ e in
    let b = required (ends_inside image at) 8 _ a.0 in
    omega (arith, end_room (item_room image at) image at b.0)

span_some : (f : File) (room : ℕ) → object_refusal f.host room f.bytes ≡ 0 → 0 < object_span f.host f.bytes
span_some f room e =
    omega (
      arith,
      read_some f.host (object_image f.host f.bytes) (segments_of f.host f.bytes) (dynamic_of f.bytes) (load_read f room e),
      length_tab (object_span f.host f.bytes) (object_bytes f.host f.bytes),
    )

-- the files from object `n` on, the first at the offset `off`
pub few_files :
    (setting : Setting) (size : ℕ) (files : List File) (n off : ℕ) → off ≤ size → load_from setting size n off files ≡ passed → off + length files ≤ size
unfolding load_from
few_files setting size [] n off l v = omega arith
few_files setting size (f ∷ fs) n off l v =
    let a = first_loaded setting size f fs n off v in
    let b = offset_after setting f off in
    let c = span_some f (size - offset_of setting f off) a.0 in
    omega (
      arith,
      few_files setting size fs (n + 1) (offset_of setting f off + object_span f.host f.bytes) (link_fits f setting size off l a.0) a.1,
    )
