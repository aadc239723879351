-- Placing and then reading: the image that is read is the file's, wherever it was placed. Assumes nothing.
use mathlib.Core.Path.{◌≡◌, sym, ap, ◌∙◌}
use mathlib.Core.Bool.{Bool}
use mathlib.Core.List.{List}
use Prim.Native.Nat.{ℕ, ◌≤◌, ◌<◌}
use native.Mathlib.Omega.{arith}
use borrow.Author.Tests.{leb-true}
use lib.Dec.{leb}
use lib.ListN.{length, take}
use Rattle.std.specs.Prelude.{Option, None, Some, Result, Ok, Err, OnOk}
use Rattle.words.specs.Memory.{patch}
use Rattle.words.proofs.Slices.{length_tab, take_patch, length_patch}
use Rattle.object.specs.ProgramHeader.{dynamic_of}
use Rattle.object.specs.Placed.{segments_of, object_span, object_bytes, object_image, file_refusal, place_refusal, placed_part, Checked}
use Rattle.object.specs.Record.{record_in, record_at, read_refusal, ReadBy}
use Rattle.object.specs.Loaded.{object_record, object_refusal, LoadedBy}
use Rattle.object.specs.declared.object_data.Placed.{Placed}
use Rattle.object.specs.declared.dynamic_fields.ObjectData.{ObjectData}
use Rattle.words.specs.Refusal.{refusal_number}
use Rattle.words.specs.declared.refusal.Refusal.{Refusal}
use Rattle.object.proofs.RefusalLaws.{required, after_met, after_none, after_zero, number_some}
use Rattle.object.proofs.PlaceLaws.{part_placed, place_file, place_eight}

module _ (host : Bool) (file : List ℕ) where
  -- refusal 8 passed: there is room for the span
  pub place_fits : (room : ℕ) → place_refusal host room file ≡ 0 → object_span host file ≤ room
  unfolding place_refusal
  place_fits room e =
      let a = after_zero (file_refusal host file) _ e in
      let c = required (leb (object_span host file) room) 7 _ a.1 in
      leb-true (object_span host file) room c.0

  -- a refusal by the headers, and refusal 8
  pub load_headers : (room : ℕ) → (file_refusal host file ≡ 0 → ⊥) → object_refusal host room file ≡ file_refusal host file
  unfolding object_refusal
  load_headers room ne =
      let p : place_refusal host room file ≡ file_refusal host file = place_file host file room ne in
      after_met (place_refusal host room file) _ (λ z. ne (sym p ∙ z)) ∙ p

  pub load_eight : (room : ℕ) → file_refusal host file ≡ 0 → room < object_span host file → object_refusal host room file ≡ 8
  unfolding object_refusal
  load_eight room z h =
      let p : place_refusal host room file ≡ 8 = place_eight host file room z h in
      after_met (place_refusal host room file) _ (λ (g : place_refusal host room file ≡ 0). omega (arith, p, g)) ∙ p

  -- what is loaded passed the header checks
  pub load_checked : (room : ℕ) → object_refusal host room file ≡ 0 → file_refusal host file ≡ 0
  unfolding object_refusal place_refusal
  load_checked room e = (after_zero (file_refusal host file) _ (after_zero (place_refusal host room file) _ e).0).0

  -- the image read after placing is the file's own
  pub image_placed :
      (entry exit : List ℕ) → object_span host file ≤ length entry
      → exit ≡ patch entry 0 (object_span host file) (object_bytes host file)
      → take (object_span host file) exit ≡ object_image host file
  image_placed entry exit fits e = rw e (take_patch entry (object_span host file) (object_bytes host file) fits)

  -- the record has the file's span
  pub record_span : (object_record host file).span ≡ object_span host file
  unfolding object_record record_at record_in
  record_span = go (dynamic_of file)
    where
      go : (d : Option ℕ) → (record_at (object_image host file) (segments_of host file) d).span ≡ object_span host file
      go None = length_tab (object_span host file) (object_bytes host file)
      go (Some at) = length_tab (object_span host file) (object_bytes host file)

-- an object that is loaded was placed
pub loaded_part :
    (host : Bool) (file entry exit : List ℕ) → exit ≡ placed_part host file entry → object_refusal host (length entry) file ≡ 0
    → exit ≡ patch entry 0 (object_span host file) (object_bytes host file)
unfolding object_refusal
loaded_part host file entry exit e z = e ∙ part_placed host file entry (after_zero (place_refusal host (length entry) file) _ z).0

-- ---- loading: placing, then reading

module _ (host : Bool) (file entry exit : List ℕ) where
  -- placing is refused
  pub load_refused :
      (e : Refusal) → refusal_number e ≡ place_refusal host (length entry) file → exit ≡ placed_part host file entry
      → LoadedBy host file entry exit (Err e)
  unfolding object_refusal
  load_refused e h x =
      record {
        refusal = h ∙ sym (after_met (place_refusal host (length entry) file) _ (λ z. number_some e (h ∙ z)));
        object = tt;
        part = x;
        fits = tt;
      }

  module _ (p : Placed) (c : Checked host file p) (z : place_refusal host (length entry) file ≡ 0) (x : exit ≡ placed_part host file entry) where
    room : object_span host file ≤ length entry
    room = place_fits host file (length entry) z

    placed : exit ≡ patch entry 0 (object_span host file) (object_bytes host file)
    placed = x ∙ part_placed host file entry z

    pub load_fits : p.span ≤ length exit
    load_fits = omega (arith, room, c.span, ap length placed, length_patch entry 0 (object_span host file) (object_bytes host file))

    pub load_read :
        (r : Result ObjectData Refusal) (d : Option ℕ) → d ≡ dynamic_of file → ReadBy host (take p.span exit) p.loads.items d r
        → LoadedBy host file entry exit r
    unfolding object_refusal object_record
    load_read r d ed read =
        let image : take p.span exit ≡ object_image host file = rw c.span (image_placed host file entry exit room placed) in
        let told = rw (image, c.segments, ed) at read in
        record {
          refusal =
              told.refusal
              ∙ sym (after_none (place_refusal host (length entry) file)
              (read_refusal host (object_image host file) (segments_of host file) (dynamic_of file)) z);
          object = told.object;
          part = x;
          fits = fits r;
        }
      where
        fits : (r : Result ObjectData Refusal) → OnOk r (object_span host file ≤ length entry)
        fits (Ok o) = room
        fits (Err e) = tt
