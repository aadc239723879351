-- The order that the code reads off a loaded set is the definition's: the needs that it finds in the arena are those of the files. Assumes
-- nothing.
use Rattle.std.specs.Prelude.{Option, None, Some}
use Rattle.std.proofs.Common.{◌≡◌, ℕ, ◌-◌, ◌<◌, ◌≤◌, Bool, leb, List, ◌∷◌, map, length, get_or, drop, sym, refl, ap, ◌∙◌, arith, length-drop, leb-true}
use lib.ListN.{length-map}
use Rattle.model.specs.Objects.{count}
use Rattle.model.specs.Layout.{objs_of}
use Rattle.model.specs.Order.{keep, order_of}
use Rattle.model.proofs.OrderSame.{order_same}
use Rattle.object.specs.declared.program_header.Segment.{Segment}
use Rattle.object.specs.declared.hash_tables.View.{View}
use Rattle.object.specs.DynamicArray.{ends_inside}
use Rattle.object.specs.DynamicFields.{fields_of, needed_offsets}
use Rattle.object.specs.ProgramHeader.{dynamic_of}
use Rattle.object.specs.Record as records
use Rattle.object.specs.Record.{view_of, fields_refusal, read_refusal}
use Rattle.object.specs.Placed.{segments_of}
use Rattle.object.specs.Loaded as loading
use Rattle.object.proofs.RefusalLaws.{required, after_zero}
use Rattle.sheet.specs.Sheet.{Input, no_input}
use Rattle.binder.specs.Instance.{File, file_image, file_record, object_from}
use Rattle.binder.specs.Setting.{Setting}
use Rattle.binder.specs.Verdict.{passed, no_file}
use Rattle.binder.specs.Steps.Prepared.{load_from}
use Rattle.binder.specs.Bind.{files_of, names_of}
use Rattle.binder.specs.SetOrder as sets
use Rattle.binder.specs.SetOrder.{set_order}
use Rattle.scope.specs.Steps.Links.{link_at}
use Rattle.scope.specs.Steps.ScopeCode.{image_at}
use Rattle.binder.specs.Steps.Needed.{needed_at, numbers_at, needs_at, FewNeeds, Arranged}
use Rattle.scope.specs.declared.links.Link.{Link}
use Rattle.binder.proofs.OffsetLaws.{load_read}
use Rattle.binder.proofs.Lies.{file_lies, count_is}
use Rattle.binder.proofs.PrepareLaws.{file_at, files_length}
use Rattle.binder.proofs.FileLaws.{host_file, file_of}
use Rattle.binder.proofs.Steady as steady
use Rattle.binder.proofs.Steady.{LoadedSet, PlacedAt}

-- ---- one object

-- its record was read: refusals 9 to 12 were passed
abbrev ReadFrom : File → Type 0
ReadFrom f = read_refusal f.host (file_image f) (segments_of f.host f.bytes) (dynamic_of f.bytes) ≡ 0

module _ (host : Bool) (image : List ℕ) (segments : List Segment) where
  -- refusal 11: "over 64 needs"
  needs_few : (d : Option ℕ) → read_refusal host image segments d ≡ 0 → length (needed_at image d) ≤ 64
  unfolding read_refusal
  needs_few None e = omega arith
  needs_few (Some at) e =
      let a = after_zero (fields_refusal (ends_inside image at) (fields_of image at)) _ e in
      leb-true (length (needed_offsets image at)) 64 (required (leb (length (needed_offsets image at)) 64) 10 _ a.1).0

  needed_is : (d : Option ℕ) → read_refusal host image segments d ≡ 0 → (records.record_at image segments d).needed ≡ needed_at image d
  unfolding read_refusal records.record_at records.record_in
  needed_is None e = absurd (omega arith)
  needed_is (Some at) e = refl

-- what is read where the image, the string table and the dynamic array are the file's
numbers_are :
    (os : List Input) (f : File) (image : List ℕ) (strings : ℕ) (d : Option ℕ) → image ≡ file_image f → strings ≡ (file_record f).strings
    → d ≡ dynamic_of f.bytes → ReadFrom f → numbers_at os image strings d ≡ sets.needed_objects (names_of os) f
unfolding numbers_at sets.needed_objects loading.object_record
numbers_are os f image strings d ei es ed read =
    let needed : (file_record f).needed ≡ needed_at (file_image f) (dynamic_of f.bytes) =
    needed_is f.host (file_image f) (segments_of f.host f.bytes) (dynamic_of f.bytes) read in
    rw (ei, es, ed, needed)

-- ---- a loaded set

module _
    (setting : Setting) (size : ℕ) (table arena : List ℕ) (os : List Input) (loads : load_from setting size 0 0 (files_of os) ≡ passed)
    (views : (k : ℕ) → 2 ≤ k → k < length os → (link_at table k).view ≡ view_of (file_record (get_or (files_of os) k no_file)))
    (images : (k : ℕ) → 2 ≤ k → k < length os → image_at arena (link_at table k) ≡ file_image (get_or (files_of os) k no_file))
  where
    abbrev file : ℕ → File
    file k = get_or (files_of os) k no_file

    read : (k : ℕ) → k < length os → ReadFrom (file k)
    read k h =
        let t =
        file_lies setting size (files_of os) 0 0 k k (object_from setting no_file 0) (omega arith) (omega arith) loads
        (omega (arith, files_length os)) in
        load_read (file k) _ t.loads

    dynamic : (k : ℕ) → k < length os → dynamic_of (get_or os k no_input).file ≡ dynamic_of (file k).bytes
    dynamic k h = ap (λ (f : File). dynamic_of f.bytes) (sym (file_at os k h))

    few_needs : FewNeeds os arena table
    few_needs k a b =
        rw (images k a b, dynamic k b)
        (needs_few (file k).host (file_image (file k)) (segments_of (file k).host (file k).bytes) (dynamic_of (file k).bytes) (read k b))

    needs_are : (k : ℕ) → 2 ≤ k → k < length os → needs_at os arena table k ≡ sets.needed_objects (names_of os) (file k)
    needs_are k a b =
        numbers_are os (file k) _ _ _ (images k a b) (ap (λ (v : View). v.strings) (views k a b)) (dynamic k b) (read k b)

    names_many : length (names_of os) ≡ length os - 2
    unfolding names_of
    names_many = length-map (drop 2 os) (λ o. o.name) ∙ length-drop 2 os

    order_are : order_of (needs_at os arena table) (length os - 2) ≡ set_order (files_of os) (names_of os)
    unfolding set_order
    order_are =
        order_same (needs_at os arena table) (λ k. sets.needed_objects (names_of os) (file k)) (length os - 2)
        (λ k a b. ap (keep (length os - 2)) (needs_are k a (omega arith)))
        ∙ ap (order_of (λ k. sets.needed_objects (names_of os) (file k))) (sym names_many)

    pub order_read : (r : List ℕ) → Arranged os arena table r → r ≡ set_order (files_of os) (names_of os)
    order_read r made = made.is few_needs ∙ order_are

-- in the words of Steady: every object lies at its link, and its bytes are as they were placed
module _ (setting : Setting) (size : ℕ) (table arena : List ℕ) (h p : Input) (ls : List Input) where
  abbrev objects : ℕ
  objects = count (objs_of (object_from setting) (host_file h) (file_of p) (map file_of ls))

  pub order_loaded :
      LoadedSet setting size table (host_file h) (file_of p) (map file_of ls)
      → ((k : ℕ) → k < objects → steady.At setting size table (host_file h) (file_of p) (map file_of ls) k)
      → ((k : ℕ) → k < objects → PlacedAt setting size table (host_file h) (file_of p) (map file_of ls) arena k)
      → (r : List ℕ) → Arranged (h ∷ (p ∷ ls)) arena table r
      → r ≡ set_order (files_of (h ∷ (p ∷ ls))) (names_of (h ∷ (p ∷ ls)))
  unfolding files_of
  order_loaded s lies bytes =
      order_read setting size table arena (h ∷ (p ∷ ls)) s.loads (λ k a b. ap (λ (x : Link). x.view) (lies k (many k b)).link)
      (λ k a b. bytes k (many k b))
    where
      many : (k : ℕ) → k < length (h ∷ (p ∷ ls)) → k < objects
      many k b = omega (arith, count_is setting size (host_file h) (file_of p) (map file_of ls), length-map ls file_of)
