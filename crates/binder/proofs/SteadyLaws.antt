-- What stays in an arena while a loaded set is relocated: the laws that Steady states. Assumes nothing.
use Rattle.std.specs.Prelude.{Option, None, Some}
use Rattle.std.proofs.Common.{◌≡◌, ℕ, zero, suc, ◌+◌, ◌-◌, ◌*◌, ◌/◌, ◌%◌, ◌^◌, ◌<◌, ◌≤◌, Bool, true, false, not, eqb, ltb, leb, ◌⊎◌, List, [], ◌∷◌, length, get_or, sym, refl, ap, ◌∙◌, subst, inl, inr, ⊎_elim, true≢false, mod-eq_of_lt, arith, length-drop, length-take, eqb-true, le-leb, leb-true}
use native.Mathlib.Decide.{dec_lt, ℕ_discrete}
use Rattle.words.specs.Choice.{pick, both, either, every, some}
use Rattle.words.specs.Choice as choice
use Rattle.words.specs.Memory.{Mem, mem, In, write, patch}
use Rattle.words.specs.Page.{page_size}
use Rattle.words.proofs.Choice.{both_true, either_true}
use Rattle.words.proofs.Memory.{Out, in_or_out, write_out}
use Rattle.words.proofs.Slices.{mem_ext, mem_part, mem_patch, length_tab, length_patch}
use Rattle.model.specs.Objects.{Objs, count, obj}
use Rattle.model.specs.Layout.{objs_of}
use Rattle.model.proofs.Laid.{objs_apart}
use Rattle.object.specs.Header.{header_refusal}
use Rattle.object.specs.ProgramHeader.{loads_of, dynamic_of}
use Rattle.object.specs.Segments.{segments_ok}
use Rattle.object.specs.Segments as segments
use Rattle.object.specs.TableBytes.{is_writable, holds_range, is_table, table_bytes, in_writable}
use Rattle.object.specs.TableBytes as tables
use Rattle.object.specs.Record.{Record, is_table_of, needs_ok, relocations_ok, tables_ok, fields_refusal, read_refusal, record_in}
use Rattle.object.specs.Record as records
use Rattle.object.specs.DynamicArray.{ends_inside}
use Rattle.object.specs.DynamicFields.{fields_of, needed_offsets}
use Rattle.object.specs.Placed.{segments_of, object_span, file_refusal, place_refusal}
use Rattle.object.specs.Placed as placing
use Rattle.object.specs.Loaded.{object_refusal}
use Rattle.object.specs.Loaded as loading
use Rattle.object.specs.declared.program_header.Segment.{Segment}
use Rattle.object.proofs.LoadedLaws.{record_span}
use Rattle.object.proofs.Ranges.{spares, seg_in, below_at, table_inside}
use Rattle.object.proofs.RefusalLaws.{required, after_zero}
use Rattle.object.proofs.ReadingsSame.{invariance}
use Rattle.binder.specs.Instance.{File, file_image, file_record, object_from}
use Rattle.binder.specs.Setting.{Setting}
use Rattle.binder.specs.Verdict.{no_file, copy_ok}
use Rattle.scope.specs.Steps.Links.{link_at}
use Rattle.scope.specs.Steps.ScopeCode.{image_at}
use Rattle.binder.specs.Steps.ScopeModel.{LinkedFor}
use Rattle.binder.specs.Steps.Relocating.{copy_fits, again_refusal}
use Rattle.scope.specs.declared.links.Link.{Link}
use Rattle.binder.proofs.OffsetLaws.{made_after, load_read}
use Rattle.binder.proofs.InsideLaws as inside
use Rattle.binder.proofs.ScopeIs.{resolve_is, resolve_copy_is}
use Rattle.binder.proofs.Lies.{ObjectLies, span_is, base_is, object_lies}
use Rattle.binder.proofs.QueryLaws.{image_at_lem, link_of}
use Rattle.binder.proofs.Steady as steady

-- ---- table bytes

-- no byte of a writable segment is one
writable_no_table :
    (ss : List Segment) (q n i : ℕ) → in_writable ss q n ≡ true → every (λ s. spares s i) ss ≡ true → In q n i → ⊥
unfolding tables.in_writable choice.some choice.every
writable_no_table [] q n i e t w = true≢false (sym e)
writable_no_table (s ∷ ss) q n i e t w =
    let c = both_true (spares s i) (every (λ s. spares s i) ss) t in
    ⊎_elim
    (λ (x : both (is_writable s) (holds_range s q n) ≡ true).
    let a = both_true (is_writable s) (holds_range s q n) x in
    let b = both_true (leb s.vaddr q) (leb (q + n) (s.vaddr + s.memsz)) a.1 in
    let f = leb-true s.vaddr q b.0 in
    let g = leb-true (q + n) (s.vaddr + s.memsz) b.1 in
    true≢false (sym c.0 ∙ seg_in s i (eqb-true (s.flags / 2 % 2) 1 a.0) (omega arith) (omega arith)))
    (λ (x : some (λ s. both (is_writable s) (holds_range s q n)) ss ≡ true). writable_no_table ss q n i x c.1 w)
    (either_true (both (is_writable s) (holds_range s q n)) (some (λ s. both (is_writable s) (holds_range s q n)) ss) e)

pub table_out : (span : ℕ) (ss : List Segment) (q n i : ℕ) → in_writable ss q n ≡ true → is_table span ss i ≡ true → In q n i → ⊥
unfolding tables.is_table
table_out span ss q n i e t w = writable_no_table ss q n i e (both_true (ltb i span) (every (λ s. spares s i) ss) t).1 w

-- there are no more of them than the span has bytes
table_few : (span : ℕ) (ss : List Segment) (at n : ℕ) → table_bytes (is_table span ss) at n ≡ true → n ≤ span
unfolding tables.table_bytes
table_few span ss at zero e = omega arith
table_few span ss at (suc n) e =
    omega (arith, table_inside span ss (at + n) (below_at (λ k. is_table span ss (at + k)) (suc n) n e (omega arith)))

file_span : (f : File) → (file_record f).span ≡ object_span f.host f.bytes
file_span f = record_span f.host f.bytes

-- ---- a file that was loaded

-- refusals 9 to 12 passed: what is read is table bytes
read_tables :
    (host : Bool) (image : List ℕ) (ss : List Segment) (d : Option ℕ) → read_refusal host image ss d ≡ 0
    → tables_ok host image (records.record_at image ss d) ≡ true
unfolding records.read_refusal records.record_at
read_tables host image ss None e = absurd (omega arith)
read_tables host image ss (Some at) e =
    let a = after_zero (fields_refusal (ends_inside image at) (fields_of image at)) _ e in
    let b = required (leb (length (needed_offsets image at)) 64) 10 _ a.1 in
    (required (tables_ok host image (record_in image ss (fields_of image at) (needed_offsets image at))) 11 0 b.1).0

module _ (f : File) (room : ℕ) (e : object_refusal f.host room f.bytes ≡ 0) where
  load_tables : tables_ok f.host (file_image f) (file_record f) ≡ true
  unfolding loading.object_record
  load_tables = read_tables f.host (file_image f) (segments_of f.host f.bytes) (dynamic_of f.bytes) (load_read f room e)

  -- of a file that is not the host's
  module _ (z : f.host ≡ false) where
    load_few : leb (length (loads_of f.bytes)) 16 ≡ true
    unfolding loading.object_refusal placing.place_refusal placing.file_refusal segments.segments_ok
    load_few =
        let a = after_zero (place_refusal f.host room f.bytes) _ e in
        let d = after_zero (file_refusal f.host f.bytes) _ a.0 in
        let b = after_zero (header_refusal f.bytes) _ d.0 in
        let c = required (pick f.host (eqb (length f.bytes % page_size) 0) (segments_ok f.bytes (loads_of f.bytes))) 6 _ b.1 in
        (both_true (leb (length (loads_of f.bytes)) 16) _ (rw z at c.0)).0

    load_segments : loads_of f.bytes ≡ segments_of f.host f.bytes
    unfolding placing.segments_of
    load_segments = rw z refl

    load_relocations : relocations_ok (file_record f) ≡ true
    unfolding records.tables_ok
    load_relocations =
        let a = both_true (needs_ok (file_image f) (file_record f)) _ load_tables in
        let b = both_true (either f.host (relocations_ok (file_record f))) _ a.1 in
        sym (ap (λ (host : Bool). either host (relocations_ok (file_record f))) z) ∙ b.0

    load_counts :
        (24 * (file_record f).relas ≤ (file_record f).span) × (24 * (file_record f).plts ≤ (file_record f).span) × (8 * (file_record f).relrs ≤ (file_record f).span)
    unfolding records.relocations_ok
    load_counts =
        let r : Record = file_record f in
        let a = both_true (table_bytes (is_table_of r) r.rela (24 * r.relas)) _ load_relocations in
        let b = both_true (table_bytes (is_table_of r) r.plt (24 * r.plts)) (table_bytes (is_table_of r) r.relr (8 * r.relrs)) a.1 in (
          table_few r.span r.segments r.rela (24 * r.relas) a.0,
          table_few r.span r.segments r.plt (24 * r.plts) b.0,
          table_few r.span r.segments r.relr (8 * r.relrs) b.1,
        )

-- ---- refusal 18

-- a source in the definer's span, and a destination in its object's, are in the arena
copy_same :
    (a t : Bool) (size off place start value n span : ℕ) → off + place + n ≤ size → start + span ≤ size
    → both a (both (leb (value + n) span) (both (leb (off + place + n) size) (both (leb (start + value + n) size) t)))
    ≡ both a (both (leb (value + n) span) t)
copy_same a t size off place start value n span fits ends = ap (both a) (go (leb (value + n) span) refl)
  where
    go :
        (c : Bool) → leb (value + n) span ≡ c
        → both c (both (leb (off + place + n) size) (both (leb (start + value + n) size) t)) ≡ both c t
    go true e =
        let l = leb-true (value + n) span e in
        rw (le-leb (off + place + n) size fits, le-leb (start + value + n) size (omega arith)) refl
    go false e = refl

module _ (setting : Setting) (size : ℕ) (table : List ℕ) (h p : File) (fs : List File) where
  abbrev address : ℕ
  address = setting.address

  abbrev set : Objs
  set = objs_of (object_from setting) h p fs

  abbrev file_at : ℕ → File
  file_at k = get_or (h ∷ (p ∷ fs)) k no_file

  abbrev span_at : ℕ → ℕ
  span_at k = object_span (file_at k).host (file_at k).bytes

  abbrev LoadedSet : Type 0
  LoadedSet = steady.LoadedSet setting size table h p fs

  abbrev Steady : List ℕ → Type 0
  Steady = steady.Steady setting size table h p fs

  abbrev Written : List ℕ → List ℕ → ℕ → Type 0
  Written = steady.Written setting size table h p fs

  -- ---- where an object lies

  pub lies : steady.EachLies setting size table h p fs
  lies s k l =
      record {
        object = t;
        link = t.link table s.links;
        base =
            ap (λ (n : ℕ). (n + (link_at table k).offset) % 2 ^ 64) s.addressed
            ∙ (ap (λ (x : Link). (address + x.offset) % 2 ^ 64) (t.link table s.links)
            ∙ (mod-eq_of_lt (omega (arith, t.fits, s.end)) ∙ sym (base_is t)));
      }
    where
      t : ObjectLies setting size h p fs k
      t = object_lies setting size h p fs s.loads k l

  -- ---- an arena with the placed bytes

  pub starts : steady.Starts setting size table h p fs
  starts s a m len e k l = image_at_lem (lies s k l).object table s.links a m len e

  pub placed_steady : steady.PlacedSteady setting size table h p fs
  placed_steady s a len placed =
      record { size_is = len; tables = λ k l i t. ap (λ (image : List ℕ). mem image i) (placed k l) }

  -- ---- an arena with the table bytes

  -- an object's part of an arena, as long as its span
  length_at : LoadedSet → (a : List ℕ) → length a ≡ size → (k : ℕ) → k < count set → length (image_at a (link_at table k)) ≡ span_at k
  length_at s a len k l =
      let t = lies s k l in
      ap (λ (x : Link). length (image_at a x)) t.link ∙ simp (length-take, length-drop) (omega (arith, t.object.fits))

  pub readings : steady.Readings setting size table h p fs
  readings s a st k l =
      invariance (file_at k).host (file_record (file_at k)) (file_image (file_at k)) (image_at a (link_at table k))
      (load_tables (file_at k) (size - (obj set k).offset) (lies s k l).object.loads)
      (length_at s a st.size_is k l ∙ sym (length_tab (span_at k) _)) (st.tables k l)

  linked : LoadedSet → (a : List ℕ) → Steady a → LinkedFor address a table set
  linked s a st k l =
      link_of (lies s k l).object table s.links a (omega (arith, s.end)) (λ name. (readings s a st k l).answers name _ _)

  pub searches : steady.Searches setting size table h p fs
  searches s a st k l name = resolve_is address a table name set s.addressed s.counted (linked s a st) k l

  pub copy_searches : steady.CopySearches setting size table h p fs
  copy_searches s a st name = resolve_copy_is address a table name set s.addressed s.counted (linked s a st)

  -- ---- a write

  pub written_none : (a : List ℕ) (k : ℕ) → Steady a → Written a a k
  written_none a k s = record { steady = s; others = λ j l n. refl }

  pub written_then : (a b c : List ℕ) (k : ℕ) → Written a b k → Written b c k → Written a c k
  written_then a b c k u v = record { steady = v.steady; others = λ j l n. v.others j l n ∙ u.others j l n }

  -- spans of two objects lie apart
  pub apart :
      LoadedSet → (j k : ℕ) → j < count set → k < count set → (j ≡ k → ⊥)
      → ((obj set j).offset + span_at j ≤ (obj set k).offset) ⊎ ((obj set k).offset + span_at k ≤ (obj set j).offset)
  apart s j k l g ne = go (dec_lt j k)
    where
      go : Dec (j < k) → ((obj set j).offset + span_at j ≤ (obj set k).offset) ⊎ ((obj set k).offset + span_at k ≤ (obj set j).offset)
      go (yes x) = inl (omega (arith, span_is (lies s j l).object, objs_apart (object_from setting) (made_after setting) h p fs j k x g))
      go (no x) = inr (omega (arith, span_is (lies s k g).object, objs_apart (object_from setting) (made_after setting) h p fs k j (omega arith) l))

  -- a byte of object `j`, in an arena
  byte_at :
      LoadedSet → (a : List ℕ) (j : ℕ) → j < count set → (i : ℕ) → i < span_at j
      → mem (image_at a (link_at table j)) i ≡ mem a ((obj set j).offset + i)
  byte_at s a j l i x =
      ap (λ (y : Link). mem (image_at a y) i) (lies s j l).link ∙ mem_part (span_at j) (obj set j).offset a i x

  module _
      (s : LoadedSet)
      (a : List ℕ)
      (st : Steady a)
      (k : ℕ)
      (l : k < count set)
      (q n : ℕ)
      (w : in_writable (file_record (file_at k)).segments q n ≡ true)
      (g : ℕ → ℕ)
    where
      abbrev to : ℕ
      to = (obj set k).offset + q

      abbrev after : List ℕ
      after = patch a to n g

      room : to + n ≤ (obj set k).offset + span_at k
      room = omega (arith, inside.writable_inside (file_at k).host (file_at k).bytes q n w)

      written : mem after ≡ write (mem a) to n g
      written = mem_patch a to n g (omega (arith, room, (lies s k l).object.fits, st.size_is))

      -- a byte of object `j` that the write leaves
      kept :
          (j : ℕ) → j < count set → (i : ℕ) → i < span_at j → Out to n ((obj set j).offset + i)
          → mem (image_at after (link_at table j)) i ≡ mem (image_at a (link_at table j)) i
      kept j x i y out =
          byte_at s after j x i y
          ∙ (ap (λ (m : Mem). m ((obj set j).offset + i)) written
          ∙ (write_out (mem a) to n g ((obj set j).offset + i) out ∙ sym (byte_at s a j x i y)))

      long : length after ≡ size
      long = length_patch a to n g ∙ st.size_is

      others_kept :
          (j : ℕ) → j < count set → (j ≡ k → ⊥)
          → image_at after (link_at table j) ≡ image_at a (link_at table j)
      others_kept j x ne =
          mem_ext (image_at after (link_at table j)) (image_at a (link_at table j))
          (many ∙ sym (length_at s a st.size_is j x))
          (λ i y. let z : i < span_at j = omega (arith, many) in kept j x i z (out i z (apart s j k x l ne)))
        where
          many : length (image_at after (link_at table j)) ≡ span_at j
          many = length_at s after long j x

          out :
              (i : ℕ) → i < span_at j
              → ((obj set j).offset + span_at j ≤ (obj set k).offset) ⊎ ((obj set k).offset + span_at k ≤ (obj set j).offset)
              → Out to n ((obj set j).offset + i)
          out i z (inl b) = inl (omega arith)
          out i z (inr b) = inr (omega (arith, room))

      own_kept :
          (i : ℕ) → is_table_of (file_record (file_at k)) i ≡ true
          → mem (image_at after (link_at table k)) i ≡ mem (image_at a (link_at table k)) i
      own_kept i t =
          kept k l i (omega (arith, table_inside (file_record (file_at k)).span (file_record (file_at k)).segments i t, file_span (file_at k)))
          (⊎_elim
          (λ (v : In to n ((obj set k).offset + i)).
          absurd (table_out (file_record (file_at k)).span (file_record (file_at k)).segments q n i w t (omega arith)))
          (λ v. v)
          (in_or_out to n ((obj set k).offset + i)))

      -- so the table bytes stay
      tables_kept :
          (j : ℕ) → j < count set → (i : ℕ) → is_table_of (file_record (file_at j)) i ≡ true
          → mem (image_at after (link_at table j)) i ≡ mem (image_at a (link_at table j)) i
      tables_kept j x i t = go (ℕ_discrete j k)
        where
          go : Dec (j ≡ k) → mem (image_at after (link_at table j)) i ≡ mem (image_at a (link_at table j)) i
          go (yes e) =
              subst
              (λ (c : ℕ). is_table_of (file_record (file_at c)) i ≡ true → mem (image_at after (link_at table c)) i ≡ mem (image_at a (link_at table c)) i)
              (sym e) (own_kept i) t
          go (no ne) = ap (λ (image : List ℕ). mem image i) (others_kept j x ne)

  pub write_steady : steady.Writes setting size table h p fs
  write_steady s a st k l q n w g = (
    record {
      steady =
          record {
            size_is = long s a st k l q n w g;
            tables = λ j x i t. tables_kept s a st k l q n w g j x i t ∙ st.tables j x i t;
          };
      others = others_kept s a st k l q n w g;
    },
    written s a st k l q n w g,
  )

  -- ---- refusal 18

  pub copy_tests : steady.CopyTests setting size table h p fs
  unfolding copy_fits copy_ok
  copy_tests s k d l m q n fits x =
      let t = lies s k l in
      let u = lies s d m in
      rw (t.link, u.link, span_is u.object)
      (copy_same (not x.absolute)
      (either (leb ((obj set k).offset + q + n) ((obj set d).offset + x.value)) (leb ((obj set d).offset + x.value + n) ((obj set k).offset + q)))
      size (obj set k).offset q (obj set d).offset x.value n (span_at d) (omega (arith, t.object.fits)) u.object.fits)

  -- ---- an object's turn

  pub counts : steady.Counts setting size table h p fs
  counts s k g l =
      let c = load_counts (file_at k) (size - (obj set k).offset) (lies s k l).object.loads (s.others k g l) in
      let e : (file_record (file_at k)).span ≤ 2 ^ 28 = omega (arith, file_span (file_at k), (lies s k l).object.fits, s.small) in
      (omega (arith, c.0), omega (arith, c.1), omega (arith, c.2))

  pub again : steady.Again setting size table h p fs
  unfolding again_refusal loading.object_record
  again s a k g l placed =
      let f : File = file_at k in
      let d : Option ℕ = dynamic_of f.bytes in
      let host : f.host ≡ false = s.others k g l in
      let loaded = (lies s k l).object.loads in
      let room : ℕ = size - (obj set k).offset in
      let ss : loads_of f.bytes ≡ segments_of f.host f.bytes = load_segments f room loaded host in (
        rw (load_few f room loaded host)
            (ap (λ (image : List ℕ). read_refusal false image (loads_of f.bytes) d) placed
            ∙ (ap (λ (b : Bool). read_refusal b (file_image f) (loads_of f.bytes) d) (sym host)
            ∙ (ap (λ (x : List Segment). read_refusal f.host (file_image f) x d) ss ∙ load_read f room loaded))),
        ap (λ (image : List ℕ). records.record_at image (loads_of f.bytes) d) placed
            ∙ ap (λ (x : List Segment). records.record_at (file_image f) x d) ss,
      )
