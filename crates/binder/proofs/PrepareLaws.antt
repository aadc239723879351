-- Loading the objects of a set, one after another: the turn of the loop and its ends; preparing a set. Assumes nothing.
use Rattle.std.proofs.Common.{◌≡◌, ℕ, zero, suc, ◌+◌, ◌-◌, ◌%◌, ◌^◌, ◌<◌, ◌≤◌, Bool, true, false, eqb, ltb, leb, ◌⊎◌, List, [], ◌∷◌, map, length, get_or, take, drop, sym, refl, ap, ◌∙◌, subst, inl, inr, add-zero, add-one, arith, length-drop, length-take, drop-cons, le-ltb, lt-ltb, eq-eqb, ne_eqb, leb-true, Err}
use mathlib.Core.Path.{fun_ext}
use borrow.Rule.Slice.PartMut.{put_mid}
use lib.ListN.{length-map}
use lib.Seq.{drop-length}
use Rattle.words.specs.Choice.{pick}
use Rattle.words.specs.Memory.{Mem, In, mem, write, patch}
use Rattle.words.proofs.Memory.{Out, in_or_out, write_in, write_out}
use Rattle.words.proofs.Choice.{both_true}
use Rattle.words.proofs.Slices.{put_tail, mem_past, mem_patch, length_patch}
use Rattle.std.specs.Prelude.{Result, Ok, Err, MatchResult}
use Rattle.std.specs.Result.{result_unwrap_or, is_ok}
use mathlib.Core.Bool.{false≢true}
use Rattle.words.specs.Refusal.{refusal_number}
use Rattle.words.specs.declared.refusal.Refusal.{Refusal}
use Rattle.words.specs.declared.refusal.Refusal.TheVariants as refusals
use Rattle.object.proofs.RefusalLaws.{number_some}
use Rattle.object.specs.declared.dynamic_fields.ObjectData.{ObjectData}
use Rattle.object.specs.declared.hash_tables.View.{View}
use Rattle.object.specs.declared.object_data.Placed.{Placed}
use Rattle.object.specs.Placed.{object_span, object_align, object_bytes, file_refusal, Checked}
use Rattle.object.specs.Record.{Record, held_by, view_of}
use Rattle.object.specs.Loaded.{object_record, object_refusal, LoadedBy}
use Rattle.object.proofs.PlaceLaws.{object_align_lem, file_span}
use Rattle.object.proofs.LoadedLaws.{load_headers, load_eight, loaded_part, record_span}
use Rattle.sheet.specs.Sheet as sheets
use Rattle.sheet.specs.Sheet.{Input, no_input, sheet_ok, arena_ok, duplicate_of}
use Rattle.binder.specs.Setting.{Setting}
use Rattle.binder.specs.Instance.{File, next_offset, offset_of}
use Rattle.binder.specs.declared.Refused.{Refused}
use Rattle.binder.specs.Verdict.{Verdict, passed, refused, verdict, no_file, load_verdict}
use Rattle.binder.specs.Bind.{files_of, objects_of, unless, prepare_verdict}
use Rattle.scope.specs.Steps.Links.{link_at, count_in, address_in, FilteredBelow, Filtered}
use Rattle.binder.specs.Steps.Prepared.{load_from, link_of, place_files, Linked, LinkedAt, LoadedAt, gapped, LoadedNext, LoadedFiles, Prepared}
use Rattle.scope.specs.declared.links.Link.{Link}
use Rattle.binder.proofs.OutcomeLaws.{refused_not, first_passed, unless_passed}
use Rattle.binder.proofs.LoadsSame.{loads_same}
use Rattle.binder.proofs.OffsetLaws.{offset_after}

-- ---- what the two ends of a `?` behind `map_err` tell

pub ok_mapped : {A E : Type 0} (F : Type 0) (r : Result A E) {y : A} → MatchResult r (λ x. ◌≡◌ {A = Result A F} (Ok y) (Ok x)) (λ e. ⊥) → r ≡ Ok y
ok_mapped F (Ok x) {y} m = ap (λ q. Ok (result_unwrap_or q y)) (sym m)
ok_mapped F (Err e) {y} m = absurd m

pub err_mapped :
    {A E : Type 0} (r : Result A E) (No : A → Type 0) (Told : E → Type 0) → MatchResult r No Told → false ≡ is_ok r → (e : E) × (r ≡ Err e) × Told e
err_mapped (Ok x) No Told m z = absurd (false≢true z)
err_mapped (Err e) No Told m z = (e, refl, m)

-- ---- one object

-- the files of a set, by number: the host's first
pub file_at : (os : List Input) (k : ℕ) → k < length os → get_or (files_of os) k no_file ≡ record { host = eqb k 0; bytes = (get_or os k no_input).file }
unfolding files_of
file_at [] k h = absurd (omega arith)
file_at (o ∷ os) zero h = refl
file_at (o ∷ os) (suc k) h =
    rw (ne_eqb (suc k) 0 (λ e. omega arith)) (go os k (omega arith))
  where
    go :
        (l : List Input) (j : ℕ) → j < length l
        → get_or (map (λ (x : Input). record { host = false; bytes = x.file }) l) j no_file ≡ record { host = false; bytes = (get_or l j no_input).file }
    go [] j g = absurd (omega arith)
    go (x ∷ l) zero g = refl
    go (x ∷ l) (suc j) g = go l j (omega arith)

pub files_length : (os : List Input) → length (files_of os) ≡ length os
unfolding files_of
files_length [] = refl
files_length (o ∷ os) = ap suc (length-map os (λ (x : Input). record { host = false; bytes = x.file }))

part_length : (a : List ℕ) (off : ℕ) → length (take (length a - off) (drop off a)) ≡ length a - off
part_length a off = simp (length-take, length-drop) (omega arith)

-- an object loaded into the part of the arena from `off` on
module _ (host : Bool) (file : List ℕ) (off : ℕ) (a ys : List ℕ) where
  -- refused
  pub refused_at : (e : Refusal) → LoadedBy host file (take (length a - off) (drop off a)) ys (Err e) → refusal_number e ≡ object_refusal host (length a - off) file
  refused_at e h = h.refusal ∙ ap (λ (n : ℕ). object_refusal host n file) (part_length a off)

  pub linked_at :
      (o : ObjectData) → LoadedBy host file (take (length a - off) (drop off a)) ys (Ok o) → (v : View) → off ≤ length a → v ≡ view_of (held_by o)
      → LinkedAt host file off a (put_mid off (length a - off) a ys) (record { offset = off; span = o.span; view = v })
  linked_at o h v l e =
      record {
        refusal = none;
        link = link h.object;
        arena =
            ap mem (put_tail a off 0 (object_span host file) (object_bytes host file) l (loaded_part host file _ ys h.part (sym h.refusal)))
            ∙ (mem_patch a (off + 0) (object_span host file) (object_bytes host file) (omega (arith, room))
            ∙ ap (λ (n : ℕ). write (mem a) n (object_span host file) (object_bytes host file)) (add-zero off));
        fits = omega (arith, room);
      }
    where
      none : object_refusal host (length a - off) file ≡ 0
      none = sym (h.refusal ∙ ap (λ (n : ℕ). object_refusal host n file) (part_length a off))

      room : object_span host file ≤ length a - off
      room = omega (arith, h.fits, part_length a off)

      link :
          held_by o ≡ object_record host file
          → ◌≡◌ {A = Link} (record { offset = off; span = o.span; view = v }) (link_of (record { host = host; bytes = file }) off)
      link q =
          let s : o.span ≡ object_span host file = ap (λ (x : Record). x.span) q ∙ record_span host file in
          let w : v ≡ view_of (object_record host file) = e ∙ ap view_of q in
          rw (s, w)

-- an object loaded where it goes
pub gapped_length : (a : List ℕ) (free off : ℕ) → length (gapped a free off) ≡ length a
gapped_length a free off = length_patch a free (off - free) (λ _. 0)

module _ (setting : Setting) (f : File) (free : ℕ) (a : List ℕ) where
  -- a refusal by the headers
  pub next_headers : (e : Refusal) → refusal_number e ≡ file_refusal f.host f.bytes → (after : List ℕ) → LoadedNext setting f free a after (Err e)
  next_headers e h after = h ∙ sym (load_headers f.host f.bytes (length a - offset_of setting f free) (λ z. number_some e (h ∙ z)))

  module _ (c : Placed) (k : Checked f.host f.bytes c) where
    -- the alignment that was found
    pub next_align : (1 ≤ c.align) × (c.align ≤ 2 ^ 21)
    next_align =
        let b = object_align_lem f.host f.bytes k.passed in
        (omega (arith, b.0, k.align), omega (arith, b.1, k.align))

    pub next_is : {off : ℕ} → off ≡ next_offset f.host c.align setting.address free → off ≡ offset_of setting f free
    next_is e = e ∙ ap (λ (n : ℕ). next_offset f.host n setting.address free) k.align

    -- the offset passes the arena's end
    pub next_eight :
        (off : ℕ) → off ≡ offset_of setting f free → free ≤ length a → length a < off → (after : List ℕ)
        → LoadedNext setting f free a after (Err refusals.Room)
    unfolding next_offset
    next_eight off e l h after = sym (go f.host f.bytes (object_align f.host f.bytes) e k.passed)
      where
        go :
            (host : Bool) (bytes : List ℕ) (align : ℕ) → off ≡ next_offset host align setting.address free → file_refusal host bytes ≡ 0
            → object_refusal host (length a - next_offset host align setting.address free) bytes ≡ 8
        go true bytes align g y = absurd (omega (arith, g, l, h))
        go false bytes align g y =
            let s : length a - next_offset false align setting.address free < object_span false bytes = omega (arith, g, h, file_span bytes y) in
            load_eight false bytes (length a - next_offset false align setting.address free) y s

  -- loaded after the gap
  pub next_loaded :
      (off : ℕ) → off ≡ offset_of setting f free → (b after : List ℕ) → b ≡ gapped a free off → (r : Result Link Refusal)
      → LoadedAt f.host f.bytes off b after r
      → LoadedNext setting f free a after r
  next_loaded off e b after g (Err n) q =
      let s : length b ≡ length a = ap length g ∙ gapped_length a free off in
      q ∙ rw (s, e)
  next_loaded off e b after g (Ok s) q = rw (g, e) at q

-- ---- the memory below an offset, and zeros from there on

unfoldable pub below : ℕ → Mem → Mem
below off m i = pick (ltb i off) (m i) 0

below_in : (off : ℕ) (m : Mem) (i : ℕ) → i < off → below off m i ≡ m i
unfolding below
below_in off m i h = rw (lt-ltb i off h)

below_past : (off : ℕ) (m : Mem) (i : ℕ) → off ≤ i → below off m i ≡ 0
unfolding below
below_past off m i h = rw (le-ltb i off h)

below_none : (m : Mem) → (λ _. 0) ≡ below 0 m
below_none m = fun_ext (λ i. sym (below_past 0 m i (omega arith)))

-- a write at the offset
below_more : (m : Mem) (off n : ℕ) (f : ℕ → ℕ) → write (below off m) off n f ≡ below (off + n) (write m off n f)
below_more m off n f = fun_ext (λ i. go i (in_or_out off n i))
  where
    go : (i : ℕ) → In off n i ⊎ Out off n i → write (below off m) off n f i ≡ below (off + n) (write m off n f) i
    go i (inl w) =
        write_in (below off m) off n f i w
        ∙ sym (below_in (off + n) (write m off n f) i w.1 ∙ write_in m off n f i w)
    go i (inr (inl l)) =
        write_out (below off m) off n f i (inl l) ∙ below_in off m i l
        ∙ sym (below_in (off + n) (write m off n f) i (omega arith) ∙ write_out m off n f i (inl l))
    go i (inr (inr l)) =
        write_out (below off m) off n f i (inr l) ∙ below_past off m i (omega arith) ∙ sym (below_past (off + n) (write m off n f) i l)

-- zeros written from the offset to a later one
below_gap :
    (a : List ℕ) (free off : ℕ) → free ≤ off → off ≤ length a → below free (mem a) ≡ below off (mem (gapped a free off))
below_gap a free off l h = fun_ext (λ i. go i (in_or_out free (off - free) i))
  where
    is : mem (gapped a free off) ≡ write (mem a) free (off - free) (λ _. 0)
    is = mem_patch a free (off - free) (λ _. 0) (omega arith)

    go : (i : ℕ) → In free (off - free) i ⊎ Out free (off - free) i → below free (mem a) i ≡ below off (mem (gapped a free off)) i
    go i (inl w) =
        below_past free (mem a) i w.0
        ∙ sym (below_in off (mem (gapped a free off)) i (omega arith)
        ∙ (ap (λ (m : Mem). m i) is ∙ write_in (mem a) free (off - free) (λ _. 0) i w))
    go i (inr (inl o)) =
        below_in free (mem a) i o
        ∙ sym (below_in off (mem (gapped a free off)) i (omega arith)
        ∙ (ap (λ (m : Mem). m i) is ∙ write_out (mem a) free (off - free) (λ _. 0) i (inl o)))
    go i (inr (inr o)) = below_past free (mem a) i (omega arith) ∙ sym (below_past off (mem (gapped a free off)) i (omega arith))

-- zeros written from the offset to the end
below_end : (a : List ℕ) (off : ℕ) → off ≤ length a → mem (patch a off (length a - off) (λ _. 0)) ≡ below off (mem a)
below_end a off h =
    mem_patch a off (length a - off) (λ _. 0) (omega arith) ∙ fun_ext (λ i. go i (in_or_out off (length a - off) i))
  where
    go : (i : ℕ) → In off (length a - off) i ⊎ Out off (length a - off) i → write (mem a) off (length a - off) (λ _. 0) i ≡ below off (mem a) i
    go i (inl w) = write_in (mem a) off (length a - off) (λ _. 0) i w ∙ sym (below_past off (mem a) i w.0)
    go i (inr (inl l)) = write_out (mem a) off (length a - off) (λ _. 0) i (inl l) ∙ sym (below_in off (mem a) i l)
    go i (inr (inr l)) =
        write_out (mem a) off (length a - off) (λ _. 0) i (inr l) ∙ mem_past a i (omega arith) ∙ sym (below_past off (mem a) i (omega arith))

-- ---- the loop: what is left to load gives, after what was loaded, the whole

pub record Loading (setting : Setting) (os : List Input) (a₀ a table : List ℕ) (off k : ℕ) : Type 0 where
  pub same : length a ≡ length a₀
  pub offset : off ≤ length a
  pub number : k ≤ length os
  pub met : load_from setting (length a₀) 0 0 (files_of os) ≡ load_from setting (length a₀) k off (drop k (files_of os))
  pub placed : place_files setting (files_of os) 0 (λ _. 0) ≡ place_files setting (drop k (files_of os)) off (below off (mem a))
  pub linked :
      (t : List ℕ) → ((j : ℕ) → j < k → link_at t j ≡ link_at table j) → Linked setting t k off (drop k (files_of os)) → Linked setting t 0 0 (files_of os)
  pub filtered : FilteredBelow table k

pub load_begin : (setting : Setting) (os : List Input) (a table : List ℕ) → Loading setting os a a table 0 0
load_begin setting os a table =
    record {
      same = refl;
      offset = omega arith;
      number = omega arith;
      met = refl;
      placed = ap (place_files setting (files_of os) 0) (below_none (mem a));
      linked = λ t h s. s;
      filtered = λ k l. absurd (omega arith);
    }

module _ (setting : Setting) (os : List Input) (a₀ a table : List ℕ) (off k : ℕ) (h : Loading setting os a₀ a table off k) where
  module _ (l : k < length os) where
    abbrev file : File
    file = record { host = eqb k 0; bytes = (get_or os k no_input).file }

    -- where the object goes
    abbrev next : ℕ
    next = offset_of setting file off

    -- the object at `k` is the first of what is left
    left : drop k (files_of os) ≡ record { host = eqb k 0; bytes = (get_or os k no_input).file } ∷ drop (suc k) (files_of os)
    left =
        drop-cons (files_of os) k no_file (omega (arith, files_length os))
        ∙ ap (λ (f : File). f ∷ drop (suc k) (files_of os)) (file_at os k l)

    module _ (a' : List ℕ) (p : Result Link Refusal) (r : LoadedNext setting file off a a' p) where
      pub load_fail : (e : Refusal) → p ≡ Err e → (n : ℕ) → n ≡ refusal_number e → (t : List ℕ) → LoadedFiles setting (files_of os) a₀ a' t (refused n k)
      unfolding load_from verdict
      load_fail e is n same t =
          let g : refusal_number e ≡ object_refusal (eqb k 0) (length a - next) (get_or os k no_input).file =
          subst (λ (x : Result Link Refusal). LoadedNext setting file off a a' x) is r in
          record {
            met = sym (h.met ∙ rw (left, ← h.same, ← g, ← same, ne_eqb n 0 (λ z. number_some e (sym same ∙ z))));
            arena = λ z. refused_not n k z;
            table = λ z. refused_not n k z;
            filtered = λ z. refused_not n k z;
          }

      linked : (s : Link) → p ≡ Ok s → LinkedAt (eqb k 0) (get_or os k no_input).file next (gapped a off next) a' s
      linked s e = subst (λ (x : Result Link Refusal). LoadedNext setting file off a a' x) e r

      -- its span fits
      pub load_fits : (s : Link) → p ≡ Ok s → s.offset + s.span ≤ length a
      load_fits s e =
          let g = linked s e in
          omega (
            arith,
            g.fits,
            gapped_length a off next,
            ap (λ (x : Link). x.offset) g.link,
            ap (λ (x : Link). x.span) g.link,
          )

      pub load_turn :
          (s : Link) → p ≡ Ok s → length a' ≡ length a → (t : List ℕ) → link_at t k ≡ s
          → ((j : ℕ) → (j ≡ k → ⊥) → link_at t j ≡ link_at table j) → (FilteredBelow table k → FilteredBelow t (k + 1))
          → Loading setting os a₀ a' t (s.offset + s.span) (k + 1)
      unfolding load_from verdict place_files Linked
      load_turn s e len t here others filters =
          let g = linked s e in
          let at : s.offset ≡ next = ap (λ (x : Link). x.offset) g.link in
          let span : s.span ≡ object_span (eqb k 0) (get_or os k no_input).file = ap (λ (x : Link). x.span) g.link in
          let long : length (gapped a off next) ≡ length a = gapped_length a off next in
          let later : off ≤ next = offset_after setting file off in
          let b : List ℕ = gapped a off next in
          let rest : drop (k + 1) (files_of os) ≡ drop (suc k) (files_of os) = ap (λ (n : ℕ). drop n (files_of os)) (add-one k) in
          let n : ℕ = object_span (eqb k 0) (get_or os k no_input).file in
          let f : Mem = object_bytes (eqb k 0) (get_or os k no_input).file in
          let step : place_files setting (drop k (files_of os)) off (below off (mem a))
          ≡ place_files setting (drop (suc k) (files_of os)) (next + n) (below (next + n) (write (mem b) next n f)) =
          rw left
          (ap (place_files setting (drop (suc k) (files_of os)) (next + n))
          (ap (λ (m : Mem). write m next n f) (below_gap a off next later (omega (arith, g.fits, long))) ∙ below_more (mem b) next n f)) in
          record {
            same = len ∙ h.same;
            offset = omega (arith, g.fits, long, len, at, span);
            number = omega arith;
            met = h.met ∙ rw (left, ← h.same, ← long, g.refusal, ← span, ← at, add-one k)
                (ap (λ (n : ℕ). load_from setting n (suc k) (s.offset + s.span) (drop (suc k) (files_of os))) (sym h.same ∙ sym (gapped_length a off s.offset)));
            placed = h.placed ∙ (step ∙ rw (g.arena, span, at, add-one k));
            linked = λ u same q.
                h.linked u (λ j i. same j (omega arith) ∙ others j (λ e. omega arith))
                (rw left (same k (omega arith) ∙ (here ∙ g.link), rw (rest, span, at) at q));
            filtered = filters h.filtered;
          }

  pub load_finish : k ≡ length os → (a' : List ℕ) → a' ≡ patch a off (length a - off) (λ _. 0)
      → LoadedFiles setting (files_of os) a₀ a' table passed
  unfolding load_from place_files Linked
  load_finish e a' zeros =
      let n : drop k (files_of os) ≡ [] = rw (e, ← files_length os) (drop-length (files_of os)) in
      record {
        met = sym (h.met ∙ rw n);
        arena = λ z. ap mem zeros ∙ (below_end a off h.offset ∙ sym (h.placed ∙ rw n));
        table = λ z. h.linked table (λ j g. refl) (rw n tt);
        filtered = λ z j l. h.filtered j (omega (arith, files_length os));
      }

-- ---- preparing: refusals 2 and 3, then loading

-- what refusal 2 lets through
pub arena_bounds : (size address : ℕ) → arena_ok size address ≡ true → (size ≤ 2 ^ 28) × (address + size ≤ 2 ^ 63)
unfolding sheets.arena_ok
arena_bounds size address e =
    let p = both_true (eqb (address % 4096) 0) _ e in
    let q = both_true (leb size (2 ^ 28)) _ p.1 in
    (leb-true size (2 ^ 28) q.0, leb-true (address + size) (2 ^ 63) q.1)

-- a table with the same links
pub linked_same :
    (setting : Setting) (t t' : List ℕ) (k off : ℕ) (fs : List File) → ((j : ℕ) → j < k + length fs → link_at t' j ≡ link_at t j)
    → Linked setting t k off fs → Linked setting t' k off fs
unfolding Linked
linked_same setting t t' k off [] same s = tt
linked_same setting t t' k off (f ∷ fs) same s = (
  same k (omega arith) ∙ s.0,
  linked_same setting t t' (k + 1) (offset_of setting f off + object_span f.host f.bytes) fs (λ j l. same j (omega arith)) s.1,
)

module _ (setting : Setting) (types : Verdict) (os : List Input) (arena : List ℕ) where
  -- a refusal before anything is loaded
  refuses :
      (n k : ℕ) → prepare_verdict setting types os (length arena) ≡ refused n k → (arena' table : List ℕ) → Prepared setting types os arena arena' table (refused n k)
  refuses n k e arena' table =
      record {
        met = sym e;
        arena = λ z. refused_not n k z;
        table = λ z. refused_not n k z;
        filtered = λ z. refused_not n k z;
        counted = λ z. refused_not n k z;
        addressed = λ z. refused_not n k z;
      }

  pub prepare_two :
      arena_ok (length arena) setting.address ≡ false → (arena' table : List ℕ) → Prepared setting types os arena arena' table (refused 2 0)
  unfolding prepare_verdict unless
  prepare_two e = refuses 2 0 (rw e)

  module _ (ok : arena_ok (length arena) setting.address ≡ true) where
    -- what is met between 2 and 3
    pub prepare_types : (r : Refused) → types ≡ Err r → (arena' table : List ℕ) → Prepared setting types os arena arena' table (Err r)
    unfolding prepare_verdict unless
    prepare_types r e arena' table = refuses r.number r.object (rw (ok, e)) arena' table

    module _ (pass : types ≡ passed) where
      pub prepare_three : (t : ℕ) → t ≡ duplicate_of os → (t ≡ 0 → ⊥) → (arena' table : List ℕ) → Prepared setting types os arena arena' table (refused 3 t)
      unfolding prepare_verdict unless
      prepare_three t e ne = refuses 3 t (rw (ok, pass, ← e, ne_eqb t 0 ne))

      pub prepare_unloaded :
          duplicate_of os ≡ 0 → (r : Refused) (v : Verdict) → v ≡ Err r → (arena' table : List ℕ) → LoadedFiles setting (files_of os) arena arena' table v
          → Prepared setting types os arena arena' table (Err r)
      unfolding prepare_verdict unless
      prepare_unloaded none r v e arena' table h =
          refuses r.number r.object
          (sym (sym e ∙ (h.met ∙ (sym (loads_same setting (length arena) (files_of os)) ∙ rw (ok, pass, eq-eqb (duplicate_of os) 0 none))))) arena' table

      -- the table `t` with the set's count and the setting is `t'`
      pub prepare_loads :
          duplicate_of os ≡ 0 → (arena' t t' : List ℕ) (r : Verdict) → LoadedFiles setting (files_of os) arena arena' t r → length os ≤ 64
          → count_in t' ≡ length os → address_in t' ≡ setting.address → ((k : ℕ) → k < 64 → link_at t' k ≡ link_at t k)
          → (FilteredBelow t (length os) → Filtered t')
          → Prepared setting types os arena arena' t' r
      unfolding prepare_verdict unless
      prepare_loads none arena' t t' r h few count_is address_is same filters =
          record {
            met = h.met ∙ (sym (loads_same setting (length arena) (files_of os)) ∙ rw (ok, pass, eq-eqb (duplicate_of os) 0 none));
            arena = h.arena;
            table = λ z. linked_same setting t t' 0 0 (files_of os) (λ k l. same k (omega (arith, files_length os))) (h.table z);
            filtered = λ z. filters (λ k l. h.filtered z k (omega (arith, files_length os)));
            counted = λ z. count_is;
            addressed = λ z. address_is;
          }

-- a set that passed
pub record Ready (setting : Setting) (types : Verdict) (os : List Input) (size : ℕ) : Type 0 where
  pub verdict_is : prepare_verdict setting types os size ≡ passed
  pub typed : types ≡ passed
  pub loads : load_from setting size 0 0 (files_of os) ≡ passed
  pub end : setting.address + size ≤ 2 ^ 63
  pub small : size ≤ 2 ^ 28

pub ready : (setting : Setting) (types : Verdict) (os : List Input) (size : ℕ) → prepare_verdict setting types os size ≡ passed → Ready setting types os size
unfolding prepare_verdict
ready setting types os size e =
    let b = first_passed (unless (arena_ok size setting.address) 2 0) _ e in
    let y = first_passed types _ b.1 in
    let c = first_passed (unless (eqb (duplicate_of os) 0) 3 (duplicate_of os)) (load_verdict (objects_of setting (files_of os)) size 0 (files_of os)) y.1 in
    let p = arena_bounds size setting.address (unless_passed (arena_ok size setting.address) 2 0 b.0) in
    record {
      verdict_is = e;
      typed = y.0;
      loads = sym (loads_same setting size (files_of os)) ∙ c.1;
      end = p.1;
      small = p.0;
    }

pub passes :
    (setting : Setting) (types : Verdict) (os : List Input) (arena arena' table : List ℕ) (r : Verdict) → Prepared setting types os arena arena' table r → r ≡ passed
    → Ready setting types os (length arena)
passes setting types os arena arena' table r made z = ready setting types os (length arena) (sym made.met ∙ z)
