-- Where an object of a loaded set lies: it is its file's object at its offset, and ends within the arena; a table with the set's links has
-- its link; placing the files puts its bytes there. Assumes nothing.
use Rattle.std.proofs.Common.{◌≡◌, ℕ, zero, suc, ◌+◌, ◌-◌, ◌<◌, ◌≤◌, List, [], ◌∷◌, length, get_or, refl, ap, ◌∙◌, inl, arith}
use Rattle.words.specs.Memory.{Mem}
use Rattle.words.proofs.Memory.{write_in, write_out}
use Rattle.model.specs.Objects.{Obj, count, obj}
use Rattle.model.specs.Layout as layouts
use Rattle.model.specs.Layout.{layout, objs_of}
use Rattle.object.specs.Placed.{object_span, object_bytes}
use Rattle.object.specs.Loaded.{object_refusal}
use Rattle.scope.specs.Steps.Links.{link_at}
use Rattle.binder.specs.Setting.{Setting}
use Rattle.binder.specs.Instance.{File, object_at, offset_of, object_from}
use Rattle.binder.specs.Verdict.{passed, verdict, no_file}
use Rattle.binder.specs.Steps.Prepared.{load_from, link_of, place_files, Linked}
use Rattle.binder.proofs.OutcomeLaws.{first_passed, verdict_passed}
use Rattle.binder.proofs.OffsetLaws.{offset_after, link_fits}

-- `o` is the object `k`, of the file `f`, among `files` that were loaded from object `n` on, `free` being the next free offset
pub record Lies (setting : Setting) (size : ℕ) (files : List File) (n free k : ℕ) (f : File) (o : Obj) : Type 0 where
  pub is : o ≡ object_at setting f o.offset
  pub fits : o.offset + object_span f.host f.bytes ≤ size
  -- refusals 4 to 12 and 21 were passed
  pub loads : object_refusal f.host (size - o.offset) f.bytes ≡ 0
  pub link : (table : List ℕ) → Linked setting table n free files → link_at table k ≡ link_of f o.offset
  pub bytes :
      (m : Mem) (i : ℕ) → i < object_span f.host f.bytes
      → place_files setting files free m (o.offset + i) ≡ object_bytes f.host f.bytes i

module _ {setting : Setting} {size : ℕ} {files : List File} {n free k : ℕ} {f : File} {o : Obj}
    (t : Lies setting size files n free k f o) where
  pub span_is : o.span ≡ object_span f.host f.bytes
  unfolding object_at
  span_is = ap (λ (x : Obj). x.span) t.is

  pub base_is : o.base ≡ setting.address + o.offset
  unfolding object_at
  base_is = ap (λ (x : Obj). x.base) t.is

-- ---- the files, one after another

-- files placed from `off` on leave what lies before
pub place_before : (setting : Setting) (fs : List File) (off : ℕ) (m : Mem) (i : ℕ) → i < off → place_files setting fs off m i ≡ m i
unfolding place_files
place_before setting [] off m i h = refl
place_before setting (f ∷ fs) off m i h =
    let l = offset_after setting f off in
    place_before setting fs (offset_of setting f off + object_span f.host f.bytes) _ i (omega arith)
    ∙ write_out m (offset_of setting f off) (object_span f.host f.bytes) (object_bytes f.host f.bytes) i (inl (omega arith))

module _ (setting : Setting) (size : ℕ) where
  -- the first file was loaded, and so were the others behind it
  pub first_loaded :
      (f : File) (fs : List File) (n free : ℕ) → load_from setting size n free (f ∷ fs) ≡ passed
      → (object_refusal f.host (size - offset_of setting f free) f.bytes ≡ 0)
      × (load_from setting size (n + 1) (offset_of setting f free + object_span f.host f.bytes) fs ≡ passed)
  unfolding load_from
  first_loaded f fs n free v =
      let z : ℕ = object_refusal f.host (size - offset_of setting f free) f.bytes in
      let a = first_passed (verdict z n) _ v in
      (verdict_passed z n a.0, a.1)

  pub file_lies :
      (files : List File) (n free j k : ℕ) (d : Obj) → k ≡ n + j → free ≤ size → load_from setting size n free files ≡ passed
      → j < length files
      → Lies setting size files n free k (get_or files j no_file) (get_or (layout (object_from setting) files free) j d)
  unfolding layouts.layout object_from object_at Linked place_files
  file_lies [] n free j k d e l v h = absurd (omega arith)
  file_lies (f ∷ fs) n free zero k d e l v h =
      let a = first_loaded f fs n free v in
      let off : ℕ = offset_of setting f free in
      let first : k ≡ n = omega arith in
      record {
        is = refl;
        fits = link_fits f setting size free l a.0;
        loads = a.0;
        link = λ table s. ap (link_at table) first ∙ s.0;
        bytes = λ m i g.
            place_before setting fs (off + object_span f.host f.bytes) _ (off + i) (omega arith)
            ∙ (write_in m off (object_span f.host f.bytes) (object_bytes f.host f.bytes) (off + i) (omega arith)
            ∙ ap (object_bytes f.host f.bytes) (omega arith));
      }
  file_lies (f ∷ fs) n free (suc j) k d e l v h =
      let a = first_loaded f fs n free v in
      let t =
      file_lies fs (n + 1) (offset_of setting f free + object_span f.host f.bytes) j k d (omega arith)
      (link_fits f setting size free l a.0) a.1 (omega arith) in
      record { is = t.is; fits = t.fits; loads = t.loads; link = λ table s. t.link table s.1; bytes = λ m. t.bytes _ }

  -- ---- the objects of a set

  layout_length : (files : List File) (off : ℕ) → length (layout (object_from setting) files off) ≡ length files
  unfolding layouts.layout
  layout_length [] off = refl
  layout_length (f ∷ fs) off = ap suc (layout_length fs _)

  pub count_is : (h p : File) (fs : List File) → count (objs_of (object_from setting) h p fs) ≡ length fs + 2
  unfolding layouts.objs_of
  count_is h p fs = omega (arith, layout_length fs (layouts.next_free (object_from setting) p (layouts.next_free (object_from setting) h 0)))

  -- object `k` of the set of a host, a program and libraries
  abbrev pub ObjectLies : File → File → List File → ℕ → Type 0
  ObjectLies h p fs k =
      Lies setting size (h ∷ (p ∷ fs)) 0 0 k (get_or (h ∷ (p ∷ fs)) k no_file) (obj (objs_of (object_from setting) h p fs) k)

  pub object_lies :
      (h p : File) (fs : List File) → load_from setting size 0 0 (h ∷ (p ∷ fs)) ≡ passed
      → (k : ℕ) → k < count (objs_of (object_from setting) h p fs) → ObjectLies h p fs k
  unfolding layouts.objs_of layouts.layout
  object_lies h p fs v k l =
      file_lies (h ∷ (p ∷ fs)) 0 0 k k (object_from setting h 0) (omega arith) (omega arith) v (omega (arith, count_is h p fs))
