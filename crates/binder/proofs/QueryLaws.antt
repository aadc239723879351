-- A set that was loaded: the arena holds its placed bytes, and the table of links has the model's objects. Assumes nothing.
use Rattle.std.proofs.Common.{◌≡◌, ℕ, ◌+◌, ◌^◌, ◌<◌, ◌≤◌, List, [], ◌∷◌, length, get_or, take, drop, sym, refl, ap, ◌∙◌, arith, length-drop, length-take}
use Rattle.words.specs.Memory.{Mem, mem, tab}
use Rattle.words.proofs.Slices.{mem_ext, mem_part, mem_tab, length_tab}
use Rattle.model.specs.Objects.{Obj}
use Rattle.model.specs.Layout as layouts
use Rattle.model.specs.Layout.{objs_of, layout}
use Rattle.model.specs.Relocation as relocation
use Rattle.model.specs.Relocation.{place, placed}
use Rattle.object.specs.Placed.{object_span, object_bytes}
use Rattle.object.specs.Record.{view_of}
use Rattle.object.specs.HashTable.{answer_in}
use Rattle.binder.specs.Setting.{Setting}
use Rattle.model.specs.Symbols.{by_name}
use Rattle.binder.specs.Instance.{File, file_image, file_record, exported_of, object_at, object_from, offset_of}
use Rattle.binder.specs.Verdict.{passed, no_file}
use Rattle.scope.specs.Steps.Links.{link_at}
use Rattle.binder.specs.Steps.Prepared.{load_from, place_files, Linked}
use Rattle.scope.specs.Steps.ScopeCode as searches
use Rattle.scope.specs.Steps.ScopeCode.{image_at}
use Rattle.binder.specs.Steps.ScopeModel.{LinkOf, LinkedFor}
use Rattle.scope.specs.declared.links.Link.{Link}
use Rattle.binder.proofs.Lies.{Lies, base_is, object_lies}

-- ---- placing

-- files placed one after another are the model's objects
pub place_is : (setting : Setting) (fs : List File) (off : ℕ) (m : Mem) → place (layout (object_from setting) fs off) m ≡ place_files setting fs off m
unfolding place_files relocation.place layouts.layout object_from object_at
place_is setting [] off m = refl
place_is setting (f ∷ fs) off m = place_is setting fs (offset_of setting f off + object_span f.host f.bytes) _

pub placed_is : (setting : Setting) (h p : File) (fs : List File) → placed (objs_of (object_from setting) h p fs) ≡ place_files setting (h ∷ (p ∷ fs)) 0 (λ _. 0)
unfolding relocation.placed layouts.objs_of layouts.layout
placed_is setting h p fs = place_is setting (h ∷ (p ∷ fs)) 0 (λ _. 0)

-- ---- an object, its link and its part of the arena

-- a part of the arena whose bytes are known
same :
    (n off : ℕ) (m : Mem) (arena : List ℕ) → off + n ≤ length arena → ((j : ℕ) → j < n → mem arena (off + j) ≡ m j)
    → take n (drop off arena) ≡ tab n m
same n off m arena fits bytes =
    mem_ext (take n (drop off arena)) (tab n m) (many ∙ sym (length_tab n m))
    (λ i h. let g : i < n = omega (arith, many) in mem_part n off arena i g ∙ (bytes i g ∙ sym (mem_tab n m i g)))
  where
    many : length (take n (drop off arena)) ≡ n
    many = simp (length-take, length-drop) (omega arith)

module _ {setting : Setting} {size : ℕ} {files : List File} {n free k : ℕ} {f : File} {o : Obj} (t : Lies setting size files n free k f o)
    (table : List ℕ) (s : Linked setting table n free files) (arena : List ℕ) where
  -- its part of an arena with the placed bytes is its image
  pub image_at_lem :
      (m : Mem) → length arena ≡ size → mem arena ≡ place_files setting files free m → image_at arena (link_at table k) ≡ file_image f
  image_at_lem m len e =
      ap (image_at arena) (t.link table s)
      ∙ same (object_span f.host f.bytes) o.offset (object_bytes f.host f.bytes) arena (omega (arith, t.fits))
      (λ j g. ap (λ (x : Mem). x (o.offset + j)) e ∙ t.bytes m j g)

  -- it is asked at its link, in an arena where its answers are those of its image
  pub link_of :
      setting.address + size < 2 ^ 64
      → ((name : List ℕ)
      → answer_in (image_at arena (link_at table k)) (view_of (file_record f)) name ≡ answer_in (file_image f) (view_of (file_record f)) name)
      → LinkOf setting.address arena o (link_at table k)
  unfolding object_at searches.answer_at
  link_of small answers =
      record {
        base = base_is t ∙ ap (λ (x : Link). setting.address + x.offset) (sym (t.link table s));
        small = omega (arith, t.fits, ap (λ (x : Link). x.offset) (t.link table s));
        find = λ name.
            ap (λ (x : Obj). x.find (by_name name)) t.is
            ∙ ap exported_of
            (sym (ap (λ (x : Link). answer_in (image_at arena (link_at table k)) x.view name) (t.link table s) ∙ answers name));
      }

-- every object of a loaded set has its link, and is asked there
pub linked_for :
    (setting : Setting) (size : ℕ) (table : List ℕ) (h p : File) (fs : List File) (arena : List ℕ) (m : Mem) → length arena ≡ size
    → setting.address + size < 2 ^ 64 → load_from setting size 0 0 (h ∷ (p ∷ fs)) ≡ passed → Linked setting table 0 0 (h ∷ (p ∷ fs))
    → mem arena ≡ place_files setting (h ∷ (p ∷ fs)) 0 m → LinkedFor setting.address arena table (objs_of (object_from setting) h p fs)
linked_for setting size table h p fs arena m len small v s e k l =
    let f : File = get_or (h ∷ (p ∷ fs)) k no_file in
    let t = object_lies setting size h p fs v k l in
    link_of t table s arena small
    (λ name. ap (λ (image : List ℕ). answer_in image (view_of (file_record f)) name) (image_at_lem t table s arena m len e))
