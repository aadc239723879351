-- A file added at the end of a list moves no earlier object; spans lie apart. Assumes nothing.
use mathlib.Core.Path.{◌≡◌, refl, ap}
use mathlib.Core.List.{List, [], ◌∷◌, ◌++◌}
use Prim.Native.Nat.{ℕ, zero, suc, ◌+◌, ◌≤◌, ◌<◌}
use native.Mathlib.Omega.{arith}
use lib.ListN.{length, get_or}
use Rattle.model.specs.Objects.{Obj, count, obj}
use Rattle.model.specs.Longer.{longer}
use Rattle.model.specs.Layout.{next_free, layout, end, objs_of}

module _ {File : Type 0} (make : File → ℕ → Obj) where
  layout_append :
      (fs gs : List File) (off : ℕ) → layout make (fs ++ gs) off ≡ layout make fs off ++ layout make gs (end make fs off)
  unfolding layout end
  layout_append [] gs off = refl
  layout_append (f ∷ fs) gs off = ap (λ (l : List Obj). make f off ∷ l) (layout_append fs gs (next_free make f off))

  -- the longer set is the set with one more object at its end
  pub objs_longer :
      (h p : File) (fs : List File) (f : File)
      → objs_of make h p (fs ++ (f ∷ []))
      ≡ longer (objs_of make h p fs) (make f (end make fs (next_free make p (next_free make h 0))))
  unfolding objs_of layout
  objs_longer h p fs f =
      ap (λ (l : List Obj). record { host = make h 0; program = make p (next_free make h 0); libs = l })
      (layout_append fs (f ∷ []) (next_free make p (next_free make h 0)))

  module _ (after : (f : File) (off : ℕ) → off ≤ (make f off).offset) where
    -- every object of a layout begins at its start or later
    layout_from : (fs : List File) (off k : ℕ) (d : Obj) → k < length (layout make fs off) → off ≤ (get_or (layout make fs off) k d).offset
    unfolding layout
    layout_from [] off k d l = absurd (omega arith)
    layout_from (f ∷ fs) off zero d l = after f off
    layout_from (f ∷ fs) off (suc k) d l =
        omega (arith, after f off, layout_from fs (next_free make f off) k d (omega arith))

    layout_apart :
        (fs : List File) (off j k : ℕ) (d : Obj) → j < k → k < length (layout make fs off)
        → (get_or (layout make fs off) j d).offset + (get_or (layout make fs off) j d).span ≤ (get_or (layout make fs off) k d).offset
    unfolding layout
    layout_apart [] off j k d l h = absurd (omega arith)
    layout_apart (f ∷ fs) off j zero d l h = absurd (omega arith)
    layout_apart (f ∷ fs) off zero (suc k) d l h = layout_from fs (next_free make f off) k d (omega arith)
    layout_apart (f ∷ fs) off (suc j) (suc k) d l h = layout_apart fs (next_free make f off) j k d (omega arith) (omega arith)

    -- the field `apart` of `Sound`
    pub objs_apart :
        (h p : File) (fs : List File) (j k : ℕ) → j < k → k < count (objs_of make h p fs)
        → (obj (objs_of make h p fs) j).offset + (obj (objs_of make h p fs) j).span ≤ (obj (objs_of make h p fs) k).offset
    unfolding objs_of layout
    objs_apart h p fs j k l g = layout_apart (h ∷ p ∷ fs) 0 j k (make h 0) l g
