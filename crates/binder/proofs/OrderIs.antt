-- The order of a set has each library once, then the program, and nothing else. Assumes nothing.
use Rattle.std.proofs.Common.{◌≡◌, ℕ, ◌+◌, List, ◌∷◌, length, get_or, subst, arith}
use lib.ListN.{length-map}
use Rattle.model.specs.Objects.{count}
use Rattle.model.specs.Order.{OnceEach}
use Rattle.model.specs.Layout.{objs_of}
use Rattle.model.proofs.OrderLaws.{once_each}
use Rattle.sheet.specs.Sheet.{Input}
use Rattle.binder.specs.Setting.{Setting}
use Rattle.binder.specs.Instance.{File, object_from}
use Rattle.binder.specs.Verdict.{no_file}
use Rattle.binder.specs.SetOrder.{needed_objects, set_order}
use Rattle.binder.specs.Bind.{names_of}
use Rattle.binder.proofs.SoundLaws.{count_is}

-- of any files, and as many names as libraries
pub set_order_lem : (files : List File) (names : List (List ℕ)) → OnceEach (length names + 2) (set_order files names)
unfolding set_order
set_order_lem files names = once_each (λ k. needed_objects names (get_or files k no_file)) (length names)

-- a set has as many names as libraries
pub names_length : (h p : Input) (ls : List Input) → length (names_of (h ∷ (p ∷ ls))) ≡ length ls
unfolding names_of
names_length h p ls = length-map ls (λ o. o.name)

-- of a set: its objects are as many as the names and two
pub order_is :
    (setting : Setting) (h p : File) (fs : List File) (names : List (List ℕ)) → length names ≡ length fs
    → OnceEach (count (objs_of (object_from setting) h p fs)) (set_order (h ∷ (p ∷ fs)) names)
order_is setting h p fs names e =
    let n : length names + 2 ≡ count (objs_of (object_from setting) h p fs) = omega (arith, count_is setting 0 h p fs) in
    subst (λ (n : ℕ). OnceEach n (set_order (h ∷ (p ∷ fs)) names)) n (set_order_lem (h ∷ (p ∷ fs)) names)
