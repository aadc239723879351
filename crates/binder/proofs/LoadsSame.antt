-- Loading each file at its object's offset is loading the files one after another. Assumes nothing.
use Rattle.std.proofs.Common.{◌≡◌, ℕ, suc, ◌+◌, ◌-◌, ◌<◌, List, [], ◌∷◌, length, get_or, refl, ap, ◌∙◌, arith}
use Rattle.model.specs.Objects.{Obj, Objs, obj}
use Rattle.model.specs.Layout.{layout, objs_of}
use Rattle.model.specs.Layout as layouts
use Rattle.object.specs.Placed.{object_span}
use Rattle.object.specs.Loaded.{object_refusal}
use Rattle.binder.specs.Setting.{Setting}
use Rattle.binder.specs.Instance.{File, object_at, offset_of, object_from}
use Rattle.binder.specs.Verdict.{first, verdict, load_verdict}
use Rattle.binder.specs.Bind.{objects_of}
use Rattle.binder.specs.Steps.Prepared.{load_from}

-- the files from object `n` on, whose objects are laid out from `off` on
loads_from :
    (S : Objs) (setting : Setting) (size : ℕ) (d : Obj) (files : List File) (n off : ℕ)
    → ((j : ℕ) → j < length files → (obj S (n + j)).offset ≡ (get_or (layout (object_from setting) files off) j d).offset)
    → load_verdict S size n files ≡ load_from setting size n off files
unfolding load_verdict load_from layouts.layout object_from object_at
loads_from S setting size d [] n off h = refl
loads_from S setting size d (f ∷ fs) n off h =
    let z : n ≡ n + 0 = omega arith in
    let here : (obj S n).offset ≡ offset_of setting f off = ap (λ (k : ℕ). (obj S k).offset) z ∙ h 0 (omega arith) in
    ap (λ (o : ℕ). first (verdict (object_refusal f.host (size - o) f.bytes) n) (load_verdict S size (n + 1) fs)) here
    ∙ ap (first (verdict (object_refusal f.host (size - offset_of setting f off) f.bytes) n))
    (loads_from S setting size d fs (n + 1) (offset_of setting f off + object_span f.host f.bytes)
    (λ j l. let e : n + 1 + j ≡ n + suc j = omega arith in ap (λ (k : ℕ). (obj S k).offset) e ∙ h (suc j) (omega arith)))

pub loads_same : (setting : Setting) (size : ℕ) (files : List File) → load_verdict (objects_of setting files) size 0 files ≡ load_from setting size 0 0 files
unfolding objects_of layouts.objs_of layouts.layout object_from object_at load_verdict load_from
loads_same setting size [] = refl
loads_same setting size (h ∷ []) = refl
loads_same setting size (h ∷ (p ∷ fs)) =
    loads_from (objs_of (object_from setting) h p fs) setting size (object_from setting h 0) (h ∷ (p ∷ fs)) 0 0
    (λ j l. let e : 0 + j ≡ j = omega arith in ap (λ (k : ℕ). (obj (objs_of (object_from setting) h p fs) k).offset) e)
