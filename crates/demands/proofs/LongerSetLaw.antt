-- Demand 3 for `bind` and `query`: what a longer set keeps of a set that is bound. Assumes nothing.
use mathlib.Core.Path.{◌≡◌, sym, ap, subst, ◌∙◌}
use mathlib.Core.List.{List, [], ◌∷◌, ◌++◌, map}
use Prim.Native.Nat.{ℕ}
use native.Mathlib.Omega.{arith}
use lib.ListN.{length, length-append, length-map}
use Rattle.words.specs.Memory.{mem, tab}
use Rattle.model.specs.Relocation.{bound}
use Rattle.model.specs.Longer.{OnlyProgramCopies, Kept}
use Rattle.model.proofs.Files.{longer_files}
use Rattle.sheet.specs.Sheet.{Input, set_of}
use Rattle.binder.specs.Setting.{Setting}
use Rattle.binder.specs.Instance.{File, object_from}
use Rattle.binder.specs.Steps.PlainVerdict.{plain_order}
use Rattle.binder.specs.Steps.Prepared.{load_from}
use Rattle.binder.specs.SetOrder.{set_order}
use Rattle.binder.specs.Bind.{files_of, names_of, objects_of}
use Rattle.demands.specs.LongerSet.{LongerSet}
use Rattle.binder.proofs.OutcomeLaws.{objects_in, bound_passed}
use Rattle.sheet.proofs.SheetLonger.{Longer, sheet_longer}
use Rattle.binder.proofs.FileLaws.{host_file, file_of, files_are, files_longer}
use Rattle.binder.proofs.SoundLaws.{set_sound, set_fits}
use Rattle.binder.proofs.OrderIs.{names_length, order_is}
use Rattle.binder.specs.Verdict.{passed}

-- the two stages that a set passed, of its files and its libraries' names
abbrev Loads : Setting → ℕ → List File → Type 0
Loads setting size files = load_from setting size 0 0 files ≡ passed

abbrev Relocates : Setting → List File → List (List ℕ) → Type 0
Relocates setting files names = plain_order setting.row (objects_of setting files) files (set_order files names) ≡ passed

-- what is claimed, of two sets in arenas of `size` and `size'` bytes
abbrev Keeps : Setting → ℕ → List File → List (List ℕ) → ℕ → List File → List (List ℕ) → Type 0
Keeps setting size files names size' files' names' =
    Kept (objects_of setting files) (objects_of setting files')
    (mem (tab size (bound (objects_of setting files) (set_order files names))))
    (mem (tab size' (bound (objects_of setting files') (set_order files' names'))))

-- of files
keeps :
    (setting : Setting) (size size' : ℕ) (h p : File) (fs : List File) (f : File) (names names' : List (List ℕ)) → length names ≡ length fs
    → length names' ≡ length (fs ++ (f ∷ []))
    → Loads setting size (h ∷ (p ∷ fs))
    → Relocates setting (h ∷ (p ∷ fs)) names
    → OnlyProgramCopies (objects_of setting (h ∷ (p ∷ fs)))
    → Loads setting size' (h ∷ (p ∷ (fs ++ (f ∷ []))))
    → Relocates setting (h ∷ (p ∷ (fs ++ (f ∷ [])))) names'
    → Keeps setting size (h ∷ (p ∷ fs)) names size' (h ∷ (p ∷ (fs ++ (f ∷ [])))) names'
unfolding objects_of
keeps setting size size' h p fs f names names' n n' v w only v' w' =
    let order : List ℕ = set_order (h ∷ (p ∷ fs)) names in
    let order' : List ℕ = set_order (h ∷ (p ∷ (fs ++ (f ∷ [])))) names' in
    let o = order_is setting h p fs names n in
    let o' = order_is setting h p (fs ++ (f ∷ [])) names' n' in
    longer_files (object_from setting) h p fs order size (set_sound setting size h p fs v order o w) o (set_fits setting size h p fs v) only
    f order' size' (set_sound setting size' h p (fs ++ (f ∷ [])) v' order' o' w') o' (set_fits setting size' h p (fs ++ (f ∷ [])) v')

-- of any two sets of which the second is the first and one object more
keeps_any :
    (setting : Setting) (size size' : ℕ) (os os' : List Input) → Longer os os' → Loads setting size (files_of os)
    → Relocates setting (files_of os) (names_of os)
    → OnlyProgramCopies (objects_in setting os)
    → Loads setting size' (files_of os')
    → Relocates setting (files_of os') (names_of os')
    → Keeps setting size (files_of os) (names_of os) size' (files_of os') (names_of os')
keeps_any setting size size' os os' l v w only v' w' =
    let fs : List File = map file_of l.libs in
    let files : files_of os ≡ host_file l.host ∷ (file_of l.program ∷ fs) =
    ap files_of l.is ∙ files_are l.host l.program l.libs in
    let files' : files_of os' ≡ host_file l.host ∷ (file_of l.program ∷ (fs ++ (file_of l.added ∷ []))) =
    ap files_of l.longer ∙ files_longer l.host l.program l.libs l.added in
    let n : length (names_of os) ≡ length fs =
    ap (λ (s : List Input). length (names_of s)) l.is
    ∙ (names_length l.host l.program l.libs ∙ sym (length-map l.libs file_of)) in
    let n'' : length (names_of os') ≡ length (l.libs ++ (l.added ∷ [])) =
    ap (λ (s : List Input). length (names_of s)) l.longer ∙ names_length l.host l.program (l.libs ++ (l.added ∷ [])) in
    let n' : length (names_of os') ≡ length (fs ++ (file_of l.added ∷ [])) =
    omega (arith, length-append fs (file_of l.added ∷ []), length-append l.libs (l.added ∷ []), length-map l.libs file_of) in
    rw (files, files')
    (keeps setting size size' (host_file l.host) (file_of l.program) fs (file_of l.added) (names_of os) (names_of os') n n'
    (rw files at v) (rw files at w) (subst (λ (s : List File). OnlyProgramCopies (objects_of setting s)) files only) (rw files' at v')
    (rw files' at w'))

pub longer_set : LongerSet
longer_set setting policy sheet bytes size words arena report b only f n added size' words' arena' report' b' =
    let p = bound_passed setting sheet bytes size policy words arena report b in
    let p' = bound_passed setting (sheet ++ (f ∷ (n ∷ []))) (bytes ++ added) size' policy words' arena' report' b' in
    rw (p.arena_is, p'.arena_is)
    (keeps_any setting size size' (set_of sheet bytes) (set_of (sheet ++ (f ∷ (n ∷ []))) (bytes ++ added))
    (sheet_longer sheet bytes f n added p.sheet_ok_lem) p.loads p.relocates only p'.loads p'.relocates)
