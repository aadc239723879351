-- The files of a set, and of the set with one more object. Assumes nothing.
use Rattle.std.proofs.Common.{◌≡◌, true, false, List, [], ◌∷◌, ◌++◌, map, refl, ap, ◌∙◌}
use Rattle.sheet.specs.Sheet.{Input}
use Rattle.binder.specs.Instance.{File}
use Rattle.binder.specs.Bind.{files_of}

abbrev pub host_file : Input → File
host_file o = record { host = true; bytes = o.file }

abbrev pub file_of : Input → File
file_of o = record { host = false; bytes = o.file }

pub map_append : {A B : Type 0} (f : A → B) (xs ys : List A) → map f (xs ++ ys) ≡ map f xs ++ map f ys
map_append f [] ys = refl
map_append {B = B} f (x ∷ xs) ys = ap (λ (l : List B). f x ∷ l) (map_append f xs ys)

pub files_are : (h p : Input) (ls : List Input) → files_of (h ∷ (p ∷ ls)) ≡ host_file h ∷ (file_of p ∷ map file_of ls)
unfolding files_of
files_are h p ls = refl

pub files_longer :
    (h p : Input) (ls : List Input) (x : Input)
    → files_of (h ∷ (p ∷ (ls ++ (x ∷ [])))) ≡ host_file h ∷ (file_of p ∷ (map file_of ls ++ (file_of x ∷ [])))
files_longer h p ls x =
    files_are h p (ls ++ (x ∷ [])) ∙ ap (λ (fs : List File). host_file h ∷ (file_of p ∷ fs)) (map_append file_of ls (x ∷ []))
