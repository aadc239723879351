-- The objects of a set that is not refused stand as document 02, (a), says. Assumes nothing.
use mathlib.Core.Path.{◌≡◌, refl, sym, ap, ◌∙◌, subst}
use mathlib.Core.Bool.{false}
use mathlib.Core.List.{List, [], ◌∷◌, map}
use Prim.Native.Nat.{ℕ, zero, suc, ◌+◌, ◌<◌}
use native.Mathlib.Omega.{arith}
use borrow.Author.Tests.{ne_eqb}
use lib.ListN.{length, get_or, length-map}
use Rattle.model.specs.Objects.{Obj, Objs, count, obj}
use Rattle.model.specs.Layout.{next_free, layout, objs_of}
use Rattle.model.specs.Layout as layouts
use Rattle.model.proofs.Laid.{objs_apart}
use Rattle.object.specs.Placed.{object_align}
use Rattle.sheet.specs.Sheet.{Input, no_input, set_of}
use Rattle.sheet.proofs.SheetLonger.{sheet_shape}
use Rattle.binder.specs.Setting.{Setting}
use Rattle.binder.specs.Instance.{File, object_at, next_offset, object_from}
use Rattle.binder.specs.Verdict.{passed, no_file}
use Rattle.binder.specs.Steps.Prepared.{load_from}
use Rattle.binder.specs.Bind.{files_of, objects_of}
use Rattle.binder.proofs.FileLaws.{host_file, file_of, files_are}
use Rattle.binder.proofs.OffsetLaws.{aligned_some, next_after, next_near, next_multiple, made_after}
use Rattle.binder.proofs.OutcomeLaws.{bound_passed}
use Rattle.binder.proofs.PrepareLaws.{file_at}
use Rattle.binder.proofs.SoundLaws.{count_is, set_fits}
use Rattle.demands.specs.LargePages.{Next, LaidOut, LargePages}
use Rattle.demands.proofs.PassedSet.{prepared}

-- the object after another one is made of its file where that one ends
layout_next :
    (setting : Setting) (files : List File) (off k : ℕ) (d : Obj) → suc k < length files
    → get_or (layout (object_from setting) files off) (suc k) d
    ≡ object_from setting (get_or files (suc k) no_file)
    ((get_or (layout (object_from setting) files off) k d).offset + (get_or (layout (object_from setting) files off) k d).span)
unfolding layouts.layout
layout_next setting [] off k d l = absurd (omega arith)
layout_next setting (f ∷ []) off k d l = absurd (omega arith)
layout_next setting (f ∷ (g ∷ gs)) off zero d l = refl
layout_next setting (f ∷ (g ∷ gs)) off (suc k) d l =
    layout_next setting (g ∷ gs) (next_free (object_from setting) f off) k d (omega arith)

-- a program's or library's object
next_of : (setting : Setting) (end : ℕ) (file : List ℕ) → Next setting end file (object_from setting (record { host = false; bytes = file }) end)
unfolding object_from object_at
next_of setting end file =
    let some = aligned_some false file in
    record {
      base = refl;
      multiple = next_multiple (object_align false file) setting.address end some;
      after = next_after (object_align false file) setting.address end some false;
      near = next_near (object_align false file) setting.address end some;
    }

module _ (setting : Setting) (size : ℕ) (h p : Input) (ls : List Input) (v : load_from setting size 0 0 (files_of (h ∷ (p ∷ ls))) ≡ passed) where
  abbrev os : List Input
  os = h ∷ (p ∷ ls)

  abbrev fs : List File
  fs = map file_of ls

  abbrev set : Objs
  set = objs_of (object_from setting) (host_file h) (file_of p) fs

  loads : load_from setting size 0 0 (host_file h ∷ (file_of p ∷ fs)) ≡ passed
  loads = rw (files_are h p ls) at v

  many : count set ≡ length os
  many = omega (arith, count_is setting size (host_file h) (file_of p) fs, length-map ls file_of)

  -- the file of an object that is not the host's
  later : (k : ℕ) → suc k < length os → get_or (host_file h ∷ (file_of p ∷ fs)) (suc k) no_file ≡ record { host = false; bytes = (get_or os (suc k) no_input).file }
  later k l =
      ap (λ (l : List File). get_or l (suc k) no_file) (sym (files_are h p ls))
      ∙ (file_at os (suc k) l ∙ rw (ne_eqb (suc k) 0 (λ e. omega arith)))

  next : (k : ℕ) → suc k < length os → Next setting ((obj set k).offset + (obj set k).span) (get_or os (suc k) no_input).file (obj set (suc k))
  unfolding layouts.objs_of layouts.layout
  next k l =
      let e : obj set (suc k) ≡ object_from setting (record { host = false; bytes = (get_or os (suc k) no_input).file })
      ((obj set k).offset + (obj set k).span) =
      layout_next setting (host_file h ∷ (file_of p ∷ fs)) 0 k (object_from setting (host_file h) 0) (omega (arith, length-map ls file_of))
      ∙ ap (λ (f : File). object_from setting f ((obj set k).offset + (obj set k).span)) (later k l) in
      subst (λ (o : Obj). Next setting ((obj set k).offset + (obj set k).span) (get_or os (suc k) no_input).file o) (sym e)
      (next_of setting ((obj set k).offset + (obj set k).span) (get_or os (suc k) no_input).file)

  host_at : (obj set 0).offset ≡ 0
  unfolding layouts.objs_of object_from object_at next_offset
  host_at = refl

  laid_set : LaidOut setting size os set
  laid_set =
      record {
        host = host_at;
        next = next;
        apart = λ j k l g. objs_apart (object_from setting) (made_after setting) (host_file h) (file_of p) fs j k l (omega (arith, many));
        inside = λ k l. set_fits setting size (host_file h) (file_of p) fs loads k (omega (arith, many));
      }

  laid : LaidOut setting size os (objects_of setting (files_of os))
  unfolding objects_of
  laid = rw (files_are h p ls) laid_set

laid_out :
    (setting : Setting) (size : ℕ) (os : List Input) (h p : Input) (ls : List Input) → os ≡ h ∷ (p ∷ ls)
    → load_from setting size 0 0 (files_of os) ≡ passed
    → LaidOut setting size os (objects_of setting (files_of os))
laid_out setting size os h p ls e v = rw e (laid setting size h p ls (rw e at v))

pub large_pages : LargePages
large_pages =
    record {
      asked = λ setting sheet bytes size v.
          let q = prepared sheet bytes setting size v in
          let s = sheet_shape sheet bytes (length bytes) q.sheet_ok_lem in
          laid_out setting size (set_of sheet bytes) s.host s.program s.libs s.is q.loads;
      bound = λ setting sheet bytes size policy words arena report b.
          let q = bound_passed setting sheet bytes size policy words arena report b in
          let s = sheet_shape sheet bytes (length bytes) q.sheet_ok_lem in
          laid_out setting size (set_of sheet bytes) s.host s.program s.libs s.is q.loads;
    }
