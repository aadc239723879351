-- Where the objects of a set stand. Document 02, (a): "Each object after the host goes to the next free offset where arena address plus offset
-- is a multiple of" the largest p_align of its PT_LOAD headers; "Adding a library at the end still moves no earlier object" is part of
-- demand 3 (LongerSet). Assumes nothing.
use Rattle.std.specs.Prelude.{false, List, ◌≡◌, ℕ, suc, ◌+◌, ◌%◌, ◌≤◌, ◌<◌, length, get_or}
use Rattle.model.specs.Objects.{Obj, Objs, obj}
use Rattle.object.specs.Placed.{object_align}
use Rattle.sheet.specs.Sheet.{Input, no_input, set_of}
use Rattle.binder.specs.Setting.{Setting}
use Rattle.binder.specs.declared.Policy.{Policy}
use Rattle.demands.specs.LongerSet.{set_objects, BoundBy, PassesLoading}

-- the object `o` of a program or library, `end` being where the object before it ends
pub record Next (setting : Setting) (end : ℕ) (file : List ℕ) (o : Obj) : Type 0 where
  pub base : o.base ≡ setting.address + o.offset
  -- at a multiple of its alignment in address
  pub multiple : o.base % object_align false file ≡ 0
  -- at or after the end of the one before, and less than its alignment behind it
  pub after : end ≤ o.offset
  pub near : o.offset < end + object_align false file

-- the objects of a set in an arena of `size` bytes
pub record LaidOut (setting : Setting) (size : ℕ) (os : List Input) (S : Objs) : Type 0 where
  pub host : (obj S 0).offset ≡ 0
  pub next :
      (k : ℕ) → suc k < length os
      → Next setting ((obj S k).offset + (obj S k).span) (get_or os (suc k) no_input).file (obj S (suc k))
  -- spans do not overlap
  pub apart : (j k : ℕ) → j < k → k < length os → (obj S j).offset + (obj S j).span ≤ (obj S k).offset
  pub inside : (k : ℕ) → k < length os → (obj S k).offset + (obj S k).span ≤ size

-- of every set that is not refused: one that can be asked, and one that is bound
pub record LargePages : Type 0 where
  pub asked :
      (setting : Setting) (sheet bytes : List ℕ) (size : ℕ) → PassesLoading setting sheet bytes size
      → LaidOut setting size (set_of sheet bytes) (set_objects setting sheet bytes)
  pub bound :
      (setting : Setting) (sheet bytes : List ℕ) (size : ℕ) (policy : Policy) (words : ℕ) (arena report : List ℕ)
      → BoundBy setting sheet bytes size policy words arena report
      → LaidOut setting size (set_of sheet bytes) (set_objects setting sheet bytes)
