-- Where an object goes: at or after the next free offset, at a multiple of its alignment in address, less than its alignment behind; and
-- within the arena, where it is loaded. Assumes nothing.
use Rattle.std.proofs.Common.{◌≡◌, ℕ, ◌+◌, ◌-◌, ◌*◌, ◌/◌, ◌%◌, ◌<◌, ◌≤◌, Bool, true, false, List, refl, ap, ◌∙◌, mod-lt, add-mul, one-mul, div-add-mod', div-mul-le_self, arith}
use native.Mathlib.Nat.{lt-div-mul-add, mul-mod_left}
use lib.Arith.{digits_div}
use Rattle.object.specs.ProgramHeader.{dynamic_of}
use Rattle.object.specs.Record.{read_refusal}
use Rattle.object.specs.Placed.{object_span, object_align, segments_of, place_refusal}
use Rattle.object.specs.Placed as placing
use Rattle.object.specs.Loaded.{object_refusal}
use Rattle.object.specs.Loaded as loading
use Rattle.object.proofs.AlignLaws.{align_least}
use Rattle.object.proofs.PlaceLaws.{file_span}
use Rattle.object.proofs.RefusalLaws.{after_zero}
use Rattle.object.proofs.LoadedLaws.{place_fits, load_checked}
use Rattle.binder.specs.Setting.{Setting}
use Rattle.binder.specs.Instance.{File, file_image, object_at, multiple_from, next_offset, offset_of, object_from}

-- ---- the least multiple that is no less

module _ (align a : ℕ) (h : 1 ≤ align) where
  multiple_after : a ≤ multiple_from align a
  multiple_after =
      let l : a + (align - 1) < (a + (align - 1)) / align * align + align = lt-div-mul-add h in
      omega (arith, l)

  multiple_near : multiple_from align a < a + align
  multiple_near = omega (arith, div-mul-le_self (a + (align - 1)) align)

  -- the multiple itself, and what follows one
  multiple_here : a % align ≡ 0 → multiple_from align a ≡ a
  multiple_here e =
      let m : a / align * align ≡ a = omega (arith, div-add-mod' a align, e) in
      let s : a + (align - 1) ≡ a / align * align + (align - 1) = omega (arith, m) in
      let d : (a + (align - 1)) / align ≡ a / align =
      ap (λ (x : ℕ). x / align) s ∙ digits_div (a / align) (omega arith) in
      ap (λ (x : ℕ). x * align) d ∙ m

  multiple_past : (a % align ≡ 0 → ⊥) → multiple_from align a ≡ a + (align - a % align)
  multiple_past ne =
      let l : a % align < align = mod-lt a h in
      let m : a / align * align + a % align ≡ a = div-add-mod' a align in
      let t : (a / align + 1) * align ≡ a / align * align + align = add-mul (a / align) 1 align ∙ rw (one-mul align) in
      let s : a + (align - 1) ≡ (a / align + 1) * align + (a % align - 1) = omega (arith, l, m, t, some) in
      let d : (a + (align - 1)) / align ≡ a / align + 1 =
      ap (λ (x : ℕ). x / align) s ∙ digits_div (a / align + 1) (omega (arith, l)) in
      ap (λ (x : ℕ). x * align) d ∙ omega (arith, l, m, t)
    where
      some : 1 ≤ a % align
      some = omega (arith, ne)

-- ---- the offset of an object

module _ (align address free : ℕ) (h : 1 ≤ align) where
  pub next_after : (host : Bool) → free ≤ next_offset host align address free
  unfolding next_offset
  next_after true = omega arith
  next_after false = omega (arith, multiple_after align (address + free) h)

  pub next_near : next_offset false align address free < free + align
  unfolding next_offset
  next_near = omega (arith, multiple_near align (address + free) h, multiple_after align (address + free) h, h)

  pub next_multiple : (address + next_offset false align address free) % align ≡ 0
  unfolding next_offset
  next_multiple =
      let s : address + (multiple_from align (address + free) - address) ≡ multiple_from align (address + free) =
      omega (arith, multiple_after align (address + free) h) in
      ap (λ (x : ℕ). x % align) s ∙ mul-mod_left ((address + free + (align - 1)) / align) align

  -- as the code finds it
  pub next_host : free ≡ next_offset true align address free
  unfolding next_offset
  next_host = refl

  pub next_here : (address + free) % align ≡ 0 → free ≡ next_offset false align address free
  unfolding next_offset
  next_here e = omega (arith, multiple_here align (address + free) h e)

  pub next_past : ((address + free) % align ≡ 0 → ⊥) → free + (align - (address + free) % align) ≡ next_offset false align address free
  unfolding next_offset
  next_past ne = omega (arith, multiple_past align (address + free) h ne)

-- ---- the offset of a file's object

pub aligned_some : (host : Bool) (file : List ℕ) → 1 ≤ object_align host file
unfolding placing.object_align
aligned_some host file = omega (arith, align_least (segments_of host file))

pub offset_after : (setting : Setting) (f : File) (free : ℕ) → free ≤ offset_of setting f free
offset_after setting f free = next_after (object_align f.host f.bytes) setting.address free (aligned_some f.host f.bytes) f.host

-- no object is made before the next free offset
pub made_after : (setting : Setting) (f : File) (free : ℕ) → free ≤ (object_from setting f free).offset
unfolding object_from object_at
made_after setting f free = offset_after setting f free

-- refusal 8 passed
pub load_fits : (f : File) (room : ℕ) → object_refusal f.host room f.bytes ≡ 0 → object_span f.host f.bytes ≤ room
unfolding loading.object_refusal
load_fits f room e = place_fits f.host f.bytes room (after_zero (place_refusal f.host room f.bytes) _ e).0

-- refusals 9 to 12 passed
pub load_read :
    (f : File) (room : ℕ) → object_refusal f.host room f.bytes ≡ 0
    → read_refusal f.host (file_image f) (segments_of f.host f.bytes) (dynamic_of f.bytes) ≡ 0
unfolding loading.object_refusal
load_read f room e = (after_zero (place_refusal f.host room f.bytes) _ e).1

-- what is loaded ends within the arena, though its offset may pass the arena's end: no span is empty
pub link_fits :
    (f : File) (setting : Setting) (size free : ℕ) → free ≤ size → object_refusal f.host (size - offset_of setting f free) f.bytes ≡ 0
    → offset_of setting f free + object_span f.host f.bytes ≤ size
unfolding next_offset
link_fits f setting size free l e =
    go f.host f.bytes (object_align f.host f.bytes) (load_fits f (size - offset_of setting f free) e)
    (load_checked f.host f.bytes (size - offset_of setting f free) e)
  where
    go :
        (host : Bool) (bytes : List ℕ) (align : ℕ) → object_span host bytes ≤ size - next_offset host align setting.address free
        → placing.file_refusal host bytes ≡ 0
        → next_offset host align setting.address free + object_span host bytes ≤ size
    go true bytes align fits z = omega (arith, fits, l)
    go false bytes align fits z = omega (arith, fits, file_span bytes z)
