-- The walk of the dynamic array: what is left of it gives, after what was read, the fields and the needs of the whole. Assumes nothing.
use mathlib.Core.Path.{◌≡◌, refl, sym, ap, ◌∙◌}
use mathlib.Core.Bool.{Bool, true, false}
use mathlib.Core.List.{List, [], ◌∷◌, ◌++◌, append-nil, append_assoc}
use Prim.Native.Nat.{ℕ, suc, ◌+◌, ◌-◌, ◌<◌}
use native.Mathlib.Omega.{arith}
use native.Mathlib.Decide.{dec_lt, ℕ_discrete}
use borrow.Author.Tests.{eq-eqb, ne_eqb, lt-ltb, le-ltb}
use lib.Dec.{eqb, ltb}
use lib.ListN.{length, replicate, length-set, length-replicate, get_or-replicate}
use lib.Seq.{get_or-set_same, get_or-set_other}
use Rattle.words.specs.Choice.{pick}
use Rattle.words.specs.Memory.{mem}
use Rattle.words.specs.Words.{le_at}
use Rattle.std.specs.Prelude.{Option, None, Result}
use Rattle.words.specs.CopyVec.{CopyVec}
use Rattle.object.specs.DynamicArray.{Item, item_at, item_room, items_in, end_in, ends_inside, last_value, first_of, all_of}
use Rattle.object.specs.DynamicTags as DT
use Rattle.object.specs.DynamicFields.{field_of, fields_of, needed_offsets}
use Rattle.object.specs.Steps.FirstOf.{FirstOf}
use Rattle.object.specs.Steps.Slots.{slot_of, field_in, kept_of, put_of, ArrayAt}

-- ---- slots

-- the tag of a slot
tag_of : ℕ → ℕ
tag_of k = pick (ltb k 37) k DT.GNU_HASH

slot_tag : (tag : ℕ) → (slot_of tag < 38) × (0 < slot_of tag → tag_of (slot_of tag) ≡ tag)
unfolding tag_of slot_of
slot_tag tag = go (dec_lt tag 37) (ℕ_discrete tag DT.GNU_HASH)
  where
    go : Dec (tag < 37) → Dec (tag ≡ DT.GNU_HASH) → (slot_of tag < 38) × (0 < slot_of tag → tag_of (slot_of tag) ≡ tag)
    go (yes l) d = rw (lt-ltb tag 37 l, lt-ltb tag 37 l) (omega arith, λ h. refl)
    go (no l) (yes e) = rw e (omega arith, λ h. refl)
    go (no l) (no ne) = rw (le-ltb tag 37 (omega arith), ne_eqb tag DT.GNU_HASH ne) (omega arith, λ h. absurd (omega arith))

slot_apart : (t tag : ℕ) → 0 < slot_of tag → (t ≡ tag → ⊥) → slot_of t ≡ slot_of tag → ⊥
slot_apart t tag h ne e = ne (sym ((slot_tag t).1 (rw e h)) ∙ (ap tag_of e ∙ (slot_tag tag).1 h))

-- what more entries give after `d`
unfoldable pub field_from : ℕ → Option ℕ → List Item → Option ℕ
field_from tag d items = pick (eqb tag DT.HASH) (first_of tag d items) (last_value tag d items)

-- an entry is in its slot
module _ (slots : List (Option ℕ)) (room : length slots ≡ 38) (tag : ℕ) (h : 0 < slot_of tag) (v : ℕ) (xs : List Item) where
  abbrev was : Option ℕ
  was = field_in slots tag

  abbrev Turn : ℕ → Type 0
  Turn t = field_from tag was (record { tag = t; value = v } ∷ xs) ≡ field_from tag (field_in (put_of slots t v) tag) xs

  put_other : (t : ℕ) → (t ≡ tag → ⊥) → Turn t
  unfolding field_from first_of last_value
  put_other t ne =
      rw (ne_eqb t tag ne, get_or-set_other slots (slot_of t) (slot_of tag) (kept_of t (field_in slots t) v) None (λ e. slot_apart t tag h ne (sym e)))

  here : field_in (put_of slots tag v) tag ≡ kept_of tag was v
  here = get_or-set_same slots (slot_of tag) (kept_of tag was v) None (omega (arith, room, (slot_tag tag).0))

  put_last : (tag ≡ DT.HASH → ⊥) → Turn tag
  unfolding field_from first_of last_value kept_of
  put_last ne = rw (here, ne_eqb tag DT.HASH ne, eq-eqb tag tag refl)

  put_first : tag ≡ DT.HASH → Turn tag
  unfolding field_from first_of last_value kept_of
  put_first e = rw (here, eq-eqb tag DT.HASH e, eq-eqb tag tag refl)

  put_turn : (t : ℕ) → Turn t
  put_turn t = go (ℕ_discrete t tag) (ℕ_discrete tag DT.HASH)
    where
      go : Dec (t ≡ tag) → Dec (tag ≡ DT.HASH) → Turn t
      go (no ne) d = put_other t ne
      go (yes e) (no ne) = rw e (put_last ne)
      go (yes e) (yes f) = rw e (put_first f)

-- ---- the needs

-- what was read and what is left make the whole
pub record Left (whole : List ℕ) (n : Result (CopyVec ℕ) (CopyVec ℕ)) (left : List ℕ) : Type 0 where
  pub seen : List ℕ
  pub read : FirstOf 64 seen n
  pub all : seen ++ left ≡ whole

left_all : (whole : List ℕ) (n : Result (CopyVec ℕ) (CopyVec ℕ)) → Left whole n [] → FirstOf 64 whole n
left_all whole n h = rw (← h.all, append-nil h.seen) h.read

-- an entry that is a need, and one that is not
pub left_need :
    (whole : List ℕ) (n r : Result (CopyVec ℕ) (CopyVec ℕ)) (x : Item) (xs : List Item) → Left whole n (all_of 1 (x ∷ xs)) → x.tag ≡ 1
    → ((seen : List ℕ) → FirstOf 64 seen n → FirstOf 64 (seen ++ x.value ∷ []) r)
    → Left whole r (all_of 1 xs)
unfolding all_of
left_need whole n r x xs h t more =
    let e : h.seen ++ (x.value ∷ all_of 1 xs) ≡ whole = rw (eq-eqb x.tag 1 t) at h.all in
    record { seen = h.seen ++ x.value ∷ []; read = more h.seen h.read; all = append_assoc h.seen (x.value ∷ []) (all_of 1 xs) ∙ e }

pub left_other :
    (whole : List ℕ) (n : Result (CopyVec ℕ) (CopyVec ℕ)) (x : Item) (xs : List Item) → Left whole n (all_of 1 (x ∷ xs)) → (x.tag ≡ 1 → ⊥)
    → Left whole n (all_of 1 xs)
unfolding all_of
left_other whole n x xs h ne = record { seen = h.seen; read = h.read; all = rw (ne_eqb x.tag 1 ne) at h.all }

-- ---- the walk

items_more :
    (image : List ℕ) (at left : ℕ) → 0 < left → (le_at 8 (mem image) at ≡ 0 → ⊥)
    → (items_in left image at ≡ item_at image at ∷ items_in (left - 1) image (at + 16)) × (end_in left image at ≡ end_in (left - 1) image (at + 16))
unfolding items_in end_in
items_more image at left l ne =
    let e : left ≡ suc (left - 1) = omega arith in (
      ap (λ (n : ℕ). items_in n image at) e ∙ rw (ne_eqb (le_at 8 (mem image) at) 0 ne),
      ap (λ (n : ℕ). end_in n image at) e ∙ rw (ne_eqb (le_at 8 (mem image) at) 0 ne),
    )

-- the slots and the needs so far, with what the `left` entries from `i` on will give, make the whole
pub record Walk (image : List ℕ) (at : ℕ) (slots : List (Option ℕ)) (needs : Result (CopyVec ℕ) (CopyVec ℕ)) (i left : ℕ) : Type 0 where
  pub room : length slots ≡ 38
  pub fields : (tag : ℕ) → 0 < slot_of tag → field_from tag (field_in slots tag) (items_in left image i) ≡ fields_of image at tag
  pub needed : Left (needed_offsets image at) needs (all_of DT.NEEDED (items_in left image i))
  pub ended : end_in left image i ≡ ends_inside image at

module _ (image : List ℕ) (at : ℕ) where
  pub walk_start : (slots : List (Option ℕ)) (needs : Result (CopyVec ℕ) (CopyVec ℕ)) → slots ≡ replicate 38 None → FirstOf 64 [] needs → Walk image at slots needs at (item_room image at)
  unfolding field_from field_of
  walk_start slots needs e n =
      record {
        room = rw e (length-replicate {A = Option ℕ} 38 None);
        fields = λ tag h. rw (e, get_or-replicate {A = Option ℕ} 38 (slot_of tag) None None (slot_tag tag).0);
        needed = record { seen = []; read = n; all = refl };
        ended = refl;
      }

  module _ (slots : List (Option ℕ)) (needs : Result (CopyVec ℕ) (CopyVec ℕ)) (i left : ℕ) (w : Walk image at slots needs i left) where
    -- an entry of tag 0, or no more room
    ends :
        (b : Bool) → items_in left image i ≡ [] → end_in left image i ≡ b
        → ArrayAt image at (record { slots = slots; needs = needs; ended = b })
    unfolding field_from first_of last_value all_of
    ends b e t =
        record {
          fields = λ tag h. none (eqb tag DT.HASH) (field_in slots tag) ∙ (ap (field_from tag (field_in slots tag)) (sym e) ∙ w.fields tag h);
          needs = left_all _ needs (rw e at w.needed);
          ended = sym t ∙ w.ended;
        }
      where
        none : (b : Bool) (d : Option ℕ) → d ≡ pick b d d
        none true d = refl
        none false d = refl

    pub walk_end : 0 < left → le_at 8 (mem image) i ≡ 0 → ArrayAt image at (record { slots = slots; needs = needs; ended = true })
    unfolding items_in end_in
    walk_end l z =
        let e : left ≡ suc (left - 1) = omega arith in
        ends true (ap (λ (n : ℕ). items_in n image i) e ∙ rw (eq-eqb (le_at 8 (mem image) i) 0 z))
        (ap (λ (n : ℕ). end_in n image i) e ∙ rw (eq-eqb (le_at 8 (mem image) i) 0 z))

    pub walk_none : left ≡ 0 → ArrayAt image at (record { slots = slots; needs = needs; ended = false })
    unfolding items_in end_in
    walk_none z = ends false (rw z) (rw z)

    module _ (tag v : ℕ) (l : 0 < left) (ne : tag ≡ 0 → ⊥) (t : tag ≡ le_at 8 (mem image) i) (ev : v ≡ le_at 8 (mem image) (i + 8)) where
      m : (items_in left image i ≡ item_at image i ∷ items_in (left - 1) image (i + 16)) × (end_in left image i ≡ end_in (left - 1) image (i + 16))
      m = items_more image i left l (λ z. ne (t ∙ z))

      turn :
          (slots' : List (Option ℕ)) (needs' : Result (CopyVec ℕ) (CopyVec ℕ)) → slots' ≡ put_of slots tag v
          → Left (needed_offsets image at) needs' (all_of DT.NEEDED (items_in (left - 1) image (i + 16)))
          → Walk image at slots' needs' (i + 16) (left - 1)
      turn slots' needs' es n =
          record {
            room = rw (es, length-set slots (slot_of tag) (kept_of tag (field_in slots tag) v)) w.room;
            fields = λ g h.
                rw (es, t, ev) (sym (put_turn slots w.room g h (le_at 8 (mem image) (i + 8)) (items_in (left - 1) image (i + 16)) (le_at 8 (mem image) i)))
                ∙ (ap (field_from g (field_in slots g)) (sym m.0) ∙ w.fields g h);
            needed = n;
            ended = sym m.1 ∙ w.ended;
          }

      pub walk_need :
          (slots' : List (Option ℕ)) (needs' : Result (CopyVec ℕ) (CopyVec ℕ)) → slots' ≡ put_of slots tag v → tag ≡ DT.NEEDED
          → ((seen : List ℕ) → FirstOf 64 seen needs → FirstOf 64 (seen ++ v ∷ []) needs')
          → Walk image at slots' needs' (i + 16) (left - 1)
      walk_need slots' needs' es d more =
          turn slots' needs' es
          (left_need _ needs needs' (item_at image i) (items_in (left - 1) image (i + 16)) (rw m.0 at w.needed) (sym t ∙ d)
          (λ seen n. rw ev at (more seen n)))

      pub walk_other :
          (slots' : List (Option ℕ)) → slots' ≡ put_of slots tag v → (tag ≡ DT.NEEDED → ⊥) → Walk image at slots' needs (i + 16) (left - 1)
      walk_other slots' es d =
          turn slots' needs es
          (left_other _ needs (item_at image i) (items_in (left - 1) image (i + 16)) (rw m.0 at w.needed) (λ e. d (t ∙ e)))
