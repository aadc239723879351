-- An object's part of the arena, from its offset to the arena's end, that is lent and comes back as `x`: the arena is `with_part t a x` then,
-- and a write in the part is one in the arena. Assumes nothing.
use Rattle.std.proofs.Common.{◌≡◌, ℕ, ◌+◌, ◌-◌, ◌<◌, ◌≤◌, min, List, ◌++◌, length, take, drop, sym, refl, ap, ◌∙◌, append-nil, arith, length-append, length-drop, take-append-drop, drop_of_length-le, length-take-le, take_all, take_at, drop_at}
use native.Mathlib.Decide.{dec_lt}
use borrow.Rule.Slice.PartMut.{put_mid}
use Rattle.words.specs.Memory.{mem, patch}
use Rattle.words.specs.Words.{le_at, byte_of, sum64}
use Rattle.words.proofs.Slices.{mem_drop, put_tail}
use Rattle.words.proofs.Words.{le_at_same}
use Rattle.object.specs.Record.{Record}
use Rattle.binder.specs.declared.turn.Turn.{Turn}
use Rattle.binder.specs.Steps.Relocating.{part_of, with_part, far, cut_to32, summed, word_added, add_relrs, summed_in, run_relrs}

module _ (t : Turn) (a : List ℕ) where
  -- ---- the loan; an arena that ends before the object's offset lends no bytes

  module _ {off : ℕ} (starts : off ≡ min t.offset (length a)) where
    all_of : length (drop off a) ≤ length a - off
    all_of = simp length-drop (omega arith)

    from_offset : drop off a ≡ drop t.offset a
    from_offset = go (dec_lt (length a) t.offset)
      where
        go : Dec (length a < t.offset) → drop off a ≡ drop t.offset a
        go (yes h) = drop_of_length-le a {i = off} (omega arith) ∙ sym (drop_of_length-le a {i = t.offset} (omega arith))
        go (no h) = let e : off ≡ t.offset = omega arith in rw e refl

    up_to_offset : take off a ≡ take t.offset a
    up_to_offset = go (dec_lt (length a) t.offset)
      where
        go : Dec (length a < t.offset) → take off a ≡ take t.offset a
        go (yes h) = take_all off a (omega arith) ∙ sym (take_all t.offset a (omega arith))
        go (no h) = let e : off ≡ t.offset = omega arith in rw e refl

    pub lent : take (length a - off) (drop off a) ≡ part_of t a
    lent = take_all (length a - off) (drop off a) all_of ∙ from_offset

    pub given_back : (x : List ℕ) → put_mid off (length a - off) a x ≡ with_part t a x
    unfolding with_part
    given_back x =
        ap (λ (z : List ℕ). take off a ++ (x ++ z)) (drop_of_length-le (drop off a) {i = length a - off} all_of)
        ∙ (ap (λ (z : List ℕ). take off a ++ z) (append-nil x) ∙ ap (λ (z : List ℕ). z ++ x) up_to_offset)

  -- ---- the part and the arena

  pub with_same : with_part t a (part_of t a) ≡ a
  unfolding with_part
  with_same = take-append-drop t.offset a

  module _ (fits : t.offset ≤ length a) where
    pub part_with : (x : List ℕ) → part_of t (with_part t a x) ≡ x
    unfolding with_part
    part_with x = drop_at (take t.offset a) x t.offset (length-take-le t.offset a fits)

    pub long_with : (x : List ℕ) → t.offset ≤ length (with_part t a x)
    unfolding with_part
    long_with x = simp length-append (omega (arith, length-take-le t.offset a fits))

    pub with_again : (x y : List ℕ) → with_part t (with_part t a x) y ≡ with_part t a y
    unfolding with_part
    with_again x y = ap (λ (z : List ℕ). z ++ y) (take_at (take t.offset a) x t.offset (length-take-le t.offset a fits))

    -- a write in the part
    pub with_patch : (p n : ℕ) (f : ℕ → ℕ) → with_part t a (patch (part_of t a) p n f) ≡ patch a (t.offset + p) n f
    with_patch p n f =
        let e : t.offset ≡ min t.offset (length a) = omega arith in
        sym (given_back e (patch (part_of t a) p n f))
        ∙ put_tail a t.offset p n f fits (ap (λ (x : List ℕ). patch x p n f) (sym (lent e)))

    -- a number in the part
    number_in_part : (n p : ℕ) → le_at n (mem (part_of t a)) p ≡ le_at n (mem a) (t.offset + p)
    number_in_part n p =
        le_at_same n (mem (part_of t a)) (mem a) p (t.offset + p) (λ k h. mem_drop t.offset a (p + k) ∙ ap (mem a) (omega arith))

    -- a word of the part that gained the base
    pub word_added_lem :
        (p : ℕ)
        → with_part t a (word_added t.base p (part_of t a))
        ≡ patch a (t.offset + p) 8 (byte_of (sum64 (le_at 8 (mem a) (t.offset + p)) t.base))
    unfolding word_added
    word_added_lem p =
        with_patch p 8 (byte_of (sum64 (le_at 8 (mem (part_of t a)) p) t.base))
        ∙ ap (λ (v : ℕ). patch a (t.offset + p) 8 (byte_of (sum64 v t.base))) (number_in_part 8 p)

-- what is summed in the part that was lent is summed in the arena
pub relrs_in :
    (t : Turn) (r : Record) (a x : List ℕ) (z : ℕ) {off : ℕ} → off ≡ min t.offset (length a)
    → summed z x ≡ add_relrs t r (cut_to32 r.relrs) 0 far (take (length a - off) (drop off a))
    → summed z (put_mid off (length a - off) a x) ≡ run_relrs t r a
unfolding run_relrs
relrs_in t r a x z starts e =
    ap (summed z) (given_back t a starts x) ∙ ap (summed_in t a) (e ∙ ap (add_relrs t r (cut_to32 r.relrs) 0 far) (lent t a starts))
