-- A set that meets none of refusals 4 to 18 is sound, and fits its arena. Assumes nothing.
use Rattle.std.proofs.Common.{◌≡◌, ℕ, ◌+◌, ◌<◌, ◌≤◌, Bool, true, false, eqb, List, [], ◌∷◌, ◌++◌, map, get_or, ap, subst, ⊎_elim, arith, eqb-true}
use mathlib.Core.List.Memᴰ
use mathlib.Core.List.{Memᴰ}
use native.Mathlib.Decide.{dec_le}
use Rattle.words.specs.Choice.{pick}
use Rattle.model.specs.Objects.{Entry, Obj, Objs, count, obj}
use Rattle.model.specs.Order.{times, OnceEach}
use Rattle.model.specs.Sound.{Sound}
use Rattle.model.specs.Layout.{Fits, objs_of}
use Rattle.model.proofs.Laid.{objs_apart}
use Rattle.model.proofs.OrderLaws.{decide}
use Rattle.object.specs.TableBytes.{in_writable}
use Rattle.object.specs.RelocationTypes.{Row}
use Rattle.binder.specs.Setting.{Setting}
use Rattle.binder.specs.Instance.{File, file_image, file_record, places_of, named_words, relas_of, entry_of, object_at, object_from}
use Rattle.binder.specs.Verdict.{passed, no_file, words_verdict}
use Rattle.binder.specs.Steps.PlainVerdict.{plain_entries, plain_object, plain_order}
use Rattle.binder.specs.Steps.Prepared.{load_from}
use Rattle.binder.proofs.OutcomeLaws.{first_passed}
use Rattle.binder.proofs.OffsetLaws.{made_after}
use Rattle.binder.proofs.Lies.{span_is, object_lies}
pub use Rattle.binder.proofs.Lies.{count_is}
use Rattle.binder.proofs.InsideLaws.{writable_inside, words_inside, entries_inside}

-- ---- the objects fit the arena

pub set_fits :
    (setting : Setting) (size : ℕ) (h p : File) (fs : List File) → load_from setting size 0 0 (h ∷ (p ∷ fs)) ≡ passed
    → Fits (objs_of (object_from setting) h p fs) size
set_fits setting size h p fs v k l =
    let t = object_lies setting size h p fs v k l in
    omega (arith, t.fits, span_is t)

-- ---- every object of the order is checked

pub order_checked :
    (row : ℕ → Row) (S : Objs) (files : List File) (order : List ℕ) → plain_order row S files order ≡ passed → (k : ℕ) → 0 < times k order
    → plain_object row S k (get_or files k no_file) ≡ passed
unfolding plain_order
order_checked row S files [] v k h = absurd (omega arith)
order_checked row S files (j ∷ js) v k h =
    let a = first_passed (plain_object row S j (get_or files j no_file)) (plain_order row S files js) v in
    ⊎_elim
    (λ (t : eqb j k ≡ true). subst (λ (i : ℕ). plain_object row S i (get_or files i no_file) ≡ passed) (eqb-true j k t) a.0)
    (λ (t : eqb j k ≡ false). order_checked row S files js a.1 k (rw t at h))
    (decide (eqb j k))

times_front : (k : ℕ) (front : List ℕ) → 0 < times k front → 0 < times k (front ++ (1 ∷ []))
times_front k [] h = absurd (omega arith)
times_front k (j ∷ js) h =
    ⊎_elim (λ (t : eqb j k ≡ true). rw t (omega arith)) (λ (t : eqb j k ≡ false). rw t (times_front k js (rw t at h))) (decide (eqb j k))

times_last : (front : List ℕ) → 0 < times 1 (front ++ (1 ∷ []))
times_last [] = omega arith
times_last (j ∷ js) =
    ⊎_elim (λ (t : eqb j 1 ≡ true). rw t (omega arith)) (λ (t : eqb j 1 ≡ false). rw t (times_last js)) (decide (eqb j 1))

-- every object but the host is in the order
in_order : (n : ℕ) (order : List ℕ) → OnceEach n order → (k : ℕ) → 1 ≤ k → k < n → 0 < times k order
in_order n order o k a b = rw o.split (go (dec_le 2 k))
  where
    go : Dec (2 ≤ k) → 0 < times k (o.front ++ (1 ∷ []))
    go (yes l) = times_front k o.front (omega (arith, o.once k l b))
    go (no l) = let z : k ≡ 1 = omega arith in rw z (times_last o.front)

-- ---- what is picked

pub from_pick : {A : Type 0} {x : A} (t : Bool) (xs : List A) → Memᴰ x (pick t [] xs) → Memᴰ x xs
from_pick true xs m = absurd (Memᴰ.not-nil m)
from_pick false xs m = m

-- ---- the set

module _ (setting : Setting) (size : ℕ) (h p : File) (fs : List File) (v : load_from setting size 0 0 (h ∷ (p ∷ fs)) ≡ passed) (order : List ℕ)
    (once : OnceEach (count (objs_of (object_from setting) h p fs)) order)
    (w : plain_order setting.row (objs_of (object_from setting) h p fs) (h ∷ (p ∷ fs)) order ≡ passed) where
  abbrev set : Objs
  set = objs_of (object_from setting) h p fs

  abbrev file : ℕ → File
  file k = get_or (h ∷ (p ∷ fs)) k no_file

  checked :
      (k : ℕ) → 1 ≤ k → k < count set
      → (words_verdict k (file_record (file k)) (named_words (file_image (file k)) (file_record (file k))) ≡ passed)
      × (plain_entries setting.row set k (file_image (file k)) (file_record (file k)) (relas_of (file_image (file k)) (file_record (file k))) ≡ passed)
  unfolding plain_object
  checked k a b =
      first_passed (words_verdict k (file_record (file k)) (named_words (file_image (file k)) (file_record (file k)))) _
      (order_checked setting.row set (h ∷ (p ∷ fs)) order w k (in_order (count set) order once k a b))

  inner :
      (k : ℕ) → k < count set → (q n : ℕ) → in_writable (file_record (file k)).segments q n ≡ true → q + n ≤ (obj set k).span
  inner k b q n e =
      omega (arith, span_is (object_lies setting size h p fs v k b), writable_inside (file k).host (file k).bytes q n e)

  pub set_sound : Sound (objs_of (object_from setting) h p fs)
  unfolding object_at
  set_sound =
      record {
        apart = objs_apart (object_from setting) (made_after setting) h p fs;
        words_in = λ k a b q m.
            let s = object_lies setting size h p fs v k b in
            let ws : List ℕ = places_of (named_words (file_image (file k)) (file_record (file k))) in
            let in_file : Memᴰ q ws =
            from_pick (file k).host ws (subst (λ (l : List ℕ). Memᴰ q l) (ap (λ (o : Obj). o.words) s.is) m) in
            inner k b q 8
            (words_inside k (file_record (file k)) (named_words (file_image (file k)) (file_record (file k))) (checked k a b).0 q in_file);
        entries_in = λ k a b x m.
            let s = object_lies setting size h p fs v k b in
            let es : List Entry =
            map (entry_of setting.row (file_image (file k)) (file_record (file k)) (setting.address + (obj set k).offset)) (relas_of (file_image (file k)) (file_record (file k))) in
            let in_file : Memᴰ x es =
            from_pick (file k).host es (subst (λ (l : List Entry). Memᴰ x l) (ap (λ (o : Obj). o.entries) s.is) m) in
            entries_inside setting.row set k (file_image (file k)) (file_record (file k)) (setting.address + (obj set k).offset) (inner k b)
            (relas_of (file_image (file k)) (file_record (file k))) (checked k a b).1 x in_file;
      }
