-- After any order that lists a library once, its bytes are those of relocating it alone. Assumes nothing.
use mathlib.Core.Path.{◌≡◌, refl, ap, ◌∙◌}
use mathlib.Core.Logic.{inl, inr, ◌≢◌}
use mathlib.Core.Bool.{Bool, true, false}
use mathlib.Core.List.{List, [], ◌∷◌, ◌++◌, Memᴰ}
use Prim.Native.Nat.{ℕ, suc, ◌≤◌, ◌<◌}
use native.Mathlib.Omega.{arith}
use native.Mathlib.Decide.{dec_lt}
use lib.Dec.{eqb}
use borrow.Author.Tests.{eqb-true, eqb-false, eq-eqb}
use Rattle.words.specs.Memory.{Mem}
use Rattle.model.specs.Objects.{Entry, fixed, symbol, copy, pass, Obj, Objs, count, obj, InSpan}
use Rattle.model.specs.Relocation.{add_words, relocate, run, place}
use Rattle.model.specs.Order.{times}
use Rattle.model.specs.Sound.{Sound}
use Rattle.model.specs.Longer.{NotCopy}
use Rattle.words.specs.Choice.{pick}
use Rattle.model.proofs.Frame.{OutSpan, relocate_frame}
use Rattle.model.proofs.Agree.{Agree, Step, exact, words_same, step_fixed, step_symbol, step_pass, effects_agree}

pub run_append : (S : Objs) (ks js : List ℕ) (m : Mem) → run S (ks ++ js) m ≡ run S js (run S ks m)
unfolding run
run_append S [] js m = refl
run_append S (k ∷ ks) js m = run_append S ks js (relocate S k m)

pub place_append : (os more : List Obj) (m : Mem) → place (os ++ more) m ≡ place more (place os m)
unfolding place
place_append [] more m = refl
place_append (o ∷ os) more m = place_append os more _

pub times_head : (j : ℕ) (js : List ℕ) → 0 < times j (j ∷ js)
times_head j js = rw (eq-eqb j j refl) (omega arith)

pub times_tail : (j k : ℕ) (js : List ℕ) → times j js ≤ times j (k ∷ js)
times_tail j k js = go (eqb k j)
  where
    go : (b : Bool) → times j js ≤ pick b (suc (times j js)) (times j js)
    go true = omega arith
    go false = omega arith

-- all of them libraries of a set of n objects
abbrev pub Only : ℕ → List ℕ → Type 0
Only n ks = (j : ℕ) → 0 < times j ks → (2 ≤ j) × (j < n)

pub only_tail : (n k : ℕ) (ks : List ℕ) → Only n (k ∷ ks) → Only n ks
only_tail n k ks h j l = h j (omega (arith, times_tail j k ks))

-- the host and the program are not among them
pub times_early : (n : ℕ) (ks : List ℕ) (k : ℕ) → Only n ks → k < 2 → times k ks ≡ 0
times_early n ks k h l = go (dec_lt 0 (times k ks))
  where
    go : Dec (0 < times k ks) → times k ks ≡ 0
    go (yes z) = let r = h k z in absurd (omega arith)
    go (no z) = omega arith

-- inside one span, outside any other
pub apart_out :
    (S : Objs) → Sound S → (j k : ℕ) → j < count S → k < count S → j ≢ k → (i : ℕ)
    → InSpan (obj S k) i
    → OutSpan (obj S j) i
apart_out S sound j k lj lk ne i w = go (dec_lt j k)
  where
    go : Dec (j < k) → OutSpan (obj S j) i
    go (yes l) = inr (omega (arith, sound.apart j k l lk))
    go (no l) = inl (omega (arith, sound.apart k j (omega arith) lj))

-- objects that are not in the list keep their bytes
pub run_keeps :
    (S : Objs) → Sound S → (ks : List ℕ) → Only (count S) ks → (k : ℕ) → k < count S → times k ks ≡ 0
    → (m : Mem) (i : ℕ) → InSpan (obj S k) i
    → run S ks m i ≡ m i
unfolding run
run_keeps S sound [] only k l z m i w = refl
run_keeps S sound (j ∷ ks) only k l z m i w =
    go (λ z'. run_keeps S sound ks (only_tail (count S) j ks only) k l z' (relocate S j m) i w) (eqb j k) refl
  where
    go :
        (times k ks ≡ 0 → run S ks (relocate S j m) i ≡ relocate S j m i)
        → (b : Bool) → eqb j k ≡ b
        → run S ks (relocate S j m) i ≡ m i
    go below true e = let h = rw e at z in absurd (omega arith)
    go below false e =
        let r = only j (times_head j ks) in
        below (rw e at z)
        ∙ relocate_frame S sound j (omega arith) r.1 m i (apart_out S sound j k r.1 l (eqb-false j k e) i w)

-- one object in two sets
pub relocate_agree :
    (E D : ℕ → Type 0) (A B : Objs) (k : ℕ) → obj B k ≡ obj A k
    → ((e : Entry) → Memᴰ e (obj A k).entries → Step E D A B k e)
    → (m m' : Mem)
    → Agree E D (add_words (obj A k) (obj A k).words m) (add_words (obj A k) (obj A k).words m')
    → Agree E D (relocate A k m) (relocate B k m')
unfolding relocate
relocate_agree E D A B k same steps m m' old = rw same (effects_agree E D A B k (obj A k).entries steps _ _ old)

no_copy_step :
    (D : ℕ → Type 0) (S : Objs) (k : ℕ) (e : Entry) → NotCopy e → Step (λ _. ⊥) D S S k e
no_copy_step D S k (fixed p w v) n = step_fixed (λ _. ⊥) D S S k refl p w v
no_copy_step D S k (symbol p w wanted f) n = step_symbol (λ _. ⊥) D S S k refl p w wanted f refl
no_copy_step D S k (copy p wanted size) n = absurd n
no_copy_step D S k pass n = step_pass (λ _. ⊥) D S S k refl

-- without COPY, the bytes of the span depend on the bytes of the span alone
pub relocate_local :
    (S : Objs) → Sound S → (k : ℕ) → 1 ≤ k → k < count S
    → ((e : Entry) → Memᴰ e (obj S k).entries → NotCopy e)
    → (m m' : Mem) → ((i : ℕ) → InSpan (obj S k) i → m i ≡ m' i)
    → (i : ℕ) → InSpan (obj S k) i
    → relocate S k m i ≡ relocate S k m' i
relocate_local S sound k l h free m m' old i w =
    exact
    (relocate_agree (λ _. ⊥) (InSpan (obj S k)) S S k refl
    (λ e x. no_copy_step (InSpan (obj S k)) S k e (free e x)) m m'
    (λ j v. inr (words_same (obj S k) (obj S k).words m m' (sound.words_in k l h) old j v)) i w)

-- a library that is listed once has the bytes of relocating it alone
pub run_once :
    (S : Objs) → Sound S → (ks : List ℕ) → Only (count S) ks → (k : ℕ) → 2 ≤ k → k < count S → times k ks ≡ 1
    → ((e : Entry) → Memᴰ e (obj S k).entries → NotCopy e)
    → (m : Mem) (i : ℕ) → InSpan (obj S k) i
    → run S ks m i ≡ relocate S k m i
unfolding run
run_once S sound [] only k l h z free m i w = absurd (omega arith)
run_once S sound (j ∷ ks) only k l h z free m i w =
    go (λ z'. run_once S sound ks (only_tail (count S) j ks only) k l h z' free (relocate S j m) i w) (eqb j k) refl
  where
    go :
        (times k ks ≡ 1 → run S ks (relocate S j m) i ≡ relocate S k (relocate S j m) i)
        → (b : Bool) → eqb j k ≡ b
        → run S ks (relocate S j m) i ≡ relocate S k m i
    go below true e =
        let n = rw e at z in
        run_keeps S sound ks (only_tail (count S) j ks only) k h (omega arith) (relocate S j m) i w
        ∙ ap (λ (x : ℕ). relocate S x m i) (eqb-true j k e)
    go below false e =
        let r = only j (times_head j ks) in
        below (rw e at z)
        ∙ relocate_local S sound k (omega arith) h free (relocate S j m) m
        (λ v u. relocate_frame S sound j (omega arith) r.1 m v (apart_out S sound j k r.1 h (eqb-false j k e) v u))
        i w
