-- Texts that are printed one after the other. Assumes nothing.
use mathlib.Core.Path.{◌≡◌, refl, sym, ap, ◌∙◌}
use mathlib.Core.Bool.{Bool, true, false}
use mathlib.Core.List.{List, [], ◌++◌}
use Prim.Native.Nat.{ℕ, zero, suc, ◌+◌, ◌-◌, ◌*◌, ◌^◌, ◌≤◌, ◌<◌, min, max}
use native.Mathlib.Omega.{arith}
use native.Mathlib.Decide.{dec_lt}
use borrow.Author.Tests.{lt-ltb, le-ltb}
use lib.Dec.{ltb}
use lib.ListN.{length, take, drop, length-append, get_or-append}
use lib.Seq.{get_or-append-add, take_all}
use Rattle.std.proofs.Math.Nat.{pow-le-pow_right, pow-succ'}
use Rattle.words.specs.Choice.{pick}
use Rattle.words.specs.Memory.{mem, from, patch}
use Rattle.words.specs.Memory as memory
use Rattle.words.proofs.Slices.{length_patch, patch_none, patch_same, patch_cut, patch_past, patch_join}
use Rattle.program.specs.Program.{digits, width_from, decimal_of, Written, written, print}

mem_left : (a b : List ℕ) (k : ℕ) → k < length a → mem a k ≡ mem (a ++ b) k
unfolding memory.mem
mem_left a b k h = sym (get_or-append a b 0 k h)

mem_right : (a b : List ℕ) (k : ℕ) → mem b k ≡ mem (a ++ b) (length a + k)
unfolding memory.mem
mem_right a b k = sym (get_or-append-add a b k 0)

both_texts :
    (out : List ℕ) (at : ℕ) (a b : List ℕ) (p : ℕ) → p ≡ min (at + length a) (length out)
    → patch (patch out at (length a) (mem a)) p (length b) (mem b) ≡ patch out at (length a + length b) (mem (a ++ b))
both_texts out at a b p e = go (dec_lt (length out) (at + length a))
  where
    go :
        Dec (length out < at + length a)
        → patch (patch out at (length a) (mem a)) p (length b) (mem b) ≡ patch out at (length a + length b) (mem (a ++ b))
    go (yes h) =
        patch_past (patch out at (length a) (mem a)) p (length b) (mem b) (omega (arith, length_patch out at (length a) (mem a)))
        ∙ patch_same out at (length a) (mem a) (mem (a ++ b)) (mem_left a b)
        ∙ patch_cut out at (length a + length b) (length a) (mem (a ++ b)) (omega arith) (omega arith)
    go (no h) =
        let q : p ≡ at + length a = omega arith in
        rw q (patch_join out at (length a) (length b) (mem a) (mem b) (mem (a ++ b)) (mem_left a b) (λ k _. mem_right a b k))

pub print_join : (s : Written) (a b : List ℕ) → print (print s a) b ≡ print s (a ++ b)
unfolding print
print_join (written out at) a b =
    let n : length (patch out at (length a) (mem a)) ≡ length out = length_patch out at (length a) (mem a) in
    let l : length (a ++ b) ≡ length a + length b = length-append a b in
    let next : min (min (at + length a) (length out) + length b) (length out) ≡ min (at + (length a + length b)) (length out) = omega arith in
    rw (n, l, next, both_texts out at a b (min (at + length a) (length out)) refl)

-- a text after another
pub print_then : (s : Written) {t u : Written} (a b : List ℕ) → t ≡ print s a → u ≡ print t b → u ≡ print s (a ++ b)
print_then s {t} {u} a b e f = f ∙ (ap (λ (w : Written). print w b) e ∙ print_join s a b)

-- the same of a printer, whose slice has a name
pub prints_then :
    {A : Type 0} {x y z : A} (s : Written) {t u : Written} (a b : List ℕ) → (y ≡ x) × (t ≡ print s a) → (z ≡ y) × (u ≡ print t b) → (z ≡ x) × (u ≡ print s (a ++ b))
prints_then s a b first then = (then.0 ∙ first.0, print_then s a b first.1 then.1)

-- no text
pub print_none : (out : List ℕ) (at : ℕ) → at ≤ length out → print (written out at) [] ≡ written out at
unfolding print
print_none out at h =
    let e : min (at + 0) (length out) ≡ at = omega arith in
    rw (e, patch_none out at (mem []))

-- the next place
place : Written → ℕ
place (written out at) = at

slice_length : Written → ℕ
slice_length (written out at) = length out

pub next_place :
    (out : List ℕ) (at : ℕ) (text : List ℕ) {exit : List ℕ} {r : ℕ} → written exit r ≡ print (written out at) text → r ≡ min (at + length text) (length out)
unfolding print place slice_length
next_place out at text e = ap place e

-- it is in the slice
pub place_fits :
    (out : List ℕ) (at : ℕ) (text : List ℕ) {exit : List ℕ} {r : ℕ} → written exit r ≡ print (written out at) text → r ≤ length exit
unfolding print place slice_length
place_fits out at text {exit} e =
    let same : length exit ≡ length out = ap slice_length e ∙ length_patch out at (length text) (mem text) in
    omega (arith, next_place out at text e, same)

pub digits_length : (n base v : ℕ) → length (digits base n v) ≡ n
unfolding digits
digits_length zero base v = refl
digits_length (suc n) base v = ap suc (digits_length n base v)

-- the low digits of a number are the last of more of them
pub digits_drop : (k n base v : ℕ) → drop k (digits base (k + n) v) ≡ digits base n v
unfolding digits
digits_drop zero n base v = let e : 0 + n ≡ n = omega arith in rw e
digits_drop (suc k) n base v = let e : suc k + n ≡ suc (k + n) = omega arith in rw e (digits_drop k n base v)

-- a copy of the whole text prints it
pub copy_prints :
    (out : List ℕ) (at : ℕ) (text exit : List ℕ) (r : ℕ) → exit ≡ patch out at (length text) (from 0 (mem text)) → r ≡ min (at + length text) (length exit)
    → written exit r ≡ print (written out at) text
unfolding print
copy_prints out at text exit r e p =
    let same : exit ≡ patch out at (length text) (mem text) =
    e ∙ patch_same out at (length text) (from 0 (mem text)) (mem text) (λ k _. let z : 0 + k ≡ k = omega arith in ap (mem text) z) in
    let n : length exit ≡ length out = ap length same ∙ length_patch out at (length text) (mem text) in
    rw (p, n, same)

picked_most : (t : Bool) (a b most : ℕ) → a ≤ most → b ≤ most → pick t a b ≤ most
picked_most true a b most h g = h
picked_most false a b most h g = g

-- a number has no more decimal digits than are tried
pub width_most : (n k v : ℕ) → width_from n k v ≤ n + k
unfolding width_from
width_most zero k v = omega arith
width_most (suc n) k v = picked_most (ltb v (10 ^ k)) k (width_from n (suc k) v) (suc n + k) (omega arith) (omega (arith, width_most n (suc k) v))

-- the digits of a number, of the ten that hold any
pub decimal_part : (v w : ℕ) → w ≡ width_from 9 1 v → take (10 - (10 - w)) (drop (10 - w) (digits 10 10 v)) ≡ decimal_of v
unfolding decimal_of
decimal_part v w e =
    let few : w ≤ 10 = omega (arith, width_most 9 1 v) in
    let ten : 10 ≡ (10 - w) + w = omega arith in
    let rest : drop (10 - w) (digits 10 10 v) ≡ digits 10 w v = ap (λ (n : ℕ). drop (10 - w) (digits 10 n v)) ten ∙ digits_drop (10 - w) w 10 v in
    let back : 10 - (10 - w) ≡ w = omega arith in
    rw (back, rest, take_all w (digits 10 w v) (omega (arith, digits_length w 10 v))) (ap (λ (n : ℕ). digits 10 n v) e)

-- the least of the powers above the number gives its width
width_from_is : (n k w v : ℕ) → k ≤ w → w ≤ n + k → ((j : ℕ) → k ≤ j → j < w → 10 ^ j ≤ v) → (w < n + k → v < 10 ^ w) → width_from n k v ≡ w
unfolding width_from
width_from_is zero k w v h g low high = omega arith
width_from_is (suc n) k w v h g low high =
    go (dec_lt v (10 ^ k)) (λ m. width_from_is n (suc k) w v m (omega arith) (λ j a b. low j (omega arith) b) (λ b. high (omega arith)))
  where
    go : Dec (v < 10 ^ k) → (suc k ≤ w → width_from n (suc k) v ≡ w) → pick (ltb v (10 ^ k)) k (width_from n (suc k) v) ≡ w
    go (yes below) more =
        let last : k < w → ⊥ = λ q. omega (arith, below, low k (omega arith) q) in
        let same : k ≡ w = omega (arith, last) in
        rw (lt-ltb v (10 ^ k) below, same)
    go (no above) more =
        let other : k ≡ w → ⊥ = λ e. above (rw (sym e) at (high (omega (arith, e)))) in
        rw (le-ltb v (10 ^ k) (omega (arith, above))) (more (omega (arith, other)))

-- a logarithm, of the number or of 1 for 0, gives the width
pub width_is : (r v : ℕ) → r < 10 → 10 ^ r ≤ max v 1 → max v 1 < 10 * 10 ^ r → r + 1 ≡ width_from 9 1 v
unfolding width_from
width_is zero zero h low high = refl
width_is (suc r) zero h low high =
    let ten : 10 ^ 1 ≤ 10 ^ suc r = pow-le-pow_right {n = 10} (omega arith) {i = 1} {j = suc r} (omega arith) in
    absurd (omega (arith, ten, low))
width_is r (suc v) h low high =
    let more : max (suc v) 1 ≡ suc v = omega arith in
    let next : 10 ^ suc r ≡ 10 * 10 ^ r = pow-succ' 10 r in
    let e : r + 1 ≡ suc r = omega arith in
    rw e (sym
    (width_from_is 9 1 (suc r) (suc v) (omega arith) (omega arith)
    (λ j a b. omega (arith, pow-le-pow_right {n = 10} (omega arith) {i = j} {j = r} (omega arith), rw more at low)) (λ b. omega (arith, next, rw more at high))))
