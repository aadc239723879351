-- The laws of le_at and byte_of, each over the width. Assumes nothing.
use Rattle.std.proofs.Common.{◌≡◌, ℕ, zero, suc, ◌+◌, ◌*◌, ◌/◌, ◌%◌, ◌^◌, ◌<◌, ◌≤◌, min, List, length, get_or, take, drop, replicate, sym, refl, ap, ◌∙◌, div-one, add-zero, zero-add, mod-eq_of_lt, mul_comm, add_comm, arith, lit<}
use Rattle.std.proofs.lemmas.List.{get_or-replicate}
use native.Mathlib.Nat.{pow-succ', mod-one, one-le-pow}
use native.Mathlib.Decide.{dec_lt}
use lib.Arith.{mod-mul, digits_lt}
use Rattle.words.specs.Memory.{Mem, mem, from, write, patch}
use Rattle.words.specs.Words.{le_at, byte_of}
use Rattle.std.specs.Int.{w64, to_le_bytes, byte_at, bytes_low_first}
use Rattle.words.proofs.Memory.{Out, write_in, write_out}
use Rattle.words.proofs.Slices.{mem_past, mem_part, mem_patch_at}

-- a number goes by its bytes
pub le_at_same :
    (n : ℕ) (m m' : Mem) (at at' : ℕ) → ((k : ℕ) → k < n → m (at + k) ≡ m' (at' + k)) → le_at n m at ≡ le_at n m' at'
unfolding le_at
le_at_same zero m m' at at' same = refl
le_at_same (suc n) m m' at at' same =
    simp (le_at_same n m m' at at' (λ k h. same k (omega arith)), same n (omega arith))

-- the number of bytes that are those of v
pub le_at_bytes :
    (n : ℕ) (m : Mem) (at v : ℕ) → ((k : ℕ) → k < n → m (at + k) ≡ byte_of v k) → le_at n m at ≡ v % 256 ^ n
unfolding le_at byte_of
le_at_bytes zero m at v same = sym (mod-one v)
le_at_bytes (suc n) m at v same =
    ap (λ (x : ℕ). x + 256 ^ n * m (at + n)) (le_at_bytes n m at v (λ k h. same k (omega arith)))
    ∙ ap (λ (x : ℕ). v % 256 ^ n + 256 ^ n * x) (same n (omega arith))
    ∙ ap (λ (x : ℕ). v % 256 ^ n + x) (mul_comm (256 ^ n) (byte_of v n))
    ∙ add_comm (v % 256 ^ n) (byte_of v n * 256 ^ n)
    ∙ sym (mod-mul v {m = 256} {c = 256 ^ n} (lit< tt) (one-le-pow n 256 (lit< tt)))
    ∙ ap (λ (b : ℕ). v % b) (sym (pow-succ' 256 n))

-- a number that was written is read back
pub le_at_write : (n : ℕ) (m : Mem) (at v : ℕ) → v < 256 ^ n → le_at n (write m at n (byte_of v)) at ≡ v
le_at_write n m at v small =
    le_at_bytes n (write m at n (byte_of v)) at v
    (λ k h. write_in m at n (byte_of v) (at + k) (omega arith) ∙ ap (byte_of v) (omega arith))
    ∙ mod-eq_of_lt small

-- and one that the write does not meet is as it was
pub le_at_write_out :
    (n : ℕ) (m : Mem) (at at' n' : ℕ) (f : ℕ → ℕ) → ((k : ℕ) → k < n → Out at' n' (at + k)) → le_at n (write m at' n' f) at ≡ le_at n m at
le_at_write_out n m at at' n' f out =
    le_at_same n (write m at' n' f) m at at (λ k h. write_out m at' n' f (at + k) (out k h))

-- a number of n bytes is below 256^n
pub le_at_lt : (n : ℕ) (m : Mem) (at : ℕ) → ((k : ℕ) → m k < 256) → le_at n m at < 256 ^ n
unfolding le_at
le_at_lt zero m at bytes = lit< tt
le_at_lt (suc n) m at bytes =
    let h : m (at + n) * 256 ^ n + le_at n m at < 256 * 256 ^ n = digits_lt (bytes (at + n)) (le_at_lt n m at bytes) in
    rw (pow-succ' 256 n, add_comm (le_at n m at) (256 ^ n * m (at + n)), mul_comm (256 ^ n) (m (at + n))) h

-- past the end of a slice the number is 0
pub le_at_past : (n : ℕ) (xs : List ℕ) (at : ℕ) → length xs ≤ at → le_at n (mem xs) at ≡ 0
unfolding le_at
le_at_past zero xs at past = refl
le_at_past (suc n) xs at past = simp (le_at_past n xs at past, mem_past xs (at + n) (omega arith)) (omega arith)

-- and it is that of zeros
pub le_at_zeros : (n room : ℕ) (xs : List ℕ) (at : ℕ) → n ≤ room → length xs ≤ at → le_at n (mem (replicate room 0)) 0 ≡ le_at n (mem xs) at
unfolding mem
le_at_zeros n room xs at fits past =
    le_at_same n (mem (replicate room 0)) (mem xs) 0 at (λ k h. get_or-replicate room (0 + k) 0 0 (omega arith) ∙ sym (mem_past xs (at + k) (omega arith)))

-- a number in a part of a slice, which may start in its middle, is the whole's
pub le_at_part :
    (n k off : ℕ) (xs : List ℕ) (at : ℕ) → at + n ≤ k → le_at n (mem (take k (drop off xs))) at ≡ le_at n (mem xs) (off + at)
le_at_part n k off xs at fits =
    le_at_same n (mem (take k (drop off xs))) (mem xs) at (off + at)
    (λ j h. mem_part k off xs (at + j) (omega arith) ∙ ap (mem xs) (omega arith))

-- a place past the end may as well be the end
pub le_at_end : (n : ℕ) (xs : List ℕ) (at : ℕ) {p : ℕ} → p ≡ min at (length xs) → le_at n (mem xs) p ≡ le_at n (mem xs) at
le_at_end n xs at {p} e = go (dec_lt at (length xs))
  where
    go : Dec (at < length xs) → le_at n (mem xs) p ≡ le_at n (mem xs) at
    go (yes h) = ap (le_at n (mem xs)) (omega arith)
    go (no h) = le_at_past n xs p (omega arith) ∙ sym (le_at_past n xs at (omega arith))

-- the bytes that std's `to_le_bytes` gives
pub mem_le_bytes : (v n : ℕ) (bs : List ℕ) → bs ≡ to_le_bytes w64 v → n ≤ 8 → (j : ℕ) → j < n → from 0 (mem bs) j ≡ byte_of v j
unfolding mem byte_of
mem_le_bytes v n bs e fits j h = rw (e, zero-add) (rw zero-add at (go 8 0 j (omega arith)))
  where
    first : (i : ℕ) → byte_at i v ≡ v / 256 ^ i % 256
    first zero = rw (div-one v)
    first (suc i) = refl

    go : (k i j : ℕ) → j < k → get_or (bytes_low_first i k v) j 0 ≡ v / 256 ^ (i + j) % 256
    go zero i j h = absurd (omega arith)
    go (suc k) i zero h = rw (add-zero i) (first i)
    go (suc k) i (suc j) h =
        let e : suc i + j ≡ i + suc j = omega arith in
        rw (← e) (go k (suc i) j (omega arith))

-- a number whose bytes were copied to the start of a row
pub le_at_copied :
    (n : ℕ) (xs : List ℕ) (at : ℕ) (zs : List ℕ) {ys : List ℕ} → n ≤ length zs → ys ≡ patch zs 0 n (from at (mem xs)) → le_at n (mem ys) 0 ≡ le_at n (mem xs) at
le_at_copied n xs at zs {ys} fits e =
    le_at_same n (mem ys) (mem xs) 0 at
    (λ j h.
    ap (λ (l : List ℕ). mem l (0 + j)) e
    ∙ (mem_patch_at zs 0 n (from at (mem xs)) (0 + j) (omega arith)
    ∙ (write_in (mem zs) 0 n (from at (mem xs)) (0 + j) (omega arith) ∙ ap (mem xs) (omega arith))))
