-- The bytes of slices: their memory, parts of them, and what a write leaves. Assumes nothing.
use Rattle.std.proofs.Common.{◌≡◌, ℕ, zero, suc, ◌+◌, ◌-◌, ◌<◌, ◌≤◌, min, ◌⊎◌, List, ◌∷◌, ◌++◌, length, get_or, take, drop, set, replicate, sym, refl, ap, ◌∙◌, inl, inr, ⊎_elim, arith, length-append, length-drop, length-set, length-take, length-take-le, get_or-drop, get_or-set_other, get_or-take, get_or-set_same, get_or-append-add, ext_get_or}
use Rattle.std.proofs.lemmas.List.{length-replicate, get_or-replicate}
use mathlib.Core.Path.{fun_ext}
use native.Mathlib.Decide.{dec_lt, ℕ_discrete}
use borrow.Rule.Slice.PartMut.{put_mid}
use lib.ListN.{get_or-append, get_or-eq_default}
use Rattle.words.specs.Memory.{Mem, mem, tab, from, In, write, patch}
use Rattle.words.proofs.Memory.{Out, in_or_out, write_in, write_out, write_none, write_cong, write_join, write_from}

-- ---- lists

pub take_zeros : (n m : ℕ) → n ≤ m → take {A = ℕ} n (replicate m 0) ≡ replicate n 0
take_zeros zero m h = refl
take_zeros (suc n) zero h = absurd (omega arith)
take_zeros (suc n) (suc m) h = ap (λ (l : List ℕ). 0 ∷ l) (take_zeros n m (omega arith))

-- ---- the memory of a slice

pub mem_past : (xs : List ℕ) (i : ℕ) → length xs ≤ i → mem xs i ≡ 0
unfolding mem
mem_past xs i past = get_or-eq_default xs 0 {n = i} past

pub mem_take : (k : ℕ) (xs : List ℕ) (i : ℕ) → i < k → mem (take k xs) i ≡ mem xs i
unfolding mem
mem_take k xs i h = get_or-take k xs i 0 h

pub mem_drop : (off : ℕ) (xs : List ℕ) (i : ℕ) → mem (drop off xs) i ≡ mem xs (off + i)
unfolding mem
mem_drop off xs i = get_or-drop off xs i 0

-- a part that starts in the middle
pub mem_part : (k off : ℕ) (xs : List ℕ) (i : ℕ) → i < k → mem (take k (drop off xs)) i ≡ mem xs (off + i)
mem_part k off xs i h = mem_take k (drop off xs) i h ∙ mem_drop off xs i

-- two slices of one length and one memory are equal
pub mem_ext : (xs ys : List ℕ) → length xs ≡ length ys → ((i : ℕ) → i < length xs → mem xs i ≡ mem ys i) → xs ≡ ys
unfolding mem
mem_ext xs ys l same = ext_get_or 0 xs ys l same

-- ---- the list of a memory

pub length_tab : (n : ℕ) (m : Mem) → length (tab n m) ≡ n
unfolding tab
length_tab zero m = refl
length_tab (suc n) m = ap suc (length_tab n (λ i. m (suc i)))

pub mem_tab : (n : ℕ) (m : Mem) (i : ℕ) → i < n → mem (tab n m) i ≡ m i
unfolding tab mem
mem_tab zero m i h = absurd (omega arith)
mem_tab (suc n) m zero h = refl
mem_tab (suc n) m (suc i) h = mem_tab n (λ j. m (suc j)) i (omega arith)

pub tab_mem : (xs : List ℕ) → tab (length xs) (mem xs) ≡ xs
tab_mem xs =
    mem_ext (tab (length xs) (mem xs)) xs (length_tab (length xs) (mem xs))
    (λ i h. mem_tab (length xs) (mem xs) i (omega (arith, length_tab (length xs) (mem xs))))

-- ---- what a write leaves of a slice

pub length_patch : (xs : List ℕ) (at n : ℕ) (f : ℕ → ℕ) → length (patch xs at n f) ≡ length xs
unfolding patch
length_patch xs at n f = length_tab (length xs) (write (mem xs) at n f)

module _ (xs : List ℕ) (at n : ℕ) (f : ℕ → ℕ) where
  pub mem_patch_at : (i : ℕ) → i < length xs → mem (patch xs at n f) i ≡ write (mem xs) at n f i
  unfolding patch
  mem_patch_at i h = mem_tab (length xs) (write (mem xs) at n f) i h

  -- all of it inside: the slice's memory is the memory after the write
  pub mem_patch : at + n ≤ length xs → mem (patch xs at n f) ≡ write (mem xs) at n f
  mem_patch fits = fun_ext (λ i. go i (dec_lt i (length xs)))
    where
      go : (i : ℕ) → Dec (i < length xs) → mem (patch xs at n f) i ≡ write (mem xs) at n f i
      go i (yes h) = mem_patch_at i h
      go i (no h) =
          mem_past (patch xs at n f) i (omega (arith, length_patch xs at n f))
          ∙ (sym (mem_past xs i (omega arith)) ∙ sym (write_out (mem xs) at n f i (inr (omega arith))))

-- two slices after two writes are equal where the memories after them are, inside
pub patch_ext :
    (xs : List ℕ) (at n : ℕ) (f : ℕ → ℕ) (at' n' : ℕ) (f' : ℕ → ℕ)
    → ((i : ℕ) → i < length xs → write (mem xs) at n f i ≡ write (mem xs) at' n' f' i)
    → patch xs at n f ≡ patch xs at' n' f'
patch_ext xs at n f at' n' f' same =
    mem_ext (patch xs at n f) (patch xs at' n' f') (length_patch xs at n f ∙ sym (length_patch xs at' n' f'))
    (λ i h.
    let l : i < length xs = omega (arith, length_patch xs at n f) in
    mem_patch_at xs at n f i l ∙ (same i l ∙ sym (mem_patch_at xs at' n' f' i l)))

pub patch_none : (xs : List ℕ) (at : ℕ) (f : ℕ → ℕ) → patch xs at 0 f ≡ xs
unfolding patch
patch_none xs at f = ap (tab (length xs)) (write_none (mem xs) at f) ∙ tab_mem xs

-- what is written where it falls past the end does not matter
pub patch_same :
    (xs : List ℕ) (at n : ℕ) (f f' : ℕ → ℕ) → ((k : ℕ) → k < n → f k ≡ f' k) → patch xs at n f ≡ patch xs at n f'
patch_same xs at n f f' same =
    patch_ext xs at n f at n f' (λ i h. ap (λ (m : Mem). m i) (write_cong (mem xs) (mem xs) at n f f' same refl))

pub patch_cut :
    (xs : List ℕ) (at n n' : ℕ) (f : ℕ → ℕ) → n' ≤ n → length xs ≤ at + n' → patch xs at n' f ≡ patch xs at n f
patch_cut xs at n n' f l past = patch_ext xs at n' f at n f (λ i h. go i h (in_or_out at n' i))
  where
    go : (i : ℕ) → i < length xs → In at n' i ⊎ Out at n' i → write (mem xs) at n' f i ≡ write (mem xs) at n f i
    go i h (inl w) = write_in (mem xs) at n' f i w ∙ sym (write_in (mem xs) at n f i (omega arith))
    go i h (inr (inl w)) = write_out (mem xs) at n' f i (inl w) ∙ sym (write_out (mem xs) at n f i (inl w))
    go i h (inr (inr w)) = absurd (omega arith)

-- as many of the bytes as there is room for
pub patch_room :
    (xs : List ℕ) (at n room : ℕ) (f : ℕ → ℕ) → room ≡ min n (length xs - at) → patch xs at room f ≡ patch xs at n f
patch_room xs at n room f e = go (dec_lt room n)
  where
    go : Dec (room < n) → patch xs at room f ≡ patch xs at n f
    go (yes h) = patch_cut xs at n room f (omega arith) (omega arith)
    go (no h) = ap (λ (k : ℕ). patch xs at k f) (omega arith)

-- a write for which there is no room
pub patch_no_room : (xs : List ℕ) (at n : ℕ) (f : ℕ → ℕ) → min (at + n) (length xs) ≤ at → xs ≡ patch xs at n f
patch_no_room xs at n f e = sym (patch_none xs at f) ∙ patch_room xs at n 0 f (omega arith)

-- a write past the end
pub patch_past : (xs : List ℕ) (at n : ℕ) (f : ℕ → ℕ) → length xs ≤ at → patch xs at n f ≡ xs
patch_past xs at n f past = sym (patch_no_room xs at n f (omega arith))

-- a write that goes on where another ended is one write
pub patch_join :
    (xs : List ℕ) (at a b : ℕ) (f g h : ℕ → ℕ) → ((k : ℕ) → k < a → f k ≡ h k) → ((k : ℕ) → k < b → g k ≡ h (a + k))
    → patch (patch xs at a f) (at + a) b g ≡ patch xs at (a + b) h
patch_join xs at a b f g h ef eg =
    mem_ext (patch (patch xs at a f) (at + a) b g) (patch xs at (a + b) h)
    (length_patch (patch xs at a f) (at + a) b g ∙ (length_patch xs at a f ∙ sym (length_patch xs at (a + b) h)))
    (λ i l. go i (omega (arith, length_patch (patch xs at a f) (at + a) b g, length_patch xs at a f)) (in_or_out (at + a) b i))
  where
    go :
        (i : ℕ) → i < length xs → In (at + a) b i ⊎ Out (at + a) b i
        → mem (patch (patch xs at a f) (at + a) b g) i ≡ mem (patch xs at (a + b) h) i
    go i l w =
        mem_patch_at (patch xs at a f) (at + a) b g i (omega (arith, length_patch xs at a f))
        ∙ (over w
        ∙ (ap (λ (m : Mem). m i) (write_join (mem xs) at a b f g h ef eg) ∙ sym (mem_patch_at xs at (a + b) h i l)))
      where
        over :
            In (at + a) b i ⊎ Out (at + a) b i
            → write (mem (patch xs at a f)) (at + a) b g i ≡ write (write (mem xs) at a f) (at + a) b g i
        over (inl v) =
            write_in (mem (patch xs at a f)) (at + a) b g i v ∙ sym (write_in (write (mem xs) at a f) (at + a) b g i v)
        over (inr v) =
            write_out (mem (patch xs at a f)) (at + a) b g i v
            ∙ (mem_patch_at xs at a f i l ∙ sym (write_out (write (mem xs) at a f) (at + a) b g i v))

-- a copy as two writes: the bytes that the source has, then zeros
pub copy_both :
    (xs src : List ℕ) (at start n : ℕ) {end from_src there : ℕ} {ys zs : List ℕ} → end ≡ min (at + n) (length xs) → at ≤ end
    → from_src ≡ min start (length src) → there ≡ min (end - at) (length src - from_src)
    → ys ≡ patch xs at there (from from_src (mem src)) → zs ≡ patch ys (at + there) (end - (at + there)) (λ _. 0)
    → zs ≡ patch xs at n (from start (mem src))
copy_both xs src at start n {end} {from_src} {there} {ys} {zs} e l f t p q =
    q
    ∙ (ap (λ (ys : List ℕ). patch ys (at + there) (end - (at + there)) (λ _. 0)) p
    ∙ (patch_join xs at there (end - (at + there)) (from from_src (mem src)) (λ _. 0) (from start (mem src)) had past
    ∙ patch_room xs at n (there + (end - (at + there))) (from start (mem src)) (omega arith)))
  where
    had : (k : ℕ) → k < there → mem src (from_src + k) ≡ mem src (start + k)
    had k h = ap (mem src) (omega arith)

    past : (k : ℕ) → k < end - (at + there) → 0 ≡ mem src (start + (there + k))
    past k h = sym (mem_past src (start + (there + k)) (omega arith))

-- one store is a write of one byte
pub patch_one : (xs : List ℕ) (at v : ℕ) → set xs at v ≡ patch xs at 1 (λ _. v)
unfolding mem
patch_one xs at v =
    mem_ext (set xs at v) (patch xs at 1 (λ _. v)) (length-set xs at v ∙ sym (length_patch xs at 1 (λ _. v)))
    (λ i h. go i (omega (arith, length-set xs at v)) (ℕ_discrete i at))
  where
    other : (i : ℕ) → ¬ (i ≡ at) → Out at 1 i
    other i ne = ⊎_elim (λ w. absurd (ne (omega arith))) (λ w. w) (in_or_out at 1 i)

    go : (i : ℕ) → i < length xs → Dec (i ≡ at) → mem (set xs at v) i ≡ mem (patch xs at 1 (λ _. v)) i
    go i h (yes e) =
        rw e (get_or-set_same xs at v 0 (omega arith))
        ∙ (sym (write_in (mem xs) at 1 (λ _. v) i (omega arith)) ∙ sym (mem_patch_at xs at 1 (λ _. v) i h))
    go i h (no ne) =
        get_or-set_other xs at i v 0 ne
        ∙ (sym (write_out (mem xs) at 1 (λ _. v) i (other i ne)) ∙ sym (mem_patch_at xs at 1 (λ _. v) i h))

-- one more byte goes on where the others ended
pub patch_next :
    (xs : List ℕ) (at n : ℕ) (f : ℕ → ℕ) {ys zs : List ℕ} → ys ≡ patch xs at n f → zs ≡ set ys (at + n) (f n)
    → zs ≡ patch xs at (n + 1) f
patch_next xs at n f p q =
    q
    ∙ (ap (λ (l : List ℕ). set l (at + n) (f n)) p
    ∙ (patch_one (patch xs at n f) (at + n) (f n)
    ∙ patch_join xs at n 1 f (λ _. f n) f (λ k h. refl) (λ k h. ap f (omega arith))))

-- ---- a part of a slice, lent and given back

-- the slice with `b` in the place of the `k` bytes from `off`
module _ (xs b : List ℕ) (off k : ℕ) (fits : off + k ≤ length xs) (as_many : length b ≡ k) where
  head : length (take off xs) ≡ off
  head = length-take-le off xs (omega arith)

  pub length_put : length (put_mid off k xs b) ≡ length xs
  length_put = simp (length-append, length-drop, as_many) (omega (arith, head))

  pub mem_put_in : (i : ℕ) → i < k → mem (put_mid off k xs b) (off + i) ≡ mem b i
  unfolding mem
  mem_put_in i h =
      ap (λ (n : ℕ). get_or (put_mid off k xs b) (n + i) 0) (sym head)
      ∙ (get_or-append-add (take off xs) (b ++ drop k (drop off xs)) i 0 ∙ get_or-append b (drop k (drop off xs)) 0 i (omega arith))

  pub mem_put_out : (i : ℕ) → Out off k i → mem (put_mid off k xs b) i ≡ mem xs i
  unfolding mem
  mem_put_out i (inl h) =
      get_or-append (take off xs) (b ++ drop k (drop off xs)) 0 i (omega (arith, head)) ∙ get_or-take off xs i 0 h
  mem_put_out i (inr h) =
      let e : i ≡ length (take off xs) + (length b + (i - (off + k))) = omega (arith, head) in
      ap (λ (n : ℕ). get_or (put_mid off k xs b) n 0) e
      ∙ (get_or-append-add (take off xs) (b ++ drop k (drop off xs)) (length b + (i - (off + k))) 0
      ∙ (get_or-append-add b (drop k (drop off xs)) (i - (off + k)) 0
      ∙ (get_or-drop k (drop off xs) (i - (off + k)) 0
      ∙ (get_or-drop off xs (k + (i - (off + k))) 0 ∙ ap (λ (n : ℕ). get_or xs n 0) (omega arith)))))

length_mid : (xs : List ℕ) (off k : ℕ) → off + k ≤ length xs → length (take k (drop off xs)) ≡ k
length_mid xs off k fits = simp (length-take, length-drop) (omega arith)

-- a part that holds `f 0`, `f 1`, .. is a write
pub put_as :
    (xs ys : List ℕ) (off k : ℕ) (f : ℕ → ℕ) → off + k ≤ length xs → length ys ≡ k → ((i : ℕ) → i < k → mem ys i ≡ f i)
    → put_mid off k xs ys ≡ patch xs off k f
put_as xs ys off k f fits many same =
    mem_ext (put_mid off k xs ys) (patch xs off k f) (length_put xs ys off k fits many ∙ sym (length_patch xs off k f))
    (λ i h. go i (omega (arith, length_put xs ys off k fits many)) (in_or_out off k i))
  where
    go : (i : ℕ) → i < length xs → In off k i ⊎ Out off k i → mem (put_mid off k xs ys) i ≡ mem (patch xs off k f) i
    go i h (inl w) =
        let z : off + (i - off) ≡ i = omega arith in
        rw z at (mem_put_in xs ys off k fits many (i - off) (omega arith))
        ∙ (same (i - off) (omega arith) ∙ (sym (write_in (mem xs) off k f i w) ∙ sym (mem_patch_at xs off k f i h)))
    go i h (inr w) =
        mem_put_out xs ys off k fits many i w ∙ (sym (write_out (mem xs) off k f i w) ∙ sym (mem_patch_at xs off k f i h))

-- a part that is filled with zeros
pub put_zeros :
    (xs : List ℕ) (off k : ℕ) {ys : List ℕ} → off + k ≤ length xs → ys ≡ replicate (length (take k (drop off xs))) 0
    → put_mid off k xs ys ≡ patch xs off k (λ _. 0)
unfolding mem
put_zeros xs off k {ys} fits e =
    let z : ys ≡ replicate k 0 = rw (length_mid xs off k fits) at e in
    put_as xs ys off k (λ _. 0) fits (ap length z ∙ length-replicate k 0)
    (λ i h. ap (λ (l : List ℕ). get_or l i 0) z ∙ get_or-replicate k i 0 0 h)

-- a part that is filled from another slice
pub put_copied :
    (xs src : List ℕ) (off start k : ℕ) {n n' : ℕ} {ys : List ℕ} → n ≡ k → n' ≡ k → off + k ≤ length xs → start + k ≤ length src
    → ys ≡ take n' (drop start src) → put_mid off n xs ys ≡ patch xs off k (from start (mem src))
put_copied xs src off start k {ys = ys} p q fits has e =
    let z : ys ≡ take k (drop start src) = rw q at e in
    rw p (put_as xs ys off k (from start (mem src)) fits (ap length z ∙ length_mid src start k has)
    (λ i h. ap (λ (l : List ℕ). mem l i) z ∙ mem_part k start src i h))

-- a write in a part is one in the whole, where what falls past the part's end falls past the write's
put_part :
    (xs : List ℕ) (off k at n : ℕ) (f : ℕ → ℕ) {ys : List ℕ} → off + k ≤ length xs
    → ((i : ℕ) → off + k ≤ i → i < length xs → off + at + n ≤ i)
    → ys ≡ patch (take k (drop off xs)) at n f
    → put_mid off k xs ys ≡ patch xs (off + at) n f
put_part xs off k at n f {ys} fits past e = mem_ext (put_mid off k xs ys) (patch xs (off + at) n f) lengths (λ i h. go i (omega (arith, put_length)) (in_or_out off k i))
  where
    many : length ys ≡ k
    many = ap length e ∙ (length_patch (take k (drop off xs)) at n f ∙ length_mid xs off k fits)

    put_length : length (put_mid off k xs ys) ≡ length xs
    put_length = length_put xs ys off k fits many

    lengths : length (put_mid off k xs ys) ≡ length (patch xs (off + at) n f)
    lengths = put_length ∙ sym (length_patch xs (off + at) n f)

    go : (i : ℕ) → i < length xs → In off k i ⊎ Out off k i → mem (put_mid off k xs ys) i ≡ mem (patch xs (off + at) n f) i
    go i h (inr (inl w)) =
        mem_put_out xs ys off k fits many i (inl w)
        ∙ (sym (write_out (mem xs) (off + at) n f i (inl (omega arith))) ∙ sym (mem_patch_at xs (off + at) n f i h))
    go i h (inr (inr w)) =
        mem_put_out xs ys off k fits many i (inr w)
        ∙ (sym (write_out (mem xs) (off + at) n f i (inr (past i w h))) ∙ sym (mem_patch_at xs (off + at) n f i h))
    go i h (inl w) =
        let z : i ≡ off + (i - off) = omega arith in
        let inside : i - off < k = omega arith in
        ap (mem (put_mid off k xs ys)) z
        ∙ (mem_put_in xs ys off k fits many (i - off) inside
        ∙ (ap (λ (l : List ℕ). mem l (i - off)) e
        ∙ (mem_patch_at (take k (drop off xs)) at n f (i - off) (omega (arith, length_mid xs off k fits))
        ∙ (part (in_or_out at n (i - off))
        ∙ (ap (write (mem xs) (off + at) n f) (sym z) ∙ sym (mem_patch_at xs (off + at) n f i h))))))
      where
        part :
            In at n (i - off) ⊎ Out at n (i - off)
            → write (mem (take k (drop off xs))) at n f (i - off) ≡ write (mem xs) (off + at) n f (off + (i - off))
        part (inl v) =
            write_in (mem (take k (drop off xs))) at n f (i - off) v
            ∙ sym (ap (λ (m : Mem). m (i - off)) (write_from (mem xs) off at n f) ∙ write_in (from off (mem xs)) at n f (i - off) v)
        part (inr v) =
            write_out (mem (take k (drop off xs))) at n f (i - off) v
            ∙ (mem_part k off xs (i - off) (omega arith)
            ∙ sym (ap (λ (m : Mem). m (i - off)) (write_from (mem xs) off at n f) ∙ write_out (from off (mem xs)) at n f (i - off) v))

-- a write in the part `&mut s[off..off + k]`, all of it in the part
pub put_mid_lem :
    (xs : List ℕ) (off k at n : ℕ) (f : ℕ → ℕ) {ys : List ℕ} → off + k ≤ length xs → at + n ≤ k
    → ys ≡ patch (take k (drop off xs)) at n f
    → put_mid off k xs ys ≡ patch xs (off + at) n f
put_mid_lem xs off k at n f fits inner e = put_part xs off k at n f fits (λ i h l. omega arith) e

-- any write in the part `&mut s[off..]`
pub put_tail :
    (xs : List ℕ) (off at n : ℕ) (f : ℕ → ℕ) {ys : List ℕ} → off ≤ length xs
    → ys ≡ patch (take (length xs - off) (drop off xs)) at n f
    → put_mid off (length xs - off) xs ys ≡ patch xs (off + at) n f
put_tail xs off at n f fits e = put_part xs off (length xs - off) at n f (omega arith) (λ i h l. omega arith) e

-- the front of a slice that was written from its start on is what was written
pub take_patch : (xs : List ℕ) (n : ℕ) (f : ℕ → ℕ) → n ≤ length xs → take n (patch xs 0 n f) ≡ tab n f
take_patch xs n f fits =
    mem_ext (take n (patch xs 0 n f)) (tab n f) (front ∙ sym (length_tab n f)) (λ i h. go i (omega (arith, front)))
  where
    front : length (take n (patch xs 0 n f)) ≡ n
    front = length-take-le n (patch xs 0 n f) (omega (arith, length_patch xs 0 n f))

    go : (i : ℕ) → i < n → mem (take n (patch xs 0 n f)) i ≡ mem (tab n f) i
    go i h =
        mem_take n (patch xs 0 n f) i h
        ∙ (mem_patch_at xs 0 n f i (omega arith)
        ∙ (write_in (mem xs) 0 n f i (omega arith) ∙ (ap f (omega arith) ∙ sym (mem_tab n f i h))))
