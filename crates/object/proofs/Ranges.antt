-- The laws of `below`, of table bytes and of writable segments. No contract cites this file. Assumes nothing.
use mathlib.Core.Path.{◌≡◌, refl, sym, ◌∙◌}
use mathlib.Core.Bool.{Bool, true, false, not}
use mathlib.Core.List.{List, [], ◌∷◌}
use mathlib.Core.Logic.{◌⊎◌, inl, inr, ⊎_elim}
use Prim.Native.Nat.{ℕ, zero, suc, ◌+◌, ◌-◌, ◌/◌, ◌%◌, ◌≤◌, ◌<◌, min}
use native.Mathlib.Nat.{eq-or-lt_of_le, le_of_suc-le-suc, not-suc-le-zero}
use native.Mathlib.Numerals.{add-one}
use native.Mathlib.Omega.{arith}
use borrow.Author.Tests.{eq-eqb, le-leb, lt-ltb, le-ltb, eqb-true, leb-true, leb-false, ltb-true, ltb-false}
use lib.Dec.{eqb, leb, ltb}
use Rattle.std.specs.Prelude.{◌&&◌, Option, Some, None}
use Rattle.std.specs.List.{list_all, list_any, find}
use Rattle.words.specs.Choice.{both, either, every, some, below}
use Rattle.words.proofs.Choice.{both_true, both_false, either_right}
use Rattle.object.specs.declared.program_header.Segment.{Segment}
use Rattle.object.specs.TableBytes.{is_writable, holds_range, is_table, table_bytes, in_writable}
use Rattle.object.specs.Steps.WritableRange.{WritableRange}
use Rattle.object.proofs.ListTests.{some_any}

pub split : (a b : ℕ) → (a < b) ⊎ (b ≤ a)
split a b = go (ltb a b) refl
  where
    go : (t : Bool) → ltb a b ≡ t → (a < b) ⊎ (b ≤ a)
    go true e = inl (ltb-true a b e)
    go false e = inr (ltb-false a b e)

-- ---- below

pub below_at : (p : ℕ → Bool) (n k : ℕ) → below p n ≡ true → k < n → p k ≡ true
unfolding below
below_at p zero k b h = absurd (not-suc-le-zero h)
below_at p (suc n) k b h =
    let e = both_true (below p n) (p n) b in
    ⊎_elim (λ (q : k ≡ n). rw q e.1) (λ (q : k < n). below_at p n k e.0 q) (eq-or-lt_of_le (le_of_suc-le-suc h))

pub below_all : (p : ℕ → Bool) (n : ℕ) → ((k : ℕ) → k < n → p k ≡ true) → below p n ≡ true
unfolding below
below_all p zero h = refl
below_all p (suc n) h = rw (below_all p n (λ k l. h k (omega arith)), h n (omega arith))

pub below_no : (p : ℕ → Bool) (n k : ℕ) → k < n → p k ≡ false → below p n ≡ false
unfolding below
below_no p zero k h e = absurd (not-suc-le-zero h)
below_no p (suc n) k h e =
    ⊎_elim
    (λ (q : k ≡ n). let e' : p n ≡ false = rw q at e in both_false (below p n) (p n) e')
    (λ (q : k < n). rw (below_no p n k q e))
    (eq-or-lt_of_le (le_of_suc-le-suc h))

middle : (a b c d : Bool) → both (both a b) (both c d) ≡ both (both a c) (both b d)
middle false b c d = refl
middle true false false d = refl
middle true false true d = refl
middle true true false d = refl
middle true true true d = refl

pub below_both : (p q : ℕ → Bool) (n : ℕ) → below (λ k. both (p k) (q k)) n ≡ both (below p n) (below q n)
unfolding below
below_both p q zero = refl
below_both p q (suc n) = rw (below_both p q n) (middle (below p n) (below q n) (p n) (q n))

-- a loop's turn
pub below_more : (p : ℕ → Bool) (i : ℕ) → below p i ≡ true → p i ≡ true → below p (i + 1) ≡ true
unfolding below
below_more p i b e = rw (add-one, b, e)

-- ---- a segment

-- the byte at `i` is not in the segment, or the segment is not writable
abbrev pub spares : Segment → ℕ → Bool
spares s i = not (both (is_writable s) (holds_range s i 1))

pub seg_in : (s : Segment) (i : ℕ) → s.flags / 2 % 2 ≡ 1 → s.vaddr ≤ i → i < s.vaddr + s.memsz → spares s i ≡ false
seg_in s i f l u =
    let u' : i + 1 ≤ s.vaddr + s.memsz = omega arith in
    rw (eq-eqb _ _ f, le-leb _ _ l, le-leb _ _ u')

pub seg_out : (s : Segment) (i : ℕ) → (s.flags / 2 % 2 ≡ 1 → s.vaddr ≤ i → i < s.vaddr + s.memsz → ⊥) → spares s i ≡ true
seg_out s i never =
    go (eqb (s.flags / 2 % 2) 1) (leb s.vaddr i) (leb (i + 1) (s.vaddr + s.memsz))
    (λ e. eqb-true (s.flags / 2 % 2) 1 e) (λ e. leb-true s.vaddr i e) (λ e. leb-true (i + 1) (s.vaddr + s.memsz) e)
  where
    go : (f l u : Bool) → (f ≡ true → s.flags / 2 % 2 ≡ 1) → (l ≡ true → s.vaddr ≤ i) → (u ≡ true → i + 1 ≤ s.vaddr + s.memsz)
        → not (both f (both l u)) ≡ true
    go false l u a b c = refl
    go true false u a b c = refl
    go true true false a b c = refl
    go true true true a b c = let h = c refl in absurd (never (a refl) (b refl) (omega arith))

-- the bytes from `at`, which is not before a writable segment, or is
module _ (s : Segment) (at n : ℕ) (f : s.flags / 2 % 2 ≡ 1) where
  pub spares_above : 0 < n → s.vaddr ≤ at → leb s.memsz (at - s.vaddr) ≡ below (λ k. spares s (at + k)) n
  spares_above pos l = go (leb s.memsz (at - s.vaddr)) refl
    where
      go : (t : Bool) → leb s.memsz (at - s.vaddr) ≡ t → t ≡ below (λ k. spares s (at + k)) n
      go true e =
          let h = leb-true s.memsz (at - s.vaddr) e in
          sym (below_all (λ k. spares s (at + k)) n (λ k i. seg_out s (at + k) (λ f l u. omega arith)))
      go false e =
          let h = leb-false s.memsz (at - s.vaddr) e in
          sym (below_no (λ k. spares s (at + k)) n 0 pos (seg_in s (at + 0) f (omega arith) (omega arith)))

  pub spares_below : 0 < s.memsz → at < s.vaddr → leb n (s.vaddr - at) ≡ below (λ k. spares s (at + k)) n
  spares_below some l = go (leb n (s.vaddr - at)) refl
    where
      go : (t : Bool) → leb n (s.vaddr - at) ≡ t → t ≡ below (λ k. spares s (at + k)) n
      go true e =
          let h = leb-true n (s.vaddr - at) e in
          sym (below_all (λ k. spares s (at + k)) n (λ k i. seg_out s (at + k) (λ f l u. omega arith)))
      go false e =
          let h = leb-false n (s.vaddr - at) e in
          sym (below_no (λ k. spares s (at + k)) n (s.vaddr - at) (omega arith) (seg_in s (at + (s.vaddr - at)) f (omega arith) (omega arith)))

-- ---- table bytes

module _ (span : ℕ) (l : List Segment) (at n : ℕ) where
  parts : table_bytes (is_table span l) at n
      ≡ both (below (λ k. ltb (at + k) span) n) (below (λ k. every (λ s. spares s (at + k)) l) n)
  unfolding table_bytes is_table
  parts = below_both (λ k. ltb (at + k) span) (λ k. every (λ s. spares s (at + k)) l) n

  pub span_out : 0 < n → span < at + n → table_bytes (is_table span l) at n ≡ false
  span_out pos out =
      parts
      ∙ rw (below_no (λ k. ltb (at + k) span) n (n - 1) (omega arith) (le-ltb (at + (n - 1)) span (omega arith)))

  pub span_in : at + n ≤ span → table_bytes (is_table span l) at n ≡ below (λ k. every (λ s. spares s (at + k)) l) n
  span_in fits =
      parts ∙ rw (below_all (λ k. ltb (at + k) span) n (λ k h. lt-ltb (at + k) span (omega arith)))

-- every byte is spared by every segment: every segment spares every byte
pub each_spares : (at n : ℕ) (l : List Segment) → below (λ k. every (λ s. spares s (at + k)) l) n ≡ list_all (λ s. below (λ k. spares s (at + k)) n) l
unfolding every
each_spares at n [] = below_all (λ k. true) n (λ k h. refl)
each_spares at n (s ∷ ss) =
    below_both (λ k. spares s (at + k)) (λ k. every (λ s. spares s (at + k)) ss) n
    ∙ go (below (λ k. spares s (at + k)) n) (each_spares at n ss)
  where
    go : (b : Bool) → below (λ k. every (λ s. spares s (at + k)) ss) n ≡ list_all (λ s. below (λ k. spares s (at + k)) n) ss
        → both b (below (λ k. every (λ s. spares s (at + k)) ss) n) ≡ (b && list_all (λ s. below (λ k. spares s (at + k)) n) ss)
    go true e = e
    go false e = refl

pub table_all : (span : ℕ) (l : List Segment) (at n : ℕ) → at + n ≤ span
    → table_bytes (is_table span l) at n ≡ list_all (λ s. below (λ k. spares s (at + k)) n) l
table_all span l at n fits = span_in span l at n fits ∙ each_spares at n l

pub writable_any : (l : List Segment) (at n : ℕ) → in_writable l at n ≡ list_any (λ s. both (is_writable s) (holds_range s at n)) l
unfolding in_writable
writable_any l at n = some_any (λ s. both (is_writable s) (holds_range s at n)) l

-- no bytes are table bytes, wherever they are
pub table_none : (is_t : ℕ → Bool) (at : ℕ) → table_bytes is_t at 0 ≡ true
unfolding table_bytes below
table_none is_t at = refl

-- nor past the span
table_past : (span : ℕ) (l : List Segment) (at at' n : ℕ) → span ≤ at → span ≤ at'
    → table_bytes (is_table span l) at n ≡ table_bytes (is_table span l) at' n
table_past span l at at' zero h h' = table_none (is_table span l) at ∙ sym (table_none (is_table span l) at')
table_past span l at at' (suc n) h h' = span_out span l at (suc n) (omega arith) (omega arith) ∙ sym (span_out span l at' (suc n) (omega arith) (omega arith))

pub table_cut : (span : ℕ) (l : List Segment) (at n cap : ℕ) → span ≤ cap → table_bytes (is_table span l) (min at cap) n ≡ table_bytes (is_table span l) at n
table_cut span l at n cap h =
    ⊎_elim
    (λ (u : at < cap). let e : min at cap ≡ at = omega arith in rw e)
    (λ (u : cap ≤ at). table_past span l (min at cap) at n (omega arith) (omega arith))
    (split at cap)

-- a table byte lies in the span
pub table_inside : (span : ℕ) (l : List Segment) (i : ℕ) → is_table span l i ≡ true → i < span
unfolding is_table
table_inside span l i e = ltb-true i span (both_true (ltb i span) (every (λ s. spares s i) l) e).0

-- ---- ranges of places in one writable segment

segment_part : (s : Segment) (at m p n : ℕ) → both (is_writable s) (holds_range s at m) ≡ true → at ≤ p → p + n ≤ at + m → both (is_writable s) (holds_range s p n) ≡ true
segment_part s at m p n e l u =
    let w = both_true (is_writable s) (holds_range s at m) e in
    let h = both_true (leb s.vaddr at) (leb (at + m) (s.vaddr + s.memsz)) w.1 in
    let a = leb-true s.vaddr at h.0 in
    let b = leb-true (at + m) (s.vaddr + s.memsz) h.1 in
    let a' : s.vaddr ≤ p = omega arith in
    let b' : p + n ≤ s.vaddr + s.memsz = omega arith in
    rw (w.0, le-leb _ _ a', le-leb _ _ b')

-- a part of a range in one writable segment is in one
pub writable_part : (ss : List Segment) (at m p n : ℕ) → in_writable ss at m ≡ true → at ≤ p → p + n ≤ at + m → in_writable ss p n ≡ true
unfolding in_writable some
writable_part [] at m p n e l u = e
writable_part (s ∷ ss) at m p n e l u = go (both (is_writable s) (holds_range s at m)) refl e (λ h. writable_part ss at m p n h l u)
  where
    go : (b : Bool) → both (is_writable s) (holds_range s at m) ≡ b → either b (in_writable ss at m) ≡ true
        → (in_writable ss at m ≡ true → in_writable ss p n ≡ true)
        → either (both (is_writable s) (holds_range s p n)) (in_writable ss p n) ≡ true
    go true f h next = rw (segment_part s at m p n f l u)
    go false f h next = either_right (both (is_writable s) (holds_range s p n)) (in_writable ss p n) (next h)

-- no place
pub range_none : (ss : List Segment) → WritableRange ss 0 0
range_none ss at n l u pos = absurd (omega arith)

-- what `find` gives passes the test, and whatever else it passes, one of the list passes
find_is :
    (l : List Segment) (test : Segment → Bool) (s : Segment) → find test l ≡ Some s
    → (test s ≡ true) × ((q : Segment → Bool) → q s ≡ true → some q l ≡ true)
unfolding some
find_is [] test s e = absurd (let z : ◌≡◌ {A = Option Segment} None (Some s) = e in cc)
find_is (t ∷ l) test s e = go (find_is l test s) (test t) refl
  where
    go : (find test l ≡ Some s → (test s ≡ true) × ((q : Segment → Bool) → q s ≡ true → some q l ≡ true)) → (b : Bool) → test t ≡ b
        → (test s ≡ true) × ((q : Segment → Bool) → q s ≡ true → some q (t ∷ l) ≡ true)
    go rest true is =
        let z : ◌≡◌ {A = Option Segment} (Some t) (Some s) = rw is at e in
        let u : t ≡ s = cc in
        (rw u at is, λ q p. let p' : q t ≡ true = rw (← u) at p in rw p')
    go rest false is =
        let z : find test l ≡ Some s = rw is at e in
        let r = rest z in
        (r.0, λ q p. either_right (q t) (some q l) (r.1 q p))

-- the first writable segment that holds the bytes
pub range_found :
    (l : List Segment) (at n : ℕ) (s : Segment) (high : ℕ) → find (λ t. both (is_writable t) (holds_range t at n)) l ≡ Some s
    → high ≤ s.vaddr + s.memsz → WritableRange l s.vaddr high
unfolding in_writable
range_found l at n s high is h p k low fits pos =
    let r = find_is l (λ t. both (is_writable t) (holds_range t at n)) s is in
    let w = both_true (is_writable s) (holds_range s at n) r.0 in
    let u : p + k ≤ s.vaddr + s.memsz = omega arith in
    let here : both (is_writable s) (holds_range s p k) ≡ true = rw (w.0, le-leb _ _ low, le-leb _ _ u) in
    r.1 (λ t. both (is_writable t) (holds_range t p k)) here
