-- The load segments: what a segment that is not refused satisfies, and the tests and the span of a list from `i` on. Assumes nothing.
use mathlib.Core.Path.{◌≡◌, refl, ap, ◌∙◌}
use mathlib.Core.Bool.{Bool, true, not}
use mathlib.Core.List.{List, [], ◌∷◌}
use Prim.Native.Nat.{ℕ, ◌+◌, ◌-◌, ◌%◌, ◌^◌, ◌≤◌, ◌<◌, max}
use Rattle.std.specs.Prelude.{fold, min}
use native.Mathlib.Omega.{arith}
use native.Mathlib.Nat.{mod-eq_of_lt}
use borrow.Author.Tests.{leb-true, eqb-true, eqb-false, not-true}
use lib.Dec.{eqb, leb}
use lib.ListN.{length, drop, get_or, drop_of_length-le}
use lib.Seq.{drop-cons}
use native.Mathlib.Numerals.{add-one}
use Rattle.words.specs.Choice.{both, every}
use Rattle.words.specs.Page.{page_size, page_start, page_end}
use Rattle.words.proofs.Choice.{both_true}
use Rattle.object.specs.Segments.{sizes_ok, address_ok, segment_ok, pages_apart, all_apart, end_of, file_bytes}
use Rattle.object.specs.declared.program_header.Segment.{Segment}

-- ---- pages below 2^28: no sum wraps

pub end_small : (a : ℕ) {r : ℕ} → a ≤ 2 ^ 28 → r ≡ page_end a % 2 ^ 64 → r ≡ page_end a
end_small a h e = e ∙ mod-eq_of_lt (omega arith)

-- ---- a segment that is not refused

pub record Sound (n : ℕ) (s : Segment) : Type 0 where
  pub some_bytes : 0 < s.memsz
  pub file_bytes_lem : s.filesz ≤ s.memsz
  pub in_file : s.offset + s.filesz ≤ n
  pub low : s.vaddr + s.memsz ≤ 2 ^ 28
  pub aligned : s.offset % 4096 ≡ s.vaddr % 4096

nonzero : (k : ℕ) → (k ≡ 0 → ⊥) → 0 < k
nonzero k ne = omega arith

pub sound : (n : ℕ) (s : Segment) → segment_ok n s ≡ true → Sound n s
unfolding segment_ok sizes_ok address_ok
sound n s e =
    let g = both_true (sizes_ok n s) _ e in
    let a = both_true (not (eqb s.memsz 0)) _ g.0 in
    let b = both_true (leb s.filesz s.memsz) _ a.1 in
    let d = both_true (leb (s.vaddr + s.memsz) (2 ^ 28)) _ (both_true (address_ok s) _ g.1).0 in
    record {
      some_bytes = nonzero s.memsz (eqb-false s.memsz 0 (not-true (eqb s.memsz 0) a.0));
      file_bytes_lem = leb-true s.filesz s.memsz b.0;
      in_file = leb-true (s.offset + s.filesz) n b.1;
      low = leb-true (s.vaddr + s.memsz) (2 ^ 28) d.0;
      aligned = eqb-true (s.offset % page_size) (s.vaddr % page_size) d.1;
    }

-- its file pages are as many from its address
pub bytes_from : (n : ℕ) (s : Segment) → Sound n s → file_bytes s ≡ page_end (s.vaddr + s.filesz) - page_start s.vaddr
bytes_from n s o = omega (arith, o.aligned)

-- and end in the page where the segment ends
pub bytes_end : (n : ℕ) (s : Segment) → Sound n s → page_start s.vaddr + file_bytes s ≤ page_end (s.vaddr + s.memsz)
bytes_end n s o = omega (arith, bytes_from n s o, o.file_bytes_lem)

-- what a read past the end of a table would give
abbrev pub no_segment : Segment
no_segment = record { offset = 0; vaddr = 0; filesz = 0; memsz = 0; flags = 0; align = 0 }

-- what ends at 2^28 at most
pub address_low : (s : Segment) → address_ok s ≡ true → s.vaddr + s.memsz ≤ 2 ^ 28
unfolding address_ok
address_low s e = leb-true (s.vaddr + s.memsz) (2 ^ 28) (both_true (leb (s.vaddr + s.memsz) (2 ^ 28)) _ e).0

pub every_address : (n : ℕ) (ss : List Segment) → every (segment_ok n) ss ≡ true → every address_ok ss ≡ true
unfolding every segment_ok
every_address n [] e = refl
every_address n (s ∷ ss) e =
    let h = both_true (segment_ok n s) (every (segment_ok n) ss) e in
    rw ((both_true (address_ok s) _ (both_true (sizes_ok n s) _ h.0).1).0) (every_address n ss h.1)

-- ---- a list from `i` on

module _ (l : List Segment) (i : ℕ) (d : Segment) (h : i < length l) where
  pub one_left : drop i l ≡ get_or l i d ∷ drop (i + 1) l
  one_left = rw (add-one i) (drop-cons l i d h)

  pub apart_turn : (t : Bool) → every (pages_apart (get_or l i d)) (drop (i + 1) l) ≡ t → all_apart (drop i l) ≡ both t (all_apart (drop (i + 1) l))
  unfolding all_apart
  apart_turn t e = ap all_apart one_left ∙ ap (λ (b : Bool). both b (all_apart (drop (i + 1) l))) e

pub apart_end : (l : List Segment) (i : ℕ) → length l ≤ i → all_apart (drop i l) ≡ true
unfolding all_apart
apart_end l i h = rw (drop_of_length-le l {i = i} h)

-- the fold of the code: no end is past 2^28, so that none is cut off
pub end_fold :
    (ss : List Segment) (a : ℕ) → every address_ok ss ≡ true → a ≤ 2 ^ 28
    → (fold (λ (a : ℕ) (s : Segment). max (min (s.vaddr + s.memsz) (2 ^ 64 - 1)) a) a ss ≡ max a (end_of ss)) × (max a (end_of ss) ≤ 2 ^ 28)
unfolding end_of every
end_fold [] a e h = (omega arith, omega arith)
end_fold (s ∷ ss) a e h =
    let t = both_true (address_ok s) (every address_ok ss) e in
    let low = address_low s t.0 in
    let r = end_fold ss (max (min (s.vaddr + s.memsz) (2 ^ 64 - 1)) a) t.1 (omega (arith, low)) in
    (omega (arith, r.0, low), omega (arith, r.1, low))
