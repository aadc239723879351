-- A run of entries that are Relative whose places lie in one writable segment, in the object's part of the arena, is one of the arena:
-- specs/RunSteps.antt. Assumes nothing.
use Rattle.std.proofs.Common.{◌≡◌, ℕ, zero, suc, ◌+◌, ◌-◌, ◌*◌, ◌%◌, ◌^◌, ◌<◌, ◌≤◌, min, true, List, length, take, drop, sym, refl, ap, ◌∙◌, zero-add, arith}
use borrow.Rule.Slice.PartMut.{put_mid}
use Rattle.words.specs.Memory.{mem, patch}
use Rattle.words.specs.Words.{le_at, byte_of, sum64}
use Rattle.words.proofs.Words.{le_at_part}
use Rattle.object.specs.Entries as entries
use Rattle.object.specs.Entries.{rela_at}
use Rattle.object.specs.Steps.Actions.{row_by}
use Rattle.object.specs.Record.{Record}
use Rattle.object.specs.TableBytes.{in_writable}
use Rattle.object.specs.Steps.WritableRange.{WritableRange}
use Rattle.object.specs.declared.relocate.Action.TheVariants.{Relative}
use Rattle.object.specs.declared.relocate.Rela.{Rela}
use Rattle.binder.specs.Verdict.{passed}
use Rattle.binder.specs.declared.report.Progress.{Progress}
use Rattle.binder.specs.declared.turn.Turn.{Turn}
use Rattle.binder.specs.Steps.Relocating.{left, image_in, part_of, with_part, field_of, fixed_of, run_action, row_at}
use Rattle.binder.specs.Steps.RunSteps.{RelativeWritten, RelativesWritten, EntriesPassed}
use Rattle.binder.proofs.PartLaws.{lent, given_back, with_same, part_with, with_again, with_patch, long_with}
use Rattle.binder.proofs.RunLaws.{entry_goes}
use Rattle.binder.proofs.KeptLaws.{kept_none, kept_then, entry_kept}

-- a number in the object's part of the arena
pub number_in :
    (t : Turn) (a : List ℕ) (m x y : ℕ) {v : ℕ} → x + m ≤ t.span → y ≡ t.offset + x → v ≡ le_at m (mem a) y → le_at m (mem (image_in a t)) x ≡ v
number_in t a m x y fits e g = le_at_part m t.span t.offset a x fits ∙ rw (g, e)

-- ---- in the part

module _ (base at low high : ℕ) where
  -- the entry that stands at `k` of the part `x`, as it is read and written
  pub relative_written :
      (i : ℕ) (x : List ℕ) {y : List ℕ} {k rtype place addend v : ℕ} → k ≡ at + 24 * i → rtype ≡ le_at 4 (mem x) (k + 8) → rtype ≡ 8
      → place ≡ le_at 8 (mem x) k → low ≤ place → place + 8 ≤ high → addend ≡ le_at 8 (mem x) (k + 16) → v ≡ sum64 base addend
      → y ≡ patch x place 8 (byte_of v)
      → RelativeWritten base at low high i x y
  unfolding entries.rela_at
  relative_written i x {y} {k} {rtype} {place} {addend} {v} stands rtype-is acts-so place_is above below addend_is sum_is_lem written =
      let e8 : at + (24 * i + 8) ≡ k + 8 = omega arith in
      let e16 : at + (24 * i + 16) ≡ k + 16 = omega arith in
      let rtype_here : le_at 4 (mem x) (at + (24 * i + 8)) ≡ rtype = ap (le_at 4 (mem x)) e8 ∙ sym rtype-is in
      let place_here : le_at 8 (mem x) (at + 24 * i) ≡ place = ap (le_at 8 (mem x)) (sym stands) ∙ sym place_is in
      let addend_here : le_at 8 (mem x) (at + (24 * i + 16)) ≡ addend = ap (le_at 8 (mem x)) e16 ∙ sym addend_is in
      record {
        acts = rtype_here ∙ acts-so;
        above = rw place_here above;
        below = rw place_here below;
        written = rw (place_here, addend_here, ← sum_is_lem) written;
      }

  pub relatives_none : (i : ℕ) (x : List ℕ) → RelativesWritten base at low high i (i - i) x x
  unfolding RelativesWritten
  relatives_none i x = let e : i - i ≡ 0 = omega arith in rw e refl

  pub relatives_next :
      (start i : ℕ) (x y z : List ℕ) → start ≤ i → RelativesWritten base at low high start (i - start) x y
      → RelativeWritten base at low high i y z
      → RelativesWritten base at low high start (i + 1 - start) x z
  unfolding RelativesWritten
  relatives_next start i x y z l done one =
      let e : i + 1 - start ≡ suc (i - start) = omega arith in
      let f : start + (i - start) ≡ i = omega arith in
      rw e (y, done, rw f one)

-- ---- in the arena

-- an entry in the front of a slice
entry_front : (k : ℕ) (xs : List ℕ) (at i : ℕ) → at + 24 * (i + 1) ≤ k → rela_at (take k xs) at i ≡ rela_at xs at i
unfolding entries.rela_at
entry_front k xs at i fits = rw (number 8 (24 * i) (omega arith), number 4 (24 * i + 8) (omega arith), number 4 (24 * i + 12) (omega arith), number 8 (24 * i + 16) (omega arith))
  where
    number : (n x : ℕ) → at + x + n ≤ k → le_at n (mem (take k xs)) (at + x) ≡ le_at n (mem xs) (at + x)
    number n x h = le_at_part n k 0 xs (at + x) h ∙ ap (le_at n (mem xs)) (zero-add (at + x))

module _ (table : List ℕ) (applied : row_at table 8 ≡ row_by Relative) (t : Turn) (at n low high : ℕ) (table_in : at + 24 * n ≤ t.span) where
  -- entry `i` is Relative, its place is in low .. high, and its word was written
  module _
      (i : ℕ)
      (a y : List ℕ)
      (some : i < n)
      (fits : t.offset ≤ length a)
      (one : RelativeWritten t.base at low high i (part_of t a) y)
    where
      here : rela_at (image_in a t) at i ≡ rela_at (part_of t a) at i
      here = entry_front t.span (part_of t a) at i (omega arith)

      acts : row_by Relative ≡ row_at table (rela_at (image_in a t) at i).rtype
      acts = sym (ap (λ (e : Rela). row_at table e.rtype) here ∙ (ap (row_at table) one.acts ∙ applied))

      written :
          with_part t a y
          ≡ patch a (t.offset + (rela_at (part_of t a) at i).place) 8 (byte_of (sum64 t.base (rela_at (part_of t a) at i).addend))
      written =
          ap (with_part t a) one.written
          ∙ with_patch t a fits (rela_at (part_of t a) at i).place 8 (byte_of (sum64 t.base (rela_at (part_of t a) at i).addend))

      ran :
          (r : Record) (number : ℕ) (p : Progress) (report : List ℕ) → WritableRange r.segments low high
          → left passed p (with_part t a y) report ≡ run_action table t r number (rela_at (image_in a t) at i) (row_by Relative) p a report
      unfolding run_action fixed_of field_of
      ran r number p report wr =
          let w : in_writable r.segments (rela_at (part_of t a) at i).place 8 ≡ true
          = wr (rela_at (part_of t a) at i).place 8 one.above one.below (omega arith) in
          rw (here, w, written)

      relative_turn :
          (start : ℕ) (a₀ : List ℕ) → EntriesPassed table t at n low high start a₀ i a → EntriesPassed table t at n low high start a₀ (i + 1) (with_part t a y)
      relative_turn start a₀ before r first p report wr =
          let b = with_part t a y in
          let so_far = before r first p report wr in
          let run = ran r ((first + i) % 2 ^ 32) p report wr in (
            entry_goes table t r at first n i p a report {met = passed} {b = b} {noted = report} some refl acts refl run so_far.0 refl,
            kept_then t r a₀ a b so_far.1 (entry_kept t r table ((first + i) % 2 ^ 32) (rela_at (image_in a t) at i) p a report (row_by Relative) passed p b report run),
          )

  -- `m` of them from entry `i` on
  module _ (i : ℕ) (a : List ℕ) (fits : t.offset ≤ length a) where
    run_passed :
        (m : ℕ) (y : List ℕ) → i + m ≤ n → RelativesWritten t.base at low high i m (part_of t a) y
        → EntriesPassed table t at n low high i a (i + m) (with_part t a y)
    unfolding RelativesWritten
    run_passed zero y few none =
        let same : with_part t a y ≡ a = ap (with_part t a) none ∙ with_same t a in
        let z : i + 0 ≡ i = omega arith in
        rw (same, z) (λ r first p report wr. (refl, kept_none t r a))
    run_passed (suc m) y few (z, done, one) =
        let e : i + suc m ≡ i + m + 1 = omega arith in
        let step : RelativeWritten t.base at low high (i + m) (part_of t (with_part t a z)) y = rw (part_with t a fits z) one in
        rw e
        (rw (with_again t a fits z y) at
        (relative_turn (i + m) (with_part t a z) y (omega arith) (long_with t a fits z) step i a (run_passed m z (omega arith) done)))

  -- the same of the part that was lent and is back
  pub relatives_passed :
      (i j : ℕ) (a y : List ℕ) → i ≤ j → j ≤ n → t.offset ≤ length a
      → RelativesWritten t.base at low high i (j - i) (take (length a - t.offset) (drop t.offset a)) y
      → EntriesPassed table t at n low high i a j (put_mid t.offset (length a - t.offset) a y)
  relatives_passed i j a y l u fits run =
      let off : t.offset ≡ min t.offset (length a) = omega arith in
      let e : i + (j - i) ≡ j = omega arith in
      rw (given_back t a off y)
      (rw e at (run_passed i a fits (j - i) y (omega arith) (rw (lent t a off) at run)))
