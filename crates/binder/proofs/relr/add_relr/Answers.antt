-- `binder::relr::add_relr` meets its contract. Assumes nothing.
use Rattle.std.specs.Prelude.{Ok, Err}
use Rattle.std.proofs.Common.{◌≡◌, ℕ, ◌+◌, min, true, false, List, sym, refl, ◌∙◌, arith, ne_eqb}
use Rattle.std.proofs.lemmas.Result.{err_from_is_err_and}
use Rattle.words.specs.declared.refusal.Refusal.{Refusal}
use Rattle.words.specs.declared.refusal.Refusal.TheVariants.{NotWritable}
use Rattle.words.specs.Refusal.{refusal_number}
use Rattle.object.specs.TableBytes.{in_writable}
use Rattle.object.specs.declared.program_header.Segment.{Segment}
use Rattle.object.specs.declared.relocate.Relr.{Relr}
use Rattle.object.specs.declared.relocate.Relr.TheVariants.{Address, Bitmap}
use Rattle.binder.specs.Steps.Relocating.{far, summed, word_added, add_bits, add_relr}
use Rattle.binder.specs.Steps.RunSteps.{Moves}
use Rattle.binder.proofs.RunLaws.{number_some}
use Rattle.binder.proofs.relr.add_relr.Goals as goal

module _ (base : ℕ) (ss : List Segment) (location : ℕ) (e : Relr) where
  address_refused : (p : ℕ) (a : List ℕ) → e ≡ Address p → in_writable ss p 8 ≡ false → Moves (Err NotWritable) a (add_relr base ss location e a)
  unfolding add_relr
  address_refused p a is w next = rw (is, w) refl

  address_added :
      (p : ℕ) (a : List ℕ) {q : ℕ} {a' : List ℕ} → e ≡ Address p → in_writable ss p 8 ≡ true → q ≡ min (p + 8) far → a' ≡ word_added base p a
      → Moves (Ok q) a' (add_relr base ss location e a)
  unfolding add_relr
  address_added p a is w l g next = rw (is, w, l, g) refl

  bitmap_refused :
      (bits : ℕ) (a : List ℕ) (r : Refusal) {a' : List ℕ} → e ≡ Bitmap bits → summed (refusal_number r) a' ≡ add_bits base ss 63 location bits a
      → Moves (Err r) a' (add_relr base ss location e a)
  unfolding add_relr
  bitmap_refused bits a r is g next = rw (is, ← g, ne_eqb _ _ (number_some r)) refl

  bitmap_added :
      (bits : ℕ) (a : List ℕ) {q : ℕ} {a' : List ℕ} → e ≡ Bitmap bits → q ≡ min (location + 504) far → summed 0 a' ≡ add_bits base ss 63 location bits a
      → Moves (Ok q) a' (add_relr base ss location e a)
  unfolding add_relr
  bitmap_added bits a is l g next = rw (is, l, ← g) refl

pub returns-then-not-in_writable : goal.returns-then-not-in_writable
returns-then-not-in_writable c =
    let a = c.args in
    record {
      near = tt;
      goes_on = address_refused a.base (a.b.segments.now) a.location a.e c.in-Address.p a.part.now c.in-Address.is
          (sym c.in_writable.ensures ∙ c.if-not-in_writable.true);
    }

pub shape_of-part-else-not-in_writable : goal.shape_of-part-else-not-in_writable
shape_of-part-else-not-in_writable c = c.add_word.auto.part

pub returns-else-not-in_writable : goal.returns-else-not-in_writable
returns-else-not-in_writable c =
    let a = c.args in
    record {
      near = omega (arith, c.place.ensures);
      goes_on = address_added a.base (a.b.segments.now) a.location a.e c.in-Address.p a.part.now c.in-Address.is
          (sym c.in_writable.ensures ∙ c.if-not-in_writable.false) c.place.ensures c.add_word.ensures;
    }

pub returns-in_err-add_bitmap-in-Bitmap : goal.returns-in_err-add_bitmap-in-Bitmap
returns-in_err-add_bitmap-in-Bitmap c =
    let a = c.args in
    let p = err_from_is_err_and c.from_residual.result c.from_residual.ensures.1 in
    rw (p.1, p.2)
    (record {
      near = tt;
      goes_on = bitmap_refused a.base (a.b.segments.now) a.location a.e c.in-Bitmap.bits a.part.now _ c.in-Bitmap.is c.in_err-add_bitmap-in-Bitmap.ensures;
    })

pub returns-in_ok-add_bitmap-in-Bitmap : goal.returns-in_ok-add_bitmap-in-Bitmap
returns-in_ok-add_bitmap-in-Bitmap c =
    let a = c.args in
    let k = c.in_ok-add_bitmap-in-Bitmap in
    record {
      near = omega (arith, c.place-in-Bitmap.ensures);
      goes_on = bitmap_added a.base (a.b.segments.now) a.location a.e c.in-Bitmap.bits a.part.now c.in-Bitmap.is c.place-in-Bitmap.ensures (rw k.was at c.add_bitmap.ensures);
    }
