use mathlib.Core.Path.{◌≡◌, refl, sym, ◌∙◌}
use Prim.Native.Nat.{ℕ, ◌+◌, ◌-◌, ◌*◌, ◌<◌}
use native.Mathlib.Omega.{arith}
use Rattle.object.specs.DynamicArray.{item_room}
use Rattle.object.proofs.FieldLaws.{walk_start, walk_need, walk_other, walk_end, walk_none}
use Rattle.object.proofs.dynamic_array.read_array.Goals.{then-tag-eq-DT_NEEDED, else-tag-eq-DT_NEEDED}
use Rattle.object.proofs.dynamic_array.read_array.Goals as goal

pub loop-k-init : goal.loop-k-init
loop-k-init c =
    let i : c.args.at + 0 ≡ c.args.at = omega arith in
    let m : item_room c.args.image.now c.args.at - 0 ≡ item_room c.args.image.now c.args.at = omega arith in
    rw (i, m) (walk_start c.args.image.now c.args.at _ _ refl (omega arith, c.new.ensures))

pub returns-then-tag-eq0 : goal.returns-then-tag-eq0
returns-then-tag-eq0 c =
    let a = c.args in
    let l = c.loop-k in
    walk_end a.image.now a.at l.slots l.needs (a.at + 16 * l.k) (item_room a.image.now a.at - l.k) l.invariant (omega (arith, c.saturating_sub-k-end.ensures))
    (sym c.word_at-tag.ensures ∙ c.if-tag-eq0.true)

pub loop-k-preserved : goal.loop-k-preserved
loop-k-preserved c =
    let a = c.args in
    let l = c.loop-k in
    let left : ℕ = item_room a.image.now a.at - l.k in
    let i : a.at + 16 * (l.k + 1) ≡ a.at + 16 * l.k + 16 = omega arith in
    let m : item_room a.image.now a.at - (l.k + 1) ≡ left - 1 = omega arith in
    let more : 0 < left = omega (arith, c.saturating_sub-k-end.ensures) in
    rw (i, m) (elim c.if-tag-eq-DT_NEEDED.branch [
      | then-tag-eq-DT_NEEDED w ↦
          rw w.needs-is
          (walk_need a.image.now a.at l.slots l.needs (a.at + 16 * l.k) left l.invariant _ _ more c.if-tag-eq0.false
          c.word_at-tag.ensures c.word_at-value.ensures _ _ c.put.ensures w.if-tag-eq-DT_NEEDED.true w.put_need.ensures)
      | else-tag-eq-DT_NEEDED w ↦
          rw w.needs-is
          (walk_other a.image.now a.at l.slots l.needs (a.at + 16 * l.k) left l.invariant _ _ more c.if-tag-eq0.false
          c.word_at-tag.ensures c.word_at-value.ensures _ c.put.ensures w.if-tag-eq-DT_NEEDED.false)
    ])

pub returns : goal.returns
returns c =
    let a = c.args in
    let l = c.loop-k in
    walk_none a.image.now a.at l.slots l.needs (a.at + 16 * l.k) (item_room a.image.now a.at - l.k) l.invariant (omega (arith, c.saturating_sub-k-end.ensures))
