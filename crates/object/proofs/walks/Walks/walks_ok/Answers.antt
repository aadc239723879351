-- `object::check::Walks::walks_ok` meets its contract. Assumes nothing.
use Rattle.object.proofs.MarkLaws.{marked_use, marked_from}
use Rattle.object.proofs.Ranges.{below_more, below_no}
use Rattle.object.proofs.WalkLaws.{bucket_empty, bucket_word_lem, word_ended}
use Rattle.object.specs.Steps.Marks.{Passes}
use Rattle.object.specs.Steps.Checked.{step_by}
use Rattle.object.specs.TableBytes.{is_table}
use Rattle.words.specs.Choice.{below}
use mathlib.Core.Path.{refl, sym, ◌∙◌}
use native.Mathlib.Omega.{arith}
use Rattle.object.proofs.walks.Walks.walks_ok.Goals.{then-word-eq0-via-then-word-eq0, then-word-eq0-via-else-word-eq0+then-holds}
use Rattle.object.proofs.walks.Walks.walks_ok.Goals as goal

pub loop-i-init : goal.loop-i-init
unfolding below
loop-i-init c = (refl, c.requires)

pub loop-i-preserved-then-word-eq0 : goal.loop-i-preserved-then-word-eq0
loop-i-preserved-then-word-eq0 c =
    let w = c.args.self.now in
    let m = w.zeros.image.now in
    let v = w.view in
    let is_t = is_table w.zeros.bounds.span w.zeros.bounds.segments.now in
    let l = c.loop-i in
    let n = c.bucket_word-word.result in
    let k = l.invariant.1 in (
      below_more _ _ l.invariant.0 (elim c.then-word-eq0.branch [
        | then-word-eq0-via-then-word-eq0 u ↦ bucket_empty is_t m v.symbols v.strings v.table l.i (sym c.bucket_word-word.ensures ∙ u.if-word-eq0.true)
        | then-word-eq0-via-else-word-eq0+then-holds u ↦
            let h = u.holds.ensures u.if-holds.true in
            let o = marked_from l.seen.low l.seen.step (Passes m v.table (step_by w)) n l.seen.words h in
            let p = marked_use l.seen.low l.seen.step (Passes m v.table (step_by w)) n l.seen.words k.marked h in
            let e = k.low in
            bucket_word_lem is_t m v.symbols v.strings v.table l.i n c.bucket_word-word.ensures u.if-word-eq0.false
            ∙ word_ended is_t m v.symbols v.strings v.table n (omega (arith, u.if-word-eq0.false)) (omega arith) p
      ]),
      k,
    )

pub returns-then-not-walk_ok : goal.returns-then-not-walk_ok
returns-then-not-walk_ok c =
    let w = c.args.self.now in
    let v = w.view in
    let e = bucket_word_lem (is_table w.zeros.bounds.span w.zeros.bounds.segments.now) w.zeros.image.now v.symbols v.strings v.table c.loop-i.i c.bucket_word-word.result c.bucket_word-word.ensures c.if-word-eq0.false in
    sym (below_no _ _ _ (rw c.bucket_count-i-end.ensures at c.loop-i-test.true) (e ∙ sym c.walk_ok.ensures.0 ∙ c.if-not-walk_ok.true))

pub loop-i-preserved : goal.loop-i-preserved
loop-i-preserved c =
    let w = c.args.self.now in
    let v = w.view in
    let e = bucket_word_lem (is_table w.zeros.bounds.span w.zeros.bounds.segments.now) w.zeros.image.now v.symbols v.strings v.table c.loop-i.i c.bucket_word-word.result c.bucket_word-word.ensures c.if-word-eq0.false in
    (below_more _ _ c.loop-i.invariant.0 (e ∙ sym c.walk_ok.ensures.0 ∙ c.if-not-walk_ok.false), c.walk_ok.ensures.1)
