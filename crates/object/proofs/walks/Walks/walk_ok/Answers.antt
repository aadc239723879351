-- `object::check::Walks::walk_ok` meets its contract. Assumes nothing.
use Rattle.object.proofs.WalkLaws.{word_low, word_failed, word_cut, word_ended}
use Rattle.object.specs.Steps.Checked.{step_by}
use Rattle.object.specs.TableBytes.{is_table}
use mathlib.Core.Path.{sym, ◌∙◌}
use native.Mathlib.Omega.{arith}
use Rattle.object.proofs.walks.Walks.walk_ok.Goals as goal

pub returns-then-word-self : goal.returns-then-word-self
returns-then-word-self c =
    let w = c.args.self.now in
    let e = w.shortcuts.start in
    (sym (word_low w.zeros.image.now w.view.table (step_by w) c.args.word c.requires.0 (omega arith)), c.requires.1)

pub returns-in-Ended : goal.returns-in-Ended
returns-in-Ended c =
    let w = c.args.self.now in
    let z = w.zeros in
    let e = w.shortcuts.start in
    let h = rw c.in-Ended.is at c.follow.ensures in
    let k = c.set_walk.ensures in (
      sym (word_ended (is_table z.bounds.span z.bounds.segments.now) z.image.now w.view.symbols w.view.strings w.view.table c.args.word c.requires.0 (omega arith) h),
      record { low = k.0 ∙ c.requires.1.low; marked = rw (k.0, k.1) (k.2 (step_by w) h c.requires.1.marked) },
    )

pub returns-in-Failed : goal.returns-in-Failed
returns-in-Failed c =
    let w = c.args.self.now in
    let h = rw c.in-Failed.is at c.follow.ensures in
    (sym (word_failed w.zeros.image.now w.view.table (step_by w) c.args.word h), c.requires.1)

pub returns-in-Cut : goal.returns-in-Cut
returns-in-Cut c =
    let w = c.args.self.now in
    let m = w.zeros.image.now in
    let e = w.shortcuts.start in
    let h = rw c.in-Cut.is at c.follow.ensures in
    (c.may_be_cut.ensures m ∙ sym (word_cut m w.view.table (step_by w) c.args.word c.requires.0 (omega arith) h.0 h.1), c.requires.1)
