-- `object::check::Walks::walks_ok` meets its contract. The invariant: the walks of the buckets before `i` pass, and the marks are right. Assumes nothing.
use Rattle.object.specs.HashCheck.{walk_ok}
use Rattle.object.specs.Steps.Checked.{MarksOk}
use Rattle.object.specs.TableBytes.{is_table}
use Rattle.words.specs.Choice.{below}
use mathlib.Core.Bool.{true}
use mathlib.Core.Path.{◌≡◌}
use Rattle.object.proofs.walks.Walks.walks_ok.Given as goal

abbrev pub invariant-loop-i : goal.invariant-loop-i
invariant-loop-i l =
    let z = l.self.zeros in
    let v = l.self.view in
    (below (walk_ok (is_table z.bounds.span z.bounds.segments.now) z.image.now v.symbols v.strings v.table) l.i ≡ true) × MarksOk l.self l.seen
