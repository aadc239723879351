-- `object::marks::Marks::set` meets its contract. Assumes nothing.
use mathlib.Core.Path.{refl}
use Rattle.object.proofs.MarkLaws.{mark_set}
use Rattle.object.proofs.marks.Marks.set.Goals as goal

pub returns : goal.returns
returns c =
    let m = c.args.self.now in
    let e = c.in-Some.ensures in
    (refl, refl, rw c.bit.ensures (mark_set m.words c.in-Some.j m.low m.step c.args.s e.1))
