-- `binder::crossing::scan_at` meets its contract. Assumes nothing.
use Rattle.binder.proofs.WalkLaws.{walk_at}
use Rattle.binder.proofs.crossing.scan_at.Goals as goal

pub returns : goal.returns
returns c =
    let a = c.args in
    let s = c.scan_object.ensures in (
      s.0,
      s.1,
      s.2,
      walk_at a.walk.now _ _ a.links.now a.arena.now a.file.now a.k c.turn_of-t.ensures c.record_again-o.ensures s.3,
    )
