-- `binder::relr::run_relrs` meets its contract. Assumes nothing.
use Rattle.words.specs.Refusal.{refused_by}
use Rattle.object.specs.Record.{held_by}
use Rattle.binder.proofs.PartLaws.{relrs_in}
use Rattle.binder.proofs.relr.run_relrs.Goals as goal

pub returns : goal.returns
returns c =
    let a = c.args in
    let s = c.add_relrs in
    relrs_in a.t (held_by a.o.now) a.arena.now s.new.part (refused_by s.result) c.min-off.ensures s.ensures
