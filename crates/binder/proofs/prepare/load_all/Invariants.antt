-- `binder::prepare::load_all` meets its contract. Assumes nothing.
use Rattle.std.proofs.Common.{◌≡◌, length}
use Rattle.binder.specs.Setting.{setting_at}
use Rattle.binder.proofs.PrepareLaws.{Loading}
use Rattle.binder.proofs.prepare.load_all.Given as goal

abbrev pub invariant-loop-k : goal.invariant-loop-k
invariant-loop-k l =
    (length l.table ≡ length l.initial.table) × Loading (setting_at l.address) l.set l.initial.arena l.arena l.table l.free l.k-counter
