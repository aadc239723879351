-- `binder::needs::order_of` meets its contract: its table holds the needs of the libraries. Assumes nothing.
use Rattle.std.proofs.Common.{refl, arith}
use Rattle.binder.proofs.NeedsLaws.{arranged}
use Rattle.binder.proofs.needs.order_of.Goals as goal

pub returns : goal.returns
returns c =
    let a = c.args in
    let ordered = rw c.len.ensures.is at c.arrange.ensures in
    arranged a.set.now a.arena.now a.table.now _ c.arrange.result.items c.requires (omega (arith, c.len.ensures))
    ordered (λ few. c.fill_needs.ensures few refl)
