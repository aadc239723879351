-- `binder::relocate::symbolics` meets its contract. Assumes nothing.
use Rattle.std.proofs.Common.{◌≡◌, ◌-◌, ◌≤◌, length}
use Rattle.binder.specs.Steps.RunSteps.{SymbolsPassed}
use Rattle.binder.proofs.relocate.symbolics.Given as goal

abbrev pub invariant-loop-next : goal.invariant-loop-next
invariant-loop-next l =
    (l.fn.s.next ≤ l.next)
    × (l.next ≤ l.n)
    × (length l.arena ≡ length l.initial.arena)
    × SymbolsPassed l.x.links.now l.t l.y l.at l.n l.w.low l.w.high l.fn.s l.initial.arena (record { next = l.next; kept = l.kept }) l.arena

abbrev pub decreases-loop-next : goal.decreases-loop-next
decreases-loop-next l = l.n - l.next
