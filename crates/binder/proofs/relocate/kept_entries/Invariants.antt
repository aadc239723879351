-- `binder::relocate::kept_entries` meets its contract. Assumes nothing.
use Rattle.binder.specs.Steps.RunSteps.{SymbolsPassed}
use Rattle.binder.proofs.relocate.kept_entries.Given as goal

abbrev pub invariant-loop-i : goal.invariant-loop-i
invariant-loop-i l =
    SymbolsPassed l.table l.t l.y l.at l.n l.w.low l.w.high l.fn.s l.initial.arena (record { next = l.i; kept = l.s.kept }) l.arena
