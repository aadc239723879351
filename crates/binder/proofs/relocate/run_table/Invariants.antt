-- `binder::relocate::run_table` meets its contract. The invariant: what is left of the table comes to what the whole does; a range that is kept is writable; the symbols that need no test stay so. Assumes nothing.
use Rattle.std.proofs.Common.{◌≡◌, ◌-◌, ◌≤◌, length}
use Rattle.std.specs.Prelude.{IfSome}
use Rattle.object.specs.Record.{held_by}
use Rattle.object.specs.Steps.WritableRange.{WritableRange}
use Rattle.binder.specs.Steps.RunSteps.{SymbolsOf}
use Rattle.binder.specs.Steps.Relocating.{run_table}
use Rattle.binder.proofs.RunLaws.{entries_left}
use Rattle.binder.proofs.relocate.run_table.Given as goal

abbrev pub invariant-loop-i : goal.invariant-loop-i
invariant-loop-i l =
    (length l.arena ≡ length l.initial.arena) × (length l.report ≡ length l.initial.report) × (l.i ≤ l.n)
    × IfSome l.w (λ w. WritableRange (l.b.segments.now) w.low w.high)
    × SymbolsOf l.t (held_by l.x.object.now) l.y l.arena
    × (entries_left l.x.links.now l.t (held_by l.x.object.now) l.at l.es.first l.n l.i l.p l.arena l.report ≡ run_table l.x.links.now l.t (held_by l.x.object.now) l.at l.es.first l.n 0 l.initial.p l.initial.arena l.initial.report)

abbrev pub decreases-loop-i : goal.decreases-loop-i
decreases-loop-i l =
    l.n - l.i
