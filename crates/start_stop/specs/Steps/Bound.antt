-- What is called of a set that is bound, by what the code keeps of it. Assumes nothing.
use Rattle.std.specs.Prelude.{ℕ}
use Rattle.start_stop.specs.declared.bound.Bound.{Bound}
use Rattle.start_stop.specs.StartStop.{Calls}
use Rattle.start_stop.specs.Steps.Rows.{calls_at}

abbrev pub calls_by : Bound → ℕ → Calls
calls_by s = calls_at s.arena.now s.links.now s.rows.now
