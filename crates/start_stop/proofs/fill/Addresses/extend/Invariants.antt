use Rattle.std.proofs.Common.{◌≡◌, ◌+◌, ◌^◌, ◌≤◌}
use Rattle.std.specs.Iterator.{size}
use Rattle.start_stop.specs.Steps.Listed.{Pushed}
use Rattle.start_stop.proofs.fill.Addresses.extend.Given as goal

abbrev pub invariant-loop-address : goal.invariant-loop-address
invariant-loop-address g l =
    record {
      same : l.self.words.ghost_name ≡ l.fn.self.words.ghost_name;
      pushed : Pushed l.yielded l.fn.self l.self;
      few : l.self.used + size (g.I.Iterator.remaining l.address-iterator) ≤ l.fn.self.used + 2 ^ 25;
    }
