use Rattle.start_stop.proofs.ListLaws.{Left}
use Rattle.start_stop.specs.Steps.Bound.{calls_by}
use Rattle.start_stop.specs.StartStop.{starts_of, in_turn, start_list}
use Rattle.std.proofs.Common.{◌≡◌, ◌+◌, ◌*◌, ◌^◌, ◌≤◌, drop}
use Rattle.start_stop.proofs.fill.put_start.Given as goal

abbrev pub invariant-loop-k : goal.invariant-loop-k
invariant-loop-k l =
    record {
      same : l.addresses.words.ghost_name ≡ l.initial.addresses.words.ghost_name;
      few : l.addresses.used ≤ 2 ^ 25 + l.k-index * 2 ^ 26;
      left : Left (start_list (calls_by l.set) l.set.order.now) 0 l.fn.list (in_turn (λ k. starts_of (calls_by l.set k)) (drop l.k-index l.set.order.now)) l.addresses.used l.addresses.words.now;
    }
