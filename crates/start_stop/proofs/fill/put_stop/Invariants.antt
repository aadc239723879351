use Rattle.start_stop.proofs.ListLaws.{Left}
use Rattle.start_stop.specs.Steps.Bound.{calls_by}
use Rattle.start_stop.specs.Steps.Rows.{AllFew}
use Rattle.start_stop.specs.StartStop.{stops_of, in_turn, stop_list}
use Rattle.std.specs.Slice.Iter.{iter_rest}
use Rattle.std.specs.Iterator.Adapters.{rev_source}
use Rattle.std.proofs.Common.{◌≡◌, ◌+◌, ◌*◌, ◌^◌, ◌≤◌, length}
use mathlib.Core.List.{reverse}
use Rattle.start_stop.proofs.fill.put_stop.Given as goal

abbrev pub invariant-loop-k : goal.invariant-loop-k
invariant-loop-k l =
    record {
      same : l.addresses.words.ghost_name ≡ l.initial.addresses.words.ghost_name;
      few : l.addresses.used + length (iter_rest (rev_source l.k-iterator)) * 2 ^ 26 ≤ 2 ^ 32;
      words : AllFew l.set.rows.now (iter_rest (rev_source l.k-iterator));
      left : Left (stop_list (calls_by l.set) l.set.order.now) 0 l.fn.list (in_turn (λ k. stops_of (calls_by l.set k)) (reverse (iter_rest (rev_source l.k-iterator)))) l.addresses.used l.addresses.words.now;
    }
