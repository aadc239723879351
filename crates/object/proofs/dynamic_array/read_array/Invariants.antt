use Prim.Native.Nat.{◌+◌, ◌-◌, ◌*◌}
use Rattle.object.specs.DynamicArray.{item_room}
use Rattle.object.proofs.FieldLaws.{Walk}
use Rattle.object.proofs.dynamic_array.read_array.Given as goal

abbrev pub invariant-loop-k : goal.invariant-loop-k
invariant-loop-k l = Walk l.image l.at l.slots l.needs (l.at + 16 * l.k) (item_room l.image l.at - l.k)
