-- `binder::query_all::zero_bytes` meets its contract. The invariant: the zero bytes before `i` are counted. Assumes nothing.
use Rattle.std.proofs.Common.{◌≡◌, ◌≤◌, take}
use Rattle.std.specs.List.{count_by}
use Rattle.std.specs.Prelude.{eqb}
use Rattle.binder.proofs.query_all.zero_bytes.Given as goal

abbrev pub invariant-loop-i : goal.invariant-loop-i
invariant-loop-i l = (l.n ≤ l.i) × (l.n ≡ count_by (λ b. eqb b 0) (take l.i l.list))
