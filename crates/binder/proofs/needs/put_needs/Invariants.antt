-- `binder::needs::put_needs` meets its contract. The invariant: the numbers of the first `i` needs are written. Assumes nothing.
use Rattle.std.proofs.Common.{◌≡◌, ◌*◌, ◌<◌, ◌≤◌, length, get_or}
use Rattle.words.specs.Memory.{patch}
use Rattle.binder.proofs.NeedsLaws.{number_at}
use Rattle.binder.proofs.needs.put_needs.Given as goal

abbrev pub invariant-loop-i : goal.invariant-loop-i
invariant-loop-i l =
    (l.k < 64) × (length l.needs ≡ 4096) × (length l.n-items ≤ 64)
    × (l.needs ≡ patch l.initial.needs (64 * l.k) l.i (λ i. number_at l.set l.image l.strings (get_or l.n-items i 0)))
