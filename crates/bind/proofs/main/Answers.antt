-- `bind::main` meets its contract. Assumes nothing.
use Rattle.std.proofs.Common.{◌≡◌, ℕ, ◌≤◌, List, arith, length, sym, length-take-le}
use Rattle.program.proofs.PrintLaws.{next_place}
use Rattle.program.specs.Program.{print, written}
use Rattle.bind.proofs.main.Goals as goal

-- what is printed into `out` ends within it
printed_fits : (out text exit : List ℕ) {r : ℕ} → written exit r ≡ print (written out 0) text → length exit ≡ length out → r ≤ length exit
printed_fits out text exit e same = omega (arith, next_place out 0 text e)

pub slice_bounds-out-end : goal.slice_bounds-out-end
slice_bounds-out-end c = printed_fits _ _ _ c.run-r.ensures c.run-r.auto.out

pub slice_bounds-write_all-end : goal.slice_bounds-write_all-end
slice_bounds-write_all-end c = sym (length-take-le _ _ (printed_fits _ _ _ c.run-r.ensures c.run-r.auto.out))
