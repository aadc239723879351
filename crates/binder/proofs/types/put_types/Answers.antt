use Rattle.std.proofs.Common.{◌≡◌, ◌+◌, set, sym, refl, ap, arith, length-set}
use Rattle.words.specs.Memory.{mem}
use Rattle.words.proofs.Slices.{patch_none, patch_next}
use Rattle.binder.proofs.types.put_types.Goals as goal

pub loop-i-init : goal.loop-i-init
loop-i-init c =
    (refl, sym (patch_none c.args.table.now 1026 (mem c.args.types.now)))

pub bounds-table-i : goal.bounds-table-i
bounds-table-i c =
    omega (arith, c.loop-i.invariant.0, c.requires.0, c.requires.1, c.loop-i-test.true)

pub loop-i-preserved : goal.loop-i-preserved
unfolding mem
loop-i-preserved c =
    (simp length-set c.loop-i.invariant.0, patch_next c.args.table.now 1026 c.loop-i.i (mem c.args.types.now) c.loop-i.invariant.1 (ap (set c.loop-i.table (1026 + c.loop-i.i)) c.from.ensures))

pub returns : goal.returns
returns c =
    let l = c.loop-i in
    let e : l.i ≡ 64 = omega (arith, c.requires.1) in
    rw e at l.invariant.1
