use Rattle.std.proofs.Common.{◌≡◌, ◌+◌, length, set, sym, refl, ap, ◌∙◌, arith, length-set}
use Rattle.words.specs.Memory.{mem}
use Rattle.words.proofs.Slices.{patch_none, patch_next}
use Rattle.object.specs.RelocationTypes.{supplied_types}
use Rattle.binder.proofs.TypeWords.{supplied_filled}
use Rattle.binder.proofs.types.supply.Goals as goal

pub loop-i-init : goal.loop-i-init
loop-i-init c =
    (refl, sym (patch_none c.args.types.now 0 (mem supplied_types)))

pub loop-i-preserved : goal.loop-i-preserved
loop-i-preserved c =
    let l = c.loop-i in
    let z : 0 + l.i ≡ l.i = omega arith in
    (simp length-set l.invariant.0, patch_next c.args.types.now 0 l.i (mem supplied_types) l.invariant.1 (rw z (ap (set l.types l.i) c.supplied_at.ensures)))

pub returns : goal.returns
returns c =
    let l = c.loop-i in
    let e : l.i ≡ length c.args.types.now = omega arith in
    rw e at l.invariant.1 ∙ supplied_filled c.args.types.now
