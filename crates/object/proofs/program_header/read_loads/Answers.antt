use mathlib.Core.Path.{◌≡◌, sym, ap, ◌∙◌}
use mathlib.Core.List.{List}
use Prim.Native.Nat.{◌+◌}
use native.Mathlib.Omega.{arith}
use borrow.Author.Tests.{eqb-true, eqb-false}
use lib.ListN.{length}
use Rattle.object.specs.declared.program_header.Segment.{Segment}
use Rattle.object.specs.ProgramHeader.{loads_in}
use Rattle.object.proofs.LoadLaws.{loads_one, loads_none, loads_over}
use Rattle.object.proofs.program_header.read_loads.Goals.{then-type_at-eq1+else-is_full, else-type_at-eq1}
use Rattle.object.proofs.program_header.read_loads.Goals as goal

pub loop-i-init : goal.loop-i-init
unfolding loads_in
loop-i-init c = (omega (arith, ap (λ (l : List Segment). length l) c.new-found.ensures), c.new-found.ensures)

pub returns-then-is_full : goal.returns-then-is_full
returns-then-is_full c =
    let full = eqb-true _ _ (sym c.is_full.ensures.value ∙ c.if-is_full.true) in
    rw c.loop-i.invariant.1
    (loads_over c.args.file.now c.loop-i.i (sym (ap (λ (l : List Segment). length l) c.loop-i.invariant.1) ∙ full) (sym c.type_at.ensures ∙ c.if-type_at-eq1.true)
    (omega (arith, c.header_count-i-end.ensures)))

pub loop-i-preserved : goal.loop-i-preserved
loop-i-preserved c =
    let file = c.args.file.now in
    elim c.if-type_at-eq1.branch [
      | then-type_at-eq1+else-is_full w ↦
          let some = eqb-false _ _ (sym w.is_full.ensures.value ∙ w.if-is_full.false) in
          let e : c.if-type_at-eq1.found.items ≡ loads_in file (c.loop-i.i + 1) =
          rw (w.found-is, w.push.ensures.items, c.loop-i.invariant.1, w.segment_at.ensures) (sym (loads_one file c.loop-i.i (sym c.type_at.ensures ∙ w.if-type_at-eq1.true)))
          in
          (rw w.found-is (omega (arith, w.push.ensures.len, some, c.loop-i.invariant.0)), e)
      | else-type_at-eq1 w ↦
          rw w.found-is (c.loop-i.invariant.0, c.loop-i.invariant.1 ∙ sym (loads_none file c.loop-i.i (λ e. w.if-type_at-eq1.false (c.type_at.ensures ∙ e))))
    ]
