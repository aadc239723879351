use mathlib.Core.Path.{◌≡◌, sym, ◌∙◌}
use Prim.Native.Nat.{◌%◌}
use native.Mathlib.Decide.{ℕ_discrete}
use borrow.Author.Tests.{eq-eqb, ne_eqb}
use lib.Dec.{eqb}
use Rattle.object.specs.declared.program_header.Segment.{Segment}
use Rattle.object.specs.Alignment.{align_ok}
use Rattle.object.proofs.AlignLaws.{align_none, align_divides, align_other}
use Rattle.object.proofs.alignment.align_ok.Goals as goal

pub returns-then-s-eq0 : goal.returns-then-s-eq0
returns-then-s-eq0 c = eq-eqb _ _ c.if-s-eq0.true ∙ sym (align_none _ c.if-s-eq0.true)

divides : (s : Segment) → (s.align ≡ 0 → ⊥) → Dec (2097152 % s.align ≡ 0) → eqb (2097152 % s.align) 0 ≡ align_ok s
divides s some (yes e) = eq-eqb _ _ e ∙ sym (align_divides s some e)
divides s some (no ne) = ne_eqb _ _ ne ∙ sym (align_other s some ne)

pub returns-else-s-eq0 : goal.returns-else-s-eq0
returns-else-s-eq0 c = divides c.args.s.now c.if-s-eq0.false (ℕ_discrete _ 0)
