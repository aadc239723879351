-- `object::table_bytes::Segment::spares` meets its contract. Assumes nothing.
use mathlib.Core.Path.{◌≡◌, sym}
use mathlib.Core.Bool.{true}
use Prim.Native.Nat.{◌+◌}
use native.Mathlib.Omega.{arith}
use borrow.Author.Tests.{eq-eqb, eqb-true}
use Rattle.object.specs.TableBytes.{is_writable}
use Rattle.object.proofs.Ranges.{spares, below_all, seg_out, spares_above, spares_below}
use Rattle.object.proofs.program_header.Segment.spares.Goals.{then-not-is_writable-via-then-not-is_writable, then-not-is_writable-via-else-not-is_writable+then-self-eq0, then-not-is_writable-via-else-not-is_writable+else-self-eq0+then-n-eq0}
use Rattle.object.proofs.program_header.Segment.spares.Goals as goal

pub returns-then-not-is_writable : goal.returns-then-not-is_writable
returns-then-not-is_writable c =
    let a = c.args in
    let s = a.self.now in
    elim c.then-not-is_writable.branch [
      | then-not-is_writable-via-then-not-is_writable w ↦
          sym (below_all (λ k. spares s (a.at + k)) a.n (λ k h. seg_out s (a.at + k) (λ f l u. let y : is_writable s ≡ true = eq-eqb _ _ f in cc)))
      | then-not-is_writable-via-else-not-is_writable+then-self-eq0 w ↦
          sym (below_all (λ k. spares s (a.at + k)) a.n (λ k h. seg_out s (a.at + k) (λ f l u. omega arith)))
      | then-not-is_writable-via-else-not-is_writable+else-self-eq0+then-n-eq0 w ↦
          sym (below_all (λ k. spares s (a.at + k)) a.n (λ k h. absurd (omega arith)))
    ]

pub returns-then-self-at : goal.returns-then-self-at
returns-then-self-at c =
    let s = c.args.self.now in
    let w : is_writable s ≡ true = cc in
    spares_above s c.args.at c.args.n (eqb-true _ _ w) (omega arith) (omega arith)

pub returns : goal.returns
returns c =
    let s = c.args.self.now in
    let w : is_writable s ≡ true = cc in
    spares_below s c.args.at c.args.n (eqb-true _ _ w) (omega arith) (omega arith)
