use Rattle.std.proofs.Math.Nat.{div-div-eq-div-mul, mul_comm, pow-succ'}
use Rattle.std.proofs.lemmas.List.{drop_all, drop-set, length-replicate}
use Rattle.program.specs.Program.{digits}
use lib.ListN.{length-set}
use mathlib.Core.Path.{◌≡◌, refl, ◌∙◌}
use native.Mathlib.Numerals.{unary_clauses}
use native.Mathlib.Omega.{arith}
use Prim.Native.Nat.{ℕ, suc, ◌+◌, ◌-◌, ◌^◌, ◌/◌}
use Rattle.program.proofs.digits_of.Goals as goal

pub loop-i-init : goal.loop-i-init
unfolding digits
loop-i-init g c =
    let none : g.row.N - g.row.N ≡ 0 = omega arith in
    let n = length-replicate {0} {A = ℕ} g.row.N 0 in
    (omega arith, n, rw none (simp unary_clauses (omega arith)), rw none (drop_all g.row.N _ (omega (arith, n))))

pub loop-i-preserved : goal.loop-i-preserved
unfolding digits
loop-i-preserved g c =
    let l = c.loop-i in
    let b = c.args.base in
    let v = c.args.v in
    let done = g.row.N - l.i in
    let next : g.row.N - (l.i - 1) ≡ suc done = omega arith in
    let back : (l.i - 1) + 1 ≡ l.i = omega arith in
    let rest : l.rest / b ≡ v / b ^ suc done = rw (l.invariant.2, pow-succ' b done, mul_comm b (b ^ done)) (div-div-eq-div-mul v (b ^ done) b) in (
      omega arith,
      simp length-set l.invariant.1,
      rw next rest,
      drop-set l.digits (l.i - 1) c.digit_of.result (omega (arith, l.invariant.1))
          ∙ rw (next, back, l.invariant.3, c.digit_of.ensures, l.invariant.2) refl,
    )

pub returns : goal.returns
returns g c =
    let l = c.loop-i in
    let z : l.i ≡ 0 = omega arith in
    let all : g.row.N - 0 ≡ g.row.N = omega arith in
    rw all at (rw z at l.invariant.3)
