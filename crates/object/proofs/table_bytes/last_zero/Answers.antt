-- `object::table_bytes::last_zero` meets its contract. Assumes nothing.
use mathlib.Core.Path.{◌≡◌}
use native.Mathlib.Omega.{arith}
use lib.ListN.{length, take, length-take, get_or-eq_default}
use Rattle.words.specs.Memory.{mem}
use Rattle.object.proofs.LastZeroLaws.{last_found, last_nowhere}
use Rattle.object.proofs.table_bytes.last_zero.Goals as goal

pub returns-then-image-end : goal.returns-then-image-end
unfolding mem
returns-then-image-end c =
    let a = c.args in
    record { within = omega arith; none = λ q l u z. absurd (omega arith); zero = λ h. get_or-eq_default a.image.now 0 (omega arith) }

pub returns-in-Some : goal.returns-in-Some
returns-in-Some c =
    let a = c.args in
    let w : length (take a.end a.image.now) ≡ a.end = simp length-take (omega arith) in
    let f = c.in-Some.ensures.some in
    let n = c.in-Some.ensures.after in
    last_found a.image.now a.end (omega arith) c.in-Some.k (omega (arith, f.0)) f.1 (λ q l u. n q l (omega arith))

pub returns-in-None : goal.returns-in-None
returns-in-None c =
    let a = c.args in
    let w : length (take a.end a.image.now) ≡ a.end = simp length-take (omega arith) in
    let n = c.in-None.ensures.none in
    last_nowhere a.image.now a.end (omega arith) (λ q u. n q (omega arith))
