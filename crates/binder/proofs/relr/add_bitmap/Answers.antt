-- `binder::relr::add_bitmap` meets its contract. Assumes nothing.
use Rattle.std.proofs.Common.{sym, ◌∙◌}
use Rattle.object.proofs.Ranges.{writable_part}
use Rattle.binder.proofs.relr.add_bitmap.Goals as goal

pub returns-then-bits-eq9223372036854775807 : goal.returns-then-bits-eq9223372036854775807
returns-then-bits-eq9223372036854775807 c =
    let a = c.args in
    let ss = a.b.segments.now in
    rw c.if-bits-eq9223372036854775807.true (c.add_all_in.ensures ss (λ p n l u pos. writable_part ss a.location 504 p n (sym c.in_writable.ensures ∙ c.if-not-in_writable.false) l u))

pub returns-else-bits-eq9223372036854775807 : goal.returns-else-bits-eq9223372036854775807
returns-else-bits-eq9223372036854775807 c =
    let a = c.args in
    let ss = a.b.segments.now in
    c.add_bits_in.ensures ss (λ p n l u pos. writable_part ss a.location 504 p n (sym c.in_writable.ensures ∙ c.if-not-in_writable.false) l u)
