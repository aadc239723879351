-- `scope::links::put_link` meets its contract. Assumes nothing.
use Prim.Native.Nat.{ℕ, ◌+◌, ◌*◌, ◌≤◌, ◌<◌}
use mathlib.Core.List.{List}
use mathlib.Core.Path.{sym, ap, ◌∙◌}
use native.Mathlib.Omega.{arith}
use lib.ListN.{length}
use Rattle.scope.specs.Steps.Links.{spliced}
use Rattle.scope.proofs.LinkLaws.{with_room, with_none, put_all}
use Rattle.scope.proofs.links.put_link.Goals as goal

pub shape_of-table : goal.shape_of-table
shape_of-table c = c.put_words.auto.table

pub returns-then-k-table : goal.returns-then-k-table
returns-then-k-table c =
    let a = c.args in
    let t = a.table.now in
    let room : 16 * a.k + 16 ≤ length t = omega arith in
    let p = put_all t a.k a.s c.words_of-w.ensures.1 (c.put_words.ensures ∙ ap (λ (w : List ℕ). spliced t (16 * a.k) w) c.words_of-w.ensures.0 ∙ sym (with_room t a.k a.s room)) in
    record { same = p.0; back = p.1.0; others = p.1.1.0; filtered = p.1.1.1 }

pub returns-else-k-table : goal.returns-else-k-table
returns-else-k-table c =
    let a = c.args in
    let t = a.table.now in
    let none : length t < 16 * a.k + 16 = omega arith in
    let p = put_all t a.k a.s c.words_of-w.ensures.1 (sym (with_none t a.k a.s none)) in
    record { same = p.0; back = p.1.0; others = p.1.1.0; filtered = p.1.1.1 }
