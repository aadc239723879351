use Prim.Native.Nat.{ℕ, ◌+◌, ◌-◌}
use Rattle.object.proofs.CountLaws.{last_stop, last_on, last_out}
use Rattle.object.specs.HashTable.{walk}
use Rattle.object.specs.SymbolCount.{last_reached}
use mathlib.Core.Path.{sym, ap, ◌∙◌}
use native.Mathlib.Omega.{arith}
use Rattle.object.proofs.hash_tables.walk_last.Goals as goal

pub returns-then-is_last : goal.returns-then-is_last
returns-then-is_last c =
    let a = c.args in
    let l = c.loop in
    (sym (l.invariant.3 ∙ last_stop a.image.now a.t l.s l.last (c.fuel_of-end.result - l.counter) c.chain_word-w.result (omega (arith, c.loop-test.true)) c.chain_word-w.ensures (sym c.is_last.ensures ∙ c.if-is_last.true)), omega arith)

pub loop-preserved : goal.loop-preserved
loop-preserved c =
    let a = c.args in
    let l = c.loop in
    let on = last_on a.image.now a.t l.s l.last (c.fuel_of-end.result - l.counter) c.chain_word-w.result (c.fuel_of-end.result - (l.counter + 1)) (omega (arith, c.loop-test.true)) c.chain_word-w.ensures (sym c.is_last.ensures ∙ c.if-is_last.false) in
    (omega arith, omega arith, omega arith, l.invariant.3 ∙ on ∙ ap (λ (x : ℕ). last_reached (walk a.image.now a.t (c.fuel_of-end.result - (l.counter + 1)) x) l.s) (sym c.next_symbol-s.ensures.0))

pub returns : goal.returns
returns c =
    let l = c.loop in
    (rw l.invariant.3 (sym (last_out _ _ l.s l.last (c.fuel_of-end.result - l.counter) (omega (arith, c.loop-test.false)))), omega arith)
