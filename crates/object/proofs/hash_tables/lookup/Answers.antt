use native.Mathlib.Numerals.{unary_clauses}
use Prim.Native.Nat.{ℕ, ◌+◌, ◌-◌}
use Rattle.object.proofs.FindLaws.{find_here, find_last, find_on, find_out, find_not, find_empty, find_start, held_buckets}
use Rattle.object.specs.HashTable.{first_in, is_exported_hit, walk}
use mathlib.Core.Path.{sym, ap, ◌∙◌}
use native.Mathlib.Omega.{arith}
use Rattle.object.proofs.hash_tables.lookup.Goals as goal

pub returns-then-not-may_hold : goal.returns-then-not-may_hold
returns-then-not-may_hold c =
    let a = c.args in
    (sym (find_not a.image.now a.v.symbols a.v.strings a.v.table a.name.now a.gnu a.elf (sym c.may_hold.ensures ∙ c.if-not-may_hold.true)), tt)

pub bucket_of-requires : goal.bucket_of-requires
bucket_of-requires c = held_buckets _ _ _ (sym c.may_hold.ensures ∙ c.if-not-may_hold.false)

pub returns-then-b-eq0 : goal.returns-then-b-eq0
returns-then-b-eq0 c =
    let a = c.args in
    let e = rw c.bucket_of.ensures.0 at c.bucket_word-b.ensures in
    (sym (find_empty a.image.now a.v.symbols a.v.strings a.v.table a.name.now a.gnu a.elf (sym c.may_hold.ensures ∙ c.if-not-may_hold.false) (sym e ∙ c.if-b-eq0.true)), tt)

pub loop-init : goal.loop-init
loop-init c =
    let a = c.args in
    let e = rw c.bucket_of.ensures.0 at c.bucket_word-b.ensures in
    (omega arith, omega arith, simp unary_clauses (find_start a.image.now a.v.symbols a.v.strings a.v.table a.name.now a.gnu a.elf c.bucket_word-b.result c.fuel_of-end.result c.fuel_of-end.ensures.0 (sym c.may_hold.ensures ∙ c.if-not-may_hold.false) e c.if-b-eq0.false))

pub returns-then-accepts : goal.returns-then-accepts
returns-then-accepts c =
    let a = c.args in
    let l = c.loop in
    (sym (l.invariant.2 ∙ find_here a.image.now a.v.table _ l.s (c.fuel_of-end.result - l.counter) (omega (arith, c.loop-test.true)) (sym c.accepts.ensures ∙ c.if-accepts.true)), omega arith)

pub returns-then-is_last : goal.returns-then-is_last
returns-then-is_last c =
    let a = c.args in
    let l = c.loop in
    (sym (l.invariant.2 ∙ find_last a.image.now a.v.table _ l.s (c.fuel_of-end.result - l.counter) c.chain_word-w.result (omega (arith, c.loop-test.true)) c.chain_word-w.ensures (sym c.accepts.ensures ∙ c.if-accepts.false) (sym c.is_last.ensures ∙ c.if-is_last.true)), tt)

pub loop-preserved : goal.loop-preserved
loop-preserved c =
    let a = c.args in
    let l = c.loop in
    let on = find_on a.image.now a.v.table _ l.s (c.fuel_of-end.result - l.counter) c.chain_word-w.result (c.fuel_of-end.result - (l.counter + 1)) (omega (arith, c.loop-test.true)) c.chain_word-w.ensures (sym c.accepts.ensures ∙ c.if-accepts.false) (sym c.is_last.ensures ∙ c.if-is_last.false) in
    (omega arith, omega arith, l.invariant.2 ∙ on ∙ ap (λ (x : ℕ). first_in (is_exported_hit a.image.now a.v.symbols a.v.strings a.v.table a.name.now a.gnu) (walk a.image.now a.v.table (c.fuel_of-end.result - (l.counter + 1)) x)) (sym c.next_symbol-s.ensures.0))

pub returns : goal.returns
returns c =
    let l = c.loop in
    (rw l.invariant.2 (sym (find_out _ _ _ l.s (c.fuel_of-end.result - l.counter) (omega (arith, c.loop-test.false)))), tt)
