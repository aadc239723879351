use Rattle.std.proofs.Common.{◌≡◌, sym, ◌∙◌, arith, length, eq-eqb}
use Rattle.words.proofs.NameLaws.{name_none, name_short, same_lengths, from_more, from_other, from_end, from_rest}
use Rattle.words.proofs.names.starts_as.Goals as goal
use Rattle.words.proofs.names.starts_as.Goals.{then-rest-i-via-then-rest-i, then-rest-i-via-else-rest-i+then-b-eq0}

pub returns-then-rest-name : goal.returns-then-rest-name
returns-then-rest-name c = sym (same_lengths _ _ (λ e. omega (arith, e, name_short c.args.rest.now)))

pub returns-then-rest-i : goal.returns-then-rest-i
returns-then-rest-i c =
    let l = c.loop-i in
    sym (l.invariant ∙ from_other _ _ l.i (omega arith) (omega arith) (λ e. elim c.then-rest-i.branch [ then-rest-i-via-then-rest-i w ↦ absurd (w.if-rest-i.true e) | then-rest-i-via-else-rest-i+then-b-eq0 w ↦ w.if-b-eq0.true ]))

pub loop-i-preserved : goal.loop-i-preserved
loop-i-preserved c =
    let l = c.loop-i in
    l.invariant ∙ from_more _ _ l.i (omega arith) (omega arith) c.if-rest-i.false c.if-b-eq0.false

pub returns-then-rest-name-2 : goal.returns-then-rest-name-2
returns-then-rest-name-2 c =
    let l = c.loop-i in
    eq-eqb _ _ c.if-rest-name-2.true ∙ sym (l.invariant ∙ from_end _ _ l.i (omega arith) (name_none _ l.i (omega arith)))

pub returns-else-rest-name-2 : goal.returns-else-rest-name-2
returns-else-rest-name-2 c =
    let a = c.args in
    let l = c.loop-i in
    let e : l.i ≡ length a.name.now = omega arith in
    sym (rw e at l.invariant ∙ from_rest a.rest.now a.name.now (length a.name.now) (omega arith) (omega arith))
