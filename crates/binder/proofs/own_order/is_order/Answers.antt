-- `binder::own_order::is_order` meets its contract. Assumes nothing.
use Rattle.std.proofs.Common.{sym, ◌∙◌, arith, true≢false, ne_eqb}
use Rattle.binder.proofs.OwnOrderLaws.{other_length, order_tests, every_is}
use Rattle.model.specs.Order.{listed}
use Rattle.binder.proofs.own_order.is_order.Goals as goal
use Rattle.binder.proofs.own_order.is_order.Goals.{then-front-libraries, else-front-libraries, then-last-eq1, else-last-eq1}

pub returns-in_default : goal.returns-in_default
returns-in_default c =
    sym (other_length c.args.libraries c.args.order.now (λ e. omega (arith, c.in_default.ensures.cases, e)))

pub returns-then-each_once : goal.returns-then-each_once
returns-then-each_once c =
    elim c.if-last-eq1.branch [
      | then-last-eq1 w ↦
          elim c.if-front-libraries.branch [
            | then-front-libraries v ↦
                rw (order_tests c.args.libraries c.in-Some.last.now c.in-Some.front.now c.in-Some.ensures.cases.0 v.if-front-libraries.true, sym v.value-is ∙ w.if-last-eq1.true, sym w.each_once.ensures ∙ (sym w.value-is ∙ c.if-each_once.true))
                (every_is (listed c.args.libraries) c.in-Some.front.now c.only_libraries.ensures)
            | else-front-libraries v ↦ absurd (true≢false (sym w.if-last-eq1.true ∙ (v.value-is ∙ ne_eqb _ _ v.if-front-libraries.false)))
          ]
      | else-last-eq1 w ↦ absurd (true≢false (sym c.if-each_once.true ∙ (w.value-is ∙ w.if-last-eq1.false)))
    ]

pub returns-else-each_once : goal.returns-else-each_once
returns-else-each_once c =
    elim c.if-front-libraries.branch [
      | then-front-libraries v ↦
          rw (order_tests c.args.libraries c.in-Some.last.now c.in-Some.front.now c.in-Some.ensures.cases.0 v.if-front-libraries.true)
          (elim c.if-last-eq1.branch [
            | then-last-eq1 w ↦ rw (sym v.value-is ∙ w.if-last-eq1.true, sym w.each_once.ensures ∙ (sym w.value-is ∙ c.if-each_once.false)) c.if-each_once.false
            | else-last-eq1 w ↦ rw (sym v.value-is ∙ w.if-last-eq1.false) c.if-each_once.false
          ])
      | else-front-libraries v ↦
          c.if-each_once.false ∙ sym (other_length c.args.libraries c.args.order.now (λ e. v.if-front-libraries.false (omega (arith, c.in-Some.ensures.cases.1, e))))
    ]
