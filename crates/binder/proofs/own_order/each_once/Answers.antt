-- `binder::own_order::each_once` meets its contract. Assumes nothing.
use Rattle.std.proofs.Common.{◌≡◌, ◌+◌, ◌-◌, eqb, ◌∙◌, arith, tests, rules}
use Rattle.std.proofs.lemmas.Iterator.{YieldsList-from_range}
use Rattle.std.proofs.lemmas.Iterator.Search.{all_from_yields_List}
use Rattle.model.specs.Order.{times}
use Rattle.binder.proofs.OwnOrderLaws.{every_range, times_counted}
use Rattle.binder.proofs.own_order.each_once.Goals as goal

pub returns : goal.returns
returns c =
    let a = c.args in
    let n : a.libraries + 2 - 2 ≡ a.libraries = omega arith in
    all_from_yields_List (λ k. eqb (times k a.list.now) 1) _ _ _ c.all.ensures.ran (YieldsList-from_range 2 (a.libraries + 2) a.libraries (cc) n) (λ x b q k. search (rules, tests, times_counted))
    ∙ every_range (λ k. eqb (times k a.list.now) 1) 2 a.libraries
