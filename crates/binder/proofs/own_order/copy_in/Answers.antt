-- `binder::own_order::copy_in` meets its contract. Assumes nothing.
use Rattle.std.proofs.Common.{◌≡◌, ◌-◌, ◌∙◌, arith, tests, rules}
use Rattle.std.proofs.lemmas.Iterator.{YieldsList-from_range}
use Rattle.std.proofs.lemmas.Iterator.Search.{any_from_yields_List}
use Rattle.object.specs.Entries.{rela_at}
use Rattle.binder.specs.OwnOrder.{is_copy}
use Rattle.binder.proofs.OwnOrderLaws.{some_range}
use Rattle.binder.proofs.own_order.copy_in.Goals as goal

pub returns : goal.returns
returns c =
    let a = c.args in
    let n : a.n - 0 ≡ a.n = omega arith in
    any_from_yields_List (λ i. is_copy (rela_at a.image.now a.at i)) _ _ _ c.any.ensures.ran (YieldsList-from_range 0 a.n a.n (cc) n) (λ x b q k. search (rules, tests))
    ∙ some_range a.image.now a.at is_copy 0 a.n
