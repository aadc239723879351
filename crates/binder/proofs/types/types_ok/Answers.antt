-- `binder::types::types_ok` meets its contract. Assumes nothing.
use Rattle.std.proofs.Common.{◌∙◌, tests, rules, eq-eqb, ne_eqb}
use Rattle.std.proofs.lemmas.Iterator.{YieldsList-from_slice}
use Rattle.std.proofs.lemmas.Iterator.Consumers.{YieldsList-from_enumerate}
use Rattle.std.proofs.lemmas.Iterator.Search.{all_from_yields_List}
use Rattle.object.specs.RelocationTypes.{word_ok, types_ok}
use Rattle.binder.proofs.TypeWords.{words_all}
use Rattle.binder.proofs.types.types_ok.Goals as goal

pub returns-then-types-eq64 : goal.returns-then-types-eq64
unfolding types_ok
returns-then-types-eq64 c =
    rw (eq-eqb _ _ c.if-types-eq64.true)
    (all_from_yields_List (λ p. word_ok p.0 p.1) _ _ _ c.all.ensures.ran (YieldsList-from_enumerate (YieldsList-from_slice c.args.types.now cc) cc) (λ x b q k. search (rules, tests))
    ∙ words_all 0 c.args.types.now)

pub returns-else-types-eq64 : goal.returns-else-types-eq64
unfolding types_ok
returns-else-types-eq64 c =
    rw (ne_eqb _ _ c.if-types-eq64.false)
