-- `sheet::sheet::libs_ok` meets its contract. Assumes nothing.
use Rattle.std.proofs.Common.{rules, tests, get_or, ◌∙◌}
use Rattle.std.specs.Slice.Iter.{chunks_exact_steps}
use Rattle.std.proofs.lemmas.Iterator.{YieldsList}
use Rattle.std.proofs.lemmas.Iterator.Search.{all_from_yields_List}
use Rattle.sheet.specs.Sheet.{pair_ok}
use Rattle.sheet.proofs.SheetLaws.{pairs, chunks_yield, libs_pairs, libs_odd}
use Rattle.sheet.proofs.sheet.libs_ok.Goals as goal

pub returns-then-libraries-eq0 : goal.returns-then-libraries-eq0
returns-then-libraries-eq0 c =
    let ws = c.args.libraries.now in
    let f = c.chunks_exact.ensures in
    let y : YieldsList chunks_exact_steps (λ x. x.now) c.chunks_exact.result (pairs ws) = record { runs = chunks_yield ws _ f.rest f.size } in
    let e = all_from_yields_List (λ p. pair_ok (get_or p 0 0) (get_or p 1 0)) _ _ c.all.result c.all.ensures.ran y (λ x b q k. search (rules, tests)) in
    e ∙ libs_pairs ws c.if-libraries-eq0.true

pub returns-else-libraries-eq0 : goal.returns-else-libraries-eq0
returns-else-libraries-eq0 c = rw (libs_odd c.args.libraries.now c.if-libraries-eq0.false) (search (rules, c.if-libraries-eq0.false))
