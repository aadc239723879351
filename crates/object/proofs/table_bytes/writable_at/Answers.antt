-- `object::table_bytes::writable_at` meets its contract. Assumes nothing.
use Rattle.std.proofs.Common.{rules, tests, arith, sym, ap, ◌∙◌}
use Rattle.std.specs.Option.{option_map}
use Rattle.std.proofs.lemmas.Iterator.{YieldsList-from_slice}
use Rattle.std.proofs.lemmas.Iterator.Search.{find_from_yields_List}
use Rattle.words.specs.Choice.{both}
use Rattle.object.specs.TableBytes.{is_writable, holds_range}
use Rattle.object.proofs.Ranges.{range_found}
use Rattle.object.proofs.table_bytes.writable_at.Goals as goal

pub returns : goal.returns
returns c =
    let a = c.args in
    let e = find_from_yields_List (λ s. both (is_writable s) (holds_range s a.at a.n)) _ _ c.find.result c.find.ensures.ran (YieldsList-from_slice a.b.segments.now (search rules)) (λ x b q k. search (rules, tests)) in
    let is = sym e ∙ ap (option_map (λ s. s.now)) c.in_ok-s.was in
    range_found a.b.segments.now a.at a.n c.in_ok-s.s.now c.saturating_add.result is (omega (arith, c.saturating_add.ensures))
