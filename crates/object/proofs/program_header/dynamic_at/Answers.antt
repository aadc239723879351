-- `object::program_header::dynamic_at` meets its contract. Assumes nothing.
use Rattle.std.proofs.Common.{rules, tests, arith, ◌≡◌, ◌∙◌, sym, ap, ℕ}
use Rattle.std.specs.Prelude.{None}
use Rattle.std.specs.Option.{option_map}
use Rattle.std.specs.List.{find}
use Rattle.std.specs.Iterator.Adapters.{rev_steps}
use Rattle.std.specs.declared.ops.Range.{Range}
use Rattle.std.proofs.iter.runs.Sources.{nat_range_steps_back}
use Rattle.std.proofs.lemmas.Iterator.{YieldsList}
use Rattle.std.proofs.lemmas.Iterator.Search.{find_from_yields_List}
use Rattle.object.specs.ProgramHeader.{segment_at}
use Rattle.object.proofs.LastHeader.{down_from, dynamic, back_yields, last_is, last_below}
use Rattle.object.proofs.program_header.dynamic_at.Goals as goal

pub returns-in_err-i : goal.returns-in_err-i
returns-in_err-i c =
    let file = c.args.file.now in
    let n = c.header_count.result in
    let s = c.rev.ensures.source in
    let y : YieldsList (rev_steps nat_range_steps_back) (λ x. x) c.rev.result (down_from n) =
    record { runs = back_yields n _ (ap (λ (r : Range ℕ). r.start) s) (ap (λ (r : Range ℕ). r.end) s) } in
    let e = find_from_yields_List (dynamic file) _ _ c.find.result c.find.ensures.ran y (λ x b q k. search (rules, tests)) in
    let f : find (dynamic file) (down_from n) ≡ None = sym e ∙ ap (option_map (λ x. x)) c.in_err-i.was in
    rw (← c.header_count.ensures.0) (search rules ∙ (ap (option_map (λ i. (segment_at file i).vaddr)) (sym f) ∙ last_is file n))

pub segment_at-requires : goal.segment_at-requires
segment_at-requires c =
    let file = c.args.file.now in
    let n = c.header_count.result in
    let s = c.rev.ensures.source in
    let y : YieldsList (rev_steps nat_range_steps_back) (λ x. x) c.rev.result (down_from n) =
    record { runs = back_yields n _ (ap (λ (r : Range ℕ). r.start) s) (ap (λ (r : Range ℕ). r.end) s) } in
    let e = find_from_yields_List (dynamic file) _ _ c.find.result c.find.ensures.ran y (λ x b q k. search (rules, tests)) in
    let l = last_below file n c.in_ok-i.i (sym e ∙ ap (option_map (λ x. x)) c.in_ok-i.was) in
    (c.table_start-start.ensures, omega (arith, l, c.header_count.ensures))

pub returns : goal.returns
returns c =
    let file = c.args.file.now in
    let n = c.header_count.result in
    let s = c.rev.ensures.source in
    let y : YieldsList (rev_steps nat_range_steps_back) (λ x. x) c.rev.result (down_from n) =
    record { runs = back_yields n _ (ap (λ (r : Range ℕ). r.start) s) (ap (λ (r : Range ℕ). r.end) s) } in
    let e = find_from_yields_List (dynamic file) _ _ c.find.result c.find.ensures.ran y (λ x b q k. search (rules, tests)) in
    let f = sym e ∙ ap (option_map (λ x. x)) c.in_ok-i.was in
    rw (c.segment_at.ensures, ← c.header_count.ensures.0) (ap (option_map (λ i. (segment_at file i).vaddr)) (sym f) ∙ last_is file n)
