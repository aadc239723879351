use Rattle.start_stop.proofs.ListLaws.{put_both}
use Rattle.start_stop.proofs.RunLaws.{counted_down}
use Rattle.start_stop.specs.StartStop.{stops_of, words_of}
use Rattle.words.specs.Memory.{mem}
use Rattle.words.specs.Words.{le_at}
use Rattle.std.proofs.Common.{rules, sym, ap, map, ◌∙◌, ◌+◌, ◌*◌, ℕ}
use Rattle.start_stop.proofs.fill.Addresses.push_stops.Goals as goal

pub returns-clause-pushed : goal.returns-clause-pushed
unfolding stops_of words_of
returns-clause-pushed c =
    let a = c.row-row.result.finis in
    let p = c.extend.ensures.pushed in
    let r = c.map.ensures.runs p.0 p.0.seen p.1 in
    let s = c.rev.ensures.runs r.0 r.0.seen r.1 in
    let f : ℕ → ℕ = λ i. le_at 8 (mem c.bytes-bytes.result.now) (a.at + 8 * i) in
    let e = r.2.3 f (λ x r q k. (search rules, search rules)) ∙ (ap (map f) (sym s.2.0.1) ∙ counted_down s.0 a.count f s.1 (s.2.1 ∙ (r.2.0 ∙ p.2))) in
    put_both (rw (e, c.bytes-bytes.ensures, c.row-row.ensures) at p.3) (rw (c.base.ensures, c.row-row.ensures) at c.push_function.ensures.pushed)
