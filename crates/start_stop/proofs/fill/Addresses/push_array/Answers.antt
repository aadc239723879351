use Rattle.start_stop.proofs.RunLaws.{counted_up}
use Rattle.start_stop.specs.StartStop.{words_of}
use Rattle.words.specs.Memory.{mem}
use Rattle.words.specs.Words.{le_at}
use Rattle.std.proofs.Common.{rules, ◌∙◌, ◌+◌, ◌*◌, ℕ}
use Rattle.start_stop.proofs.fill.Addresses.push_array.Goals as goal

pub returns-clause-pushed : goal.returns-clause-pushed
unfolding words_of
returns-clause-pushed c =
    let a = c.args.array in
    let p = c.extend.ensures.pushed in
    let r = c.map.ensures.runs p.0 p.0.seen p.1 in
    let f : ℕ → ℕ = λ i. le_at 8 (mem c.args.bytes.now) (a.at + 8 * i) in
    rw (r.2.3 f (λ x r q k. (search rules, search rules)) ∙ counted_up r.0 a.count f r.1 (r.2.0 ∙ p.2)) at p.3
