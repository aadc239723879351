-- `object::hash_tables::highest_bucket` meets its contract. Assumes nothing.
use Rattle.std.proofs.Common.{rules, tests, max, ◌∙◌, arith, ◌<◌, ◌^◌, refl}
use Rattle.std.proofs.lemmas.Iterator.{YieldsList-from_range}
use Rattle.std.proofs.lemmas.Iterator.Consumers.{fold_from_yields_List}
use Rattle.words.specs.Memory.{mem}
use Rattle.words.specs.Words.{le_at}
use Rattle.words.proofs.Words.{le_at_lt}
use Rattle.object.specs.HashTable.{bucket_at}
use Rattle.object.proofs.CountLaws.{highest_fold, highest_cut, highest_of}
use Rattle.object.proofs.hash_tables.highest_bucket.Goals as goal

pub returns : goal.returns
unfolding mem
returns c =
    let a = c.args in
    let e = fold_from_yields_List _ (λ b i. max b (le_at 4 (mem a.image.now) (bucket_at a.t i))) 0 c.fold.result c.fold.ensures.ran
    (YieldsList-from_range 0 c.min-n.result c.min-n.result refl (omega arith)) (λ b x r q k. search (rules, tests)) in
    let h = e ∙ highest_fold a.image.now a.t c.min-n.result in
    (h ∙ highest_cut a.image.now a.t c.min-n.result (rw (← c.bucket_count.ensures) c.min-n.ensures), rw h (highest_of a.image.now a.t (λ n. n < 2 ^ 32) (omega arith) c.min-n.result (λ i l. le_at_lt 4 (mem a.image.now) (bucket_at a.t i) (λ k. search (rules, c.type_inv.image k)))))
