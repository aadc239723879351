-- `export::store` meets its contract. Assumes nothing.
use mathlib.Core.Path.{◌≡◌}
use lib.ListN.{length, replicate}
use Rattle.export.proofs.Fitted.{words_fitted}
use Rattle.export.proofs.store.Goals as goal

pub returns : goal.returns
returns c =
    let zeros : c.fill.new.self ≡ replicate (length c.args.answer.now) 0 = c.fill.ensures.after (λ y h. h) in
    rw (zeros, c.copy_from_slice.ensures.after) (words_fitted (length c.args.answer.now) c.args.words.now c.min-n.result c.min-n.ensures)
