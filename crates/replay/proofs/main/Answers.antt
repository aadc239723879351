-- `replay::main` meets its contract. Assumes nothing. The buffers are long, so each fact of them is named here.
use Rattle.std.proofs.Common.{ℕ, sym, length-take-le}
use Rattle.std.proofs.lemmas.List.{length-replicate}
use Rattle.replay.proofs.main.Goals as goal

pub slice_bounds-read_full-end : goal.slice_bounds-read_full-end
slice_bounds-read_full-end c = sym (length-replicate {0} {A = ℕ} 524288 0)

pub slice_bounds-input-end : goal.slice_bounds-input-end
slice_bounds-input-end c = c.in_ok-n.ensures.within

pub slice_bounds-run-end-3 : goal.slice_bounds-run-end-3
slice_bounds-run-end-3 c = sym (length-take-le c.in_ok-n.n c.read_full.new.buf c.in_ok-n.ensures.within)
