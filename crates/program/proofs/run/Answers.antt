-- `program::run` meets its contract. Assumes nothing.
use Rattle.program.specs.Program.{arena_bytes, report_words, program_of, lines_of, written, print}
use lib.ListN.{length, replicate, length-replicate}
use mathlib.Core.List.{List}
use mathlib.Core.Path.{◌≡◌, ap, ◌∙◌}
use Prim.Native.Nat.{ℕ}
use Rattle.program.proofs.run.Goals as goal

pub returns : goal.returns
unfolding program_of
returns c =
    let out = c.args.out.now in
    let bytes : length {A = ℕ} (replicate arena_bytes 0) ≡ arena_bytes = length-replicate {A = ℕ} arena_bytes 0 in
    let words : length {A = ℕ} (replicate report_words 0) ≡ report_words = length-replicate {A = ℕ} report_words 0 in
    c.print_answer.ensures
    ∙ ap (λ (l : List ℕ). print (written out 0) l) (rw (bytes, words) at (ap lines_of c.bind_input-answer.ensures))
