use Rattle.std.proofs.Common.{◌≡◌, ◌+◌, length, set, sym, refl, ap, ◌∙◌, arith, length-set}
use lib.Seq.{take_all}
use Rattle.words.proofs.Slices.{patch_none, patch_next}
use Rattle.program.proofs.AnswerLaws.{written_part}
use Rattle.program.specs.Program.{word_in}
use Rattle.program.proofs.read_words.Goals as goal

pub loop-i-init : goal.loop-i-init
loop-i-init c = (refl, sym (patch_none c.args.sheet.now 0 (word_in c.args.input.now)))

pub loop-i-preserved : goal.loop-i-preserved
loop-i-preserved c =
    let l = c.loop-i in
    let z : 0 + l.i ≡ l.i = omega arith in
    (simp length-set l.invariant.0, patch_next c.args.sheet.now 0 l.i (word_in c.args.input.now) l.invariant.1 (rw z (ap (set l.sheet l.i) c.word_at.ensures)))

pub returns : goal.returns
returns c =
    let a = c.args in
    let l = c.loop-i in
    let e : l.i ≡ length a.sheet.now = omega arith in
    sym (take_all (length a.sheet.now) l.sheet (omega (arith, l.invariant.0)))
    ∙ written_part a.sheet.now (length a.sheet.now) (word_in a.input.now) (rw e at l.invariant.1) (omega arith)
