use mathlib.Core.Path.{sym, ap, ◌∙◌}
use lib.Seq.{length-take-le}
use Rattle.std.proofs.lemmas.Result.{err_from_is_err_and}
use Rattle.words.specs.Refusal.{refusal_number}
use Rattle.object.proofs.LoadedLaws.{load_refused, load_fits, load_read}
use Rattle.object.proofs.object_data.load.Goals as goal

pub returns-in_err-place : goal.returns-in_err-place
returns-in_err-place c =
    let a = c.args in
    let r = err_from_is_err_and c.from_residual.result c.from_residual.ensures.1 in
    rw r.1 (load_refused a.host a.file.now a.part.now c.place.new.part r.0 (ap refusal_number r.2 ∙ c.in_err-place.ensures.refusal) c.place.ensures.part)

pub slice_bounds-read_object-end : goal.slice_bounds-read_object-end
slice_bounds-read_object-end c =
    let a = c.args in
    load_fits a.host a.file.now a.part.now c.place.new.part a.checked.now c.requires (sym c.in_ok-place.ensures.refusal) c.place.ensures.part

pub slice_bounds-read_object-end-2 : goal.slice_bounds-read_object-end-2
slice_bounds-read_object-end-2 c =
    let a = c.args in
    sym (length-take-le a.checked.now.span c.place.new.part (load_fits a.host a.file.now a.part.now c.place.new.part a.checked.now c.requires (sym c.in_ok-place.ensures.refusal) c.place.ensures.part))

pub returns : goal.returns
returns c =
    let a = c.args in
    load_read a.host a.file.now a.part.now c.place.new.part a.checked.now c.requires (sym c.in_ok-place.ensures.refusal) c.place.ensures.part _ _ c.dynamic_at-d.ensures
    c.read_object.ensures
