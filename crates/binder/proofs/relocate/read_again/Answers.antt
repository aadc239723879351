-- `binder::relocate::read_again` meets its contract. Assumes nothing.
use Rattle.std.proofs.Common.{◌≡◌, false, sym, ap, ◌∙◌}
use Rattle.std.specs.Prelude.{None}
use Rattle.std.specs.Result.{result_ok}
use Rattle.std.proofs.lemmas.Result.{err_from_is_err_and}
use Rattle.words.specs.Refusal.{refusal_number, refused_by}
use Rattle.object.specs.ProgramHeader.{loads_of, dynamic_of}
use Rattle.object.specs.Record.{ReadBy}
use Rattle.object.proofs.FirstLaws.{first_all, first_more}
use Rattle.binder.proofs.RunLaws.{again_many, again_read}
use Rattle.binder.proofs.relocate.read_again.Goals as goal

pub returns-in_err-loads : goal.returns-in_err-loads
returns-in_err-loads c =
    let a = c.args in
    let r = err_from_is_err_and c.from_residual.result c.from_residual.ensures.1 in
    let none : result_ok c.read_loads.result ≡ None = sym c.ok.ensures.value ∙ c.in_err-loads.ensures.ok_part in
    let n : refusal_number r.0 ≡ 7 = ap refusal_number r.2 ∙ (ap refused_by c.in_err-loads.ensures.value ∙ rw (c.ok.ensures.value, none)) in
    rw r.1 (record { refusal = n ∙ sym (again_many a.image.now a.file.now (first_more 16 (loads_of a.file.now) _ c.read_loads.ensures none)); object = tt })

pub returns : goal.returns
returns c =
    let a = c.args in
    let held = first_all 16 (loads_of a.file.now) _ _ c.read_loads.ensures (sym c.ok.ensures.value ∙ c.in_ok-loads.ensures.ok_part) in
    let read : ReadBy false a.image.now (loads_of a.file.now) (dynamic_of a.file.now) c.read_object.result = rw (held.1, c.dynamic_at-d.ensures) at c.read_object.ensures in
    record { refusal = again_read a.image.now a.file.now held.0 _ read; object = read.object }
