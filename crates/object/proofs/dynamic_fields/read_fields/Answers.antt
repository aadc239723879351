use mathlib.Core.Path.{◌≡◌, refl, sym, ap, ◌∙◌}
use mathlib.Core.Bool.{Bool, true}
use Rattle.std.specs.Prelude.{Some, None}
use Rattle.std.proofs.lemmas.Result.{err_from_is_err_and}
use Rattle.words.specs.Refusal.{refusal_number, refused_by}
use Rattle.object.proofs.RefusalLaws.{number_some}
use Rattle.object.proofs.ReadLaws.{read_none, read_refused, read_many, read_record}
use Rattle.object.proofs.dynamic_fields.read_fields.Goals as goal

pub returns-in_err-at : goal.returns-in_err-at
returns-in_err-at c =
    let a = c.args in
    let r = err_from_is_err_and c.from_residual.result c.from_residual.ensures.1 in
    let none : a.d ≡ None = c.in_err-at.ensures.ok_part in
    let n : refusal_number r.0 ≡ 9 = ap refusal_number r.2 ∙ (ap refused_by c.in_err-at.ensures.value ∙ rw none) in
    rw r.1 (λ host. rw (none, n) (read_none host a.image.now a.loads.now.items))

pub returns-in_err-check_fields : goal.returns-in_err-check_fields
returns-in_err-check_fields c =
    let a = c.args in
    let r = err_from_is_err_and c.from_residual-in_err-check_fields.result c.from_residual-in_err-check_fields.ensures.1 in
    let some : a.d ≡ Some c.in_ok-at.at = c.in_ok-at.ensures.ok_part in
    rw r.1
    (λ host.
    rw some
    (read_refused host a.image.now a.loads.now.items _ _ c.read_array-needs.ensures _ c.in_err-check_fields.ensures (number_some c.in_err-check_fields.field-0.0))
    ∙ sym (ap refusal_number r.2))

pub returns-in_default : goal.returns-in_default
returns-in_default c =
    let a = c.args in
    let some : a.d ≡ Some c.in_ok-at.at = c.in_ok-at.ensures.ok_part in
    λ host.
    rw some (read_many host a.image.now a.loads.now.items _ _ c.read_array-needs.ensures 0 c.in_ok-check_fields.ensures refl c.in_default.field-0 c.in_default.is)

pub returns : goal.returns
returns c =
    let a = c.args in
    let some : a.d ≡ Some c.in_ok-at.at = c.in_ok-at.ensures.ok_part in
    let e = λ (host : Bool).
    read_record host a.image.now a.loads.now.items _ _ c.read_array-needs.ensures 0 c.in_ok-check_fields.ensures refl c.in-Ok.needed c.in-Ok.is _
    c.object_in.ensures.held
    in
    rw some (record { tables = λ host. (e host).0; object = (e true).1; counts = c.object_in.ensures.counts })
