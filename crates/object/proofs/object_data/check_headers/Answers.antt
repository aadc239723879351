use mathlib.Core.Path.{sym, ap, ◌∙◌}
use Rattle.std.proofs.lemmas.Result.{err_from_is_err_and}
use Rattle.words.specs.Refusal.{refusal_number}
use Rattle.object.proofs.RefusalLaws.{number_some}
use Rattle.object.proofs.PlaceLaws.{refusal_header}
use Rattle.object.proofs.object_data.check_headers.Goals as goal

pub returns-in_err-check_header : goal.returns-in_err-check_header
returns-in_err-check_header c =
    let r = err_from_is_err_and c.from_residual.result c.from_residual.ensures.1 in
    let e = c.in_err-check_header.ensures in
    rw r.1
    (record {
      refusal = ap refusal_number r.2 ∙ (e ∙ sym (refusal_header c.args.host c.args.file.now (λ z. number_some c.in_err-check_header.field-0.0 (e ∙ z))));
      placed = tt;
    })
