use mathlib.Core.Path.{sym, ◌∙◌}
use mathlib.Core.Bool.{true, false}
use Rattle.object.specs.Refusal.{require}
use Rattle.object.proofs.ReadLaws.{read_left}
use Rattle.object.proofs.dynamic_fields.read_object.Goals as goal

pub returns-then-not-tables_ok : goal.returns-then-not-tables_ok
unfolding require
returns-then-not-tables_ok c =
    let a = c.args in
    record {
      refusal = sym (read_left a.host a.image.now a.loads.now.items a.d _ c.in_ok-object.ensures false (sym c.if-not-tables_ok.true ∙ c.tables_ok.ensures));
      object = tt;
    }

pub returns : goal.returns
unfolding require
returns c =
    let a = c.args in
    record {
      refusal = sym (read_left a.host a.image.now a.loads.now.items a.d _ c.in_ok-object.ensures true (sym c.if-not-tables_ok.false ∙ c.tables_ok.ensures));
      object = c.in_ok-object.ensures.object;
    }
