use mathlib.Core.Path.{sym}
use Rattle.object.proofs.PlaceLaws.{placed_eight, placed_runs}
use Rattle.object.proofs.object_data.place.Goals as goal

pub returns-then-part-checked : goal.returns-then-part-checked
returns-then-part-checked c =
    let a = c.args in
    let e = placed_eight a.host a.file.now a.part.now a.checked.now c.requires c.if-part-checked.true in
    record { refusal = sym e.0; part = e.1 }

pub returns : goal.returns
returns c =
    let a = c.args in
    let e = placed_runs a.host a.file.now a.part.now a.checked.now c.requires c.if-part-checked.false c.place_runs.ensures in
    record { refusal = sym e.0; part = e.1 }
