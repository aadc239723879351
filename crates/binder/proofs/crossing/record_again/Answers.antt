-- `binder::crossing::record_again` meets its contract. Assumes nothing.
use Rattle.std.proofs.Common.{◌≡◌, ◌≤◌, length, arith}
use Rattle.object.specs.ProgramHeader.{loads_of, dynamic_of}
use Rattle.object.specs.Steps.FieldsRead.{FieldsRead}
use Rattle.binder.specs.Steps.Relocating.{image_in}
use Rattle.binder.proofs.RunLaws.{again_many, fields_or_default}
use Rattle.binder.proofs.crossing.record_again.Goals as goal

pub returns-in_default : goal.returns-in_default
returns-in_default c =
    λ z. let e = again_many (image_in c.args.arena.now c.args.t) c.args.file.now c.in_default.ensures.0 in absurd (omega (arith, e, z))

pub returns : goal.returns
returns c =
    let a = c.args in
    let held : (length (loads_of a.file.now) ≤ 16) × (c.in-Ok.loads.items ≡ loads_of a.file.now) = c.in-Ok.ensures in
    let read : FieldsRead (image_in a.arena.now a.t) (loads_of a.file.now) (dynamic_of a.file.now) c.read_fields.result =
    rw (← c.image_of-image.ensures, ← held.1, ← c.dynamic_at-d.ensures) c.read_fields.ensures
    in
    fields_or_default (image_in a.arena.now a.t) a.file.now held.0 c.read_fields.result read _ c.unwrap_or_default.result c.unwrap_or_default.ensures
