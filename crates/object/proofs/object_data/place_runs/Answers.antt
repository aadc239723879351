use mathlib.Core.Bool.{false}
use mathlib.Core.Path.{◌≡◌}
use Rattle.object.specs.Placed.{segments_of, file_refusal}
use Rattle.object.proofs.PlaceLaws.{host_runs, file_every, file_runs}
use Rattle.object.proofs.object_data.place_runs.Goals as goal

pub returns-then-host : goal.returns-then-host
returns-then-host c = rw c.if-host.true (host_runs c.args.file.now c.args.part.now c.copy.ensures)

pub place_segments-requires : goal.place_segments-requires
place_segments-requires c =
    let a = c.args in
    let z : file_refusal false a.file.now ≡ 0 = rw c.if-host.false at c.requires.0 in
    let e : a.segments.now ≡ segments_of false a.file.now = rw c.if-host.false at c.requires.1 in
    file_every a.file.now a.segments.now e z

pub returns : goal.returns
returns c =
    let a = c.args in
    let e : a.segments.now ≡ segments_of false a.file.now = rw c.if-host.false at c.requires.1 in
    rw c.if-host.false (file_runs a.file.now a.segments.now e a.part.now c.place_segments.ensures)
