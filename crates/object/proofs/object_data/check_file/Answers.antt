use mathlib.Core.Path.{◌≡◌, sym, ap, ◌∙◌}
use mathlib.Core.List.{List}
use mathlib.Core.Bool.{true, false}
use lib.ListN.{length}
use Rattle.std.specs.Prelude.{Ok, Err}
use Rattle.object.specs.Steps.FirstOf.{FirstOf}
use Rattle.words.specs.Choice.{every}
use Rattle.object.specs.declared.program_header.Segment.{Segment}
use Rattle.object.specs.ProgramHeader.{loads_of}
use Rattle.object.specs.Segments.{segments_ok, span_of}
use Rattle.object.specs.Alignment.{align_ok, align_of}
use Rattle.object.proofs.ListTests.{every_all}
use Rattle.object.proofs.SegmentLaws.{every_address}
use Rattle.object.proofs.PlaceLaws.{many, ok_every, file_seven, file_align, file_checked}
use Rattle.object.proofs.object_data.check_file.Goals as goal

pub returns-in_default : goal.returns-in_default
returns-in_default c =
    let file = c.args.file.now in
    let more : FirstOf 16 (loads_of file) (Err c.in_default.field-0) = rw c.in_default.is at c.read_loads.ensures in
    record { refusal = sym (file_seven file c.requires (many file (loads_of file) more.0)); placed = tt }

pub returns-then-not-segments_ok : goal.returns-then-not-segments_ok
returns-then-not-segments_ok c =
    let file = c.args.file.now in
    let held : FirstOf 16 (loads_of file) (Ok c.in-Ok.loads) = rw c.in-Ok.is at c.read_loads.ensures in
    let e : segments_ok file (loads_of file) ≡ false = rw (← held.1, ← c.deref.ensures.0) (sym c.segments_ok.ensures ∙ c.if-not-segments_ok.true) in
    record { refusal = sym (file_seven file c.requires e); placed = tt }

pub returns-then-not-aligns_ok : goal.returns-then-not-aligns_ok
returns-then-not-aligns_ok c =
    let file = c.args.file.now in
    let held : FirstOf 16 (loads_of file) (Ok c.in-Ok.loads) = rw c.in-Ok.is at c.read_loads.ensures in
    let e : segments_ok file (loads_of file) ≡ true = rw (← held.1, ← c.deref.ensures.0) (sym c.segments_ok.ensures ∙ c.if-not-segments_ok.false) in
    let k : every align_ok (loads_of file) ≡ false = rw (← held.1, ← c.deref-2.ensures.0) (every_all _ _ ∙ (sym c.aligns_ok.ensures ∙ c.if-not-aligns_ok.true)) in
    record { refusal = sym (file_align file c.requires e k); placed = tt }

pub span_of-requires : goal.span_of-requires
span_of-requires c =
    let file = c.args.file.now in
    let held : FirstOf 16 (loads_of file) (Ok c.in-Ok.loads) = rw c.in-Ok.is at c.read_loads.ensures in
    let e : segments_ok file (loads_of file) ≡ true = rw (← held.1, ← c.deref.ensures.0) (sym c.segments_ok.ensures ∙ c.if-not-segments_ok.false) in
    rw (c.deref-3.ensures.0, held.1) (every_address (length file) (loads_of file) (ok_every file (loads_of file) e))

pub returns : goal.returns
returns c =
    let file = c.args.file.now in
    let held : FirstOf 16 (loads_of file) (Ok c.in-Ok.loads) = rw c.in-Ok.is at c.read_loads.ensures in
    let e : segments_ok file (loads_of file) ≡ true = rw (← held.1, ← c.deref.ensures.0) (sym c.segments_ok.ensures ∙ c.if-not-segments_ok.false) in
    let k : every align_ok (loads_of file) ≡ true = rw (← held.1, ← c.deref-2.ensures.0) (every_all _ _ ∙ (sym c.aligns_ok.ensures ∙ c.if-not-aligns_ok.false)) in
    let f = file_checked file c.requires e _ k
    (c.span_of.ensures.0 ∙ ap (λ (ss : List Segment). span_of ss) (c.deref-3.ensures.0 ∙ held.1)) (c.align_of.ensures ∙ ap align_of (c.deref-4.ensures.0 ∙ held.1)) held.1 in
    record { refusal = sym f.passed; placed = f }
