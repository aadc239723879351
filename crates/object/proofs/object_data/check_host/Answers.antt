use mathlib.Core.Path.{refl, sym}
use Rattle.object.proofs.PlaceLaws.{host_seven, host_checked}
use Rattle.object.proofs.object_data.check_host.Goals as goal

pub returns-then-file-ne0 : goal.returns-then-file-ne0
returns-then-file-ne0 c = record { refusal = sym (host_seven c.args.file.now c.requires c.if-file-ne0.true); placed = tt }

pub returns : goal.returns
returns c =
    let k = host_checked c.args.file.now c.requires _ c.if-file-ne0.false refl refl c.new.ensures in
    record { refusal = sym k.passed; placed = k }
