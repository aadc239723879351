-- `binder::prepare::load_next` meets its contract. Assumes nothing.
use Rattle.std.proofs.Common.{ap, ◌∙◌, arith}
use Rattle.std.proofs.lemmas.Result.{err_from_is_err_and}
use Rattle.words.specs.Refusal.{refusal_number}
use Rattle.binder.specs.Setting.{setting_at}
use Rattle.binder.specs.Instance.{File}
use Rattle.binder.proofs.OffsetLaws.{offset_after}
use Rattle.binder.proofs.PrepareLaws.{next_headers, next_align, next_is, next_eight, next_loaded}
use Rattle.binder.proofs.prepare.load_next.Goals as goal

pub returns-in_err-checked : goal.returns-in_err-checked
returns-in_err-checked c =
    let a = c.args in
    let f : File = record { host = a.host; bytes = a.file.now } in
    let r = err_from_is_err_and c.from_residual.result c.from_residual.ensures.1 in
    rw r.1 (next_headers (setting_at a.address) f a.free a.arena.now r.0 (ap refusal_number r.2 ∙ c.in_err-checked.ensures.refusal) a.arena.now)

pub offset_of-off-requires : goal.offset_of-off-requires
offset_of-off-requires c =
    let a = c.args in
    let f : File = record { host = a.host; bytes = a.file.now } in
    let b = next_align (setting_at a.address) f a.free a.arena.now c.in_ok-checked.checked c.in_ok-checked.ensures.placed in
    (omega (arith, c.requires.0, c.requires.2), omega (arith, c.requires.0, c.requires.1), b.0, b.1)

pub returns-then-arena-off : goal.returns-then-arena-off
returns-then-arena-off c =
    let a = c.args in
    let f : File = record { host = a.host; bytes = a.file.now } in
    let k = c.in_ok-checked in
    let e = next_is (setting_at a.address) f a.free a.arena.now k.checked k.ensures.placed c.offset_of-off.ensures in
    next_eight (setting_at a.address) f a.free a.arena.now k.checked k.ensures.placed _ e c.requires.0 c.if-arena-off.true a.arena.now

pub overflow_sub-off : goal.overflow_sub-off
overflow_sub-off c =
    let a = c.args in
    let f : File = record { host = a.host; bytes = a.file.now } in
    let k = c.in_ok-checked in
    let e = next_is (setting_at a.address) f a.free a.arena.now k.checked k.ensures.placed c.offset_of-off.ensures in
    omega (arith, e, offset_after (setting_at a.address) f a.free)

pub load_at-requires : goal.load_at-requires
load_at-requires c = (omega (arith, c.if-arena-off.false, c.zero.auto.s), c.in_ok-checked.ensures.placed)

pub returns : goal.returns
returns c =
    let a = c.args in
    let f : File = record { host = a.host; bytes = a.file.now } in
    let k = c.in_ok-checked in
    let e = next_is (setting_at a.address) f a.free a.arena.now k.checked k.ensures.placed c.offset_of-off.ensures in
    next_loaded (setting_at a.address) f a.free a.arena.now _ e _ _ c.zero.ensures c.load_at.result c.load_at.ensures
