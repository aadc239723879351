use Rattle.start_stop.proofs.StartStopIs.{sheet_refused, sheet_listed}
use Rattle.start_stop.specs.Steps.Listed.{finished_of}
use Rattle.binder.specs.Setting.{setting_of}
use lib.ListN.{length}
use mathlib.Core.Path.{◌≡◌, ◌∙◌}
use Rattle.start_stop.proofs.start_stop.start_stop.Goals as goal

pub returns-in_default : goal.returns-in_default
unfolding finished_of
returns-in_default c =
    let a = c.args in
    let wr : length c.fill.new.self ≡ length a.report.now = c.fill.auto.self in
    let ws : length c.fill-2.new.self ≡ length a.start.now = c.fill-2.auto.self in
    let wt : length c.fill-3.new.self ≡ length a.stop.now = c.fill-3.auto.self in
    rw (wr, ws, wt, c.new.ensures) at c.finish.ensures
    ∙ sheet_refused (setting_of a.address a.types.now) a.sheet.now a.bytes.now (length a.arena.now) c.of.ensures.is a.policy (length a.report.now) (length a.start.now) (length a.stop.now) c.in_default.is

pub returns : goal.returns
returns c =
    let a = c.args in
    let wr : length c.fill.new.self ≡ length a.report.now = c.fill.auto.self in
    let ws : length c.fill-2.new.self ≡ length a.start.now = c.fill-2.auto.self in
    let wt : length c.fill-3.new.self ≡ length a.stop.now = c.fill-3.auto.self in
    c.finish-2.ensures
    ∙ (rw (wr, ws, wt) at c.list_set-l.ensures
    ∙ sheet_listed (setting_of a.address a.types.now) a.sheet.now a.bytes.now (length a.arena.now) c.of.ensures.is a.policy (length a.report.now) (length a.start.now) (length a.stop.now) c.in-Ok.is)
