-- `binder::bind::bind` meets its contract. Assumes nothing.
use Rattle.std.proofs.Common.{◌≡◌, ℕ, length, replicate, sym, ap, ◌∙◌}
use Rattle.binder.specs.Setting.{setting_of}
use Rattle.binder.specs.Steps.Finished.{finished_of}
use Rattle.binder.proofs.BindIs.{bind_refused, bind_handed}
use Rattle.binder.proofs.bind.bind.Goals as goal

pub shape_of-arena-in_default : goal.shape_of-arena-in_default
shape_of-arena-in_default c =
    c.finish.auto.arena

pub shape_of-report-in_default : goal.shape_of-report-in_default
shape_of-report-in_default c =
    c.finish.auto.report ∙ c.fill.auto.self

pub returns-in_default : goal.returns-in_default
unfolding finished_of
returns-in_default c =
    let a = c.args in
    let w : length c.fill.new.self ≡ length a.report.now = c.fill.auto.self in
    rw (w, c.new.ensures) at c.finish.ensures
    ∙ bind_refused (setting_of a.address a.types.now) a.sheet.now a.bytes.now (length a.arena.now) c.of.ensures.is a.policy (length a.report.now) c.in_default.is

pub bind_set-m-requires : goal.bind_set-m-requires
bind_set-m-requires c =
    record { two = rw c.in-Ok.is at c.of.ensures.two; cleared = c.fill.ensures.after (λ y e. e) ∙ ap (λ (n : ℕ). replicate n 0) (sym c.fill.auto.self) }

pub shape_of-arena : goal.shape_of-arena
shape_of-arena c =
    c.finish-2.auto.arena ∙ c.bind_set-m.auto.arena

pub shape_of-report : goal.shape_of-report
shape_of-report c =
    c.finish-2.auto.report ∙ c.bind_set-m.auto.report ∙ c.fill.auto.self

pub returns : goal.returns
returns c =
    let a = c.args in
    let w : length c.fill.new.self ≡ length a.report.now = c.fill.auto.self in
    c.finish-2.ensures
    ∙ (rw w at c.bind_set-m.ensures
    ∙ bind_handed (setting_of a.address a.types.now) a.sheet.now a.bytes.now (length a.arena.now) c.of.ensures.is a.policy (length a.report.now) c.in-Ok.is)
