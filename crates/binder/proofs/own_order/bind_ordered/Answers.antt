use Rattle.binder.proofs.OwnOrderIs.{ordered_refused, ordered_handed}
use Rattle.binder.specs.Steps.Finished.{finished_of}
use Rattle.binder.specs.Setting.{setting_of}
use Rattle.std.proofs.Common.{◌≡◌, ℕ, length, replicate, sym, ap, ◌∙◌}
use Rattle.binder.proofs.own_order.bind_ordered.Goals as goal

pub returns-in_default : goal.returns-in_default
unfolding finished_of
returns-in_default c =
    let a = c.args in
    let w : length c.fill.new.self ≡ length a.report.now = c.fill.auto.self in
    rw (w, c.new.ensures) at c.finish.ensures
    ∙ ordered_refused (setting_of a.address a.types.now) a.sheet.now a.bytes.now (length a.arena.now) c.of.ensures.is a.policy (length a.report.now) a.order.now c.in_default.is

pub bind_set_ordered-m-requires : goal.bind_set_ordered-m-requires
bind_set_ordered-m-requires c =
    record { two = rw c.in-Ok.is at c.of.ensures.two; cleared = c.fill.ensures.after (λ y e. e) ∙ ap (λ (n : ℕ). replicate n 0) (sym c.fill.auto.self) }

pub returns : goal.returns
returns c =
    let a = c.args in
    let w : length c.fill.new.self ≡ length a.report.now = c.fill.auto.self in
    c.finish-2.ensures
    ∙ (rw w at c.bind_set_ordered-m.ensures
    ∙ ordered_handed (setting_of a.address a.types.now) a.sheet.now a.bytes.now (length a.arena.now) c.of.ensures.is a.policy (length a.report.now) a.order.now c.in-Ok.is)
