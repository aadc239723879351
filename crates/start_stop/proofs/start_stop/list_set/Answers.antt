use Rattle.start_stop.proofs.StartStopIs.{then_refused, order_of_set, then_listed}
use Rattle.binder.proofs.BindIs.{prepare_refused, bind_is}
use Rattle.binder.specs.Setting.{setting_of}
use lib.ListN.{length}
use mathlib.Core.Path.{◌≡◌, refl}
use Rattle.std.proofs.lemmas.Result.{err_from_is_err_and}
use Rattle.start_stop.proofs.start_stop.list_set.Goals as goal

pub returns-in_err-prepare_to_bind : goal.returns-in_err-prepare_to_bind
returns-in_err-prepare_to_bind c =
    let p = err_from_is_err_and c.from_residual.result c.from_residual.ensures.1 in
    rw (p.1, p.2)
    (then_refused (setting_of c.args.address c.args.types.now) c.args.set.now (length c.args.arena.now) c.args.policy (length c.args.report.now) c.prepare_to_bind.result c.prepare_to_bind.new.arena c.args.report.now c.args.start.now c.args.stop.now _ _ c.in_err-prepare_to_bind.was
    (prepare_refused (setting_of c.args.address c.args.types.now) c.args.set.now (length c.args.arena.now) c.args.policy (length c.args.report.now) c.prepare_to_bind.result c.prepare_to_bind.new.arena c.args.report.now c.prepare_to_bind.ensures.made.met _ _ c.in_err-prepare_to_bind.was c.prepare_to_bind.auto.arena refl))

pub returns-in_err-bind_in : goal.returns-in_err-bind_in
returns-in_err-bind_in c =
    let p = err_from_is_err_and c.from_residual-in_err-bind_in.result c.from_residual-in_err-bind_in.ensures.1 in
    rw (p.1, p.2)
    (then_refused (setting_of c.args.address c.args.types.now) c.args.set.now (length c.args.arena.now) c.args.policy (length c.args.report.now) c.bind_in.result c.bind_in.new.arena c.bind_in.new.report c.args.start.now c.args.stop.now _ _ c.in_err-bind_in.was
    (bind_is (setting_of c.args.address c.args.types.now) c.args.set.now c.args.arena.now c.prepare_to_bind.new.arena c.prepare_to_bind.new.table c.prepare_to_bind.result
    c.requires.two c.prepare_to_bind.auto.arena
    c.prepare_to_bind.ensures.made
    c.in_ok-prepare_to_bind.was
    (c.prepare_to_bind.ensures.typed c.in_ok-prepare_to_bind.was)
    c.order_of-order.result.items c.order_of-order.ensures c.args.policy c.args.report.now c.requires.cleared.0 _ _ _ (rw (c.deref.ensures.0, c.of-links.ensures) at c.bind_in.ensures)))

pub list_all-requires : goal.list_all-requires
list_all-requires c = (
  rw (c.deref-2.ensures.0, c.of-links.ensures) (order_of_set (setting_of c.args.address c.args.types.now) c.args.set.now c.args.arena.now c.prepare_to_bind.new.arena c.prepare_to_bind.new.table c.prepare_to_bind.result
      c.requires.two c.prepare_to_bind.auto.arena
      c.prepare_to_bind.ensures.made
      c.in_ok-prepare_to_bind.was
      (c.prepare_to_bind.ensures.typed c.in_ok-prepare_to_bind.was)
      c.order_of-order.result.items c.order_of-order.ensures),
  c.requires.cleared.1,
  c.requires.cleared.2,
)

pub returns : goal.returns
returns c =
    let ks : length c.list_all.new.start ≡ length c.args.start.now = c.list_all.auto.start in
    let kt : length c.list_all.new.stop ≡ length c.args.stop.now = c.list_all.auto.stop in
    rw (ks, kt) at
    (then_listed (setting_of c.args.address c.args.types.now) c.args.set.now c.args.arena.now c.prepare_to_bind.new.arena c.prepare_to_bind.new.table c.prepare_to_bind.result
    c.requires.two c.prepare_to_bind.auto.arena
    c.prepare_to_bind.ensures.made
    c.in_ok-prepare_to_bind.was
    (c.prepare_to_bind.ensures.typed c.in_ok-prepare_to_bind.was)
    c.order_of-order.result.items c.order_of-order.ensures c.read_rows.new.rows (rw c.of-links.ensures at c.read_rows.ensures) c.args.policy c.args.report.now c.requires.cleared.0 _ _ _ (rw (c.deref.ensures.0, c.of-links.ensures) at c.bind_in.ensures) c.in_ok-bind_in.was _ _ c.list_all.result (rw (c.deref-2.ensures.0, c.of-links.ensures) at c.list_all.ensures))
