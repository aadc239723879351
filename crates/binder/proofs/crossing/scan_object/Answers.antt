use Rattle.std.proofs.Common.{refl, sym, ap, ◌∙◌, arith}
use Rattle.object.specs.Record.{held_by}
use Rattle.binder.specs.Steps.Relocating.{image_in}
use Rattle.binder.specs.Steps.Crossing.{seen_of, entries_by}
use Rattle.binder.proofs.ClaimLaws.{entries_long}
use Rattle.binder.proofs.WalkLaws.{walk_begin, walk_skips, walk_goes, walk_stops, walk_ends}
use Rattle.binder.proofs.crossing.scan_object.Goals as goal
use Rattle.binder.proofs.crossing.scan_object.Goals.{in-Some+else-crosses, in_default}

pub loop-i-init : goal.loop-i-init
loop-i-init c =
    let a = c.args in (
      refl,
      omega arith,
      walk_begin a.walk.now (seen_of a.links.now a.arena.now a.t (held_by a.o.now)) (entries_by (image_in a.arena.now a.t) c.of-r.result),
    )

pub returns-then-crosses : goal.returns-then-crosses
returns-then-crosses c =
    let a = c.args in
    let l = c.loop-i in
    let f = seen_of a.links.now a.arena.now a.t (held_by a.o.now) in
    let long = entries_long (image_in a.arena.now a.t) c.of-r.result in (
      l.invariant.0,
      omega (arith, l.invariant.1, c.loop-i-test.true, c.count-i-end.ensures),
      omega (arith, c.loop-i-test.true, c.count-i-end.ensures),
      rw (← c.of-r.ensures)
          (walk_stops a.walk.now f (entries_by (image_in a.arena.now a.t) c.of-r.result) l.i l.walk l.invariant.2
          (omega (arith, long, c.count-i-end.ensures, c.loop-i-test.true)) c.in-Some.c
          (sym (c.copy_of.ensures ∙ ap f c.entry_at.ensures) ∙ c.in-Some.is) (sym c.crosses.ensures ∙ c.if-crosses.true)),
    )

pub loop-i-preserved : goal.loop-i-preserved
loop-i-preserved c =
    let a = c.args in
    let l = c.loop-i in
    let f = seen_of a.links.now a.arena.now a.t (held_by a.o.now) in
    let es = entries_by (image_in a.arena.now a.t) c.of-r.result in
    let long = entries_long (image_in a.arena.now a.t) c.of-r.result in
    elim c.match-copy_of.branch [
      | in-Some+else-crosses w ↦ (
        rw w.walk-is (w.pass.ensures.same ∙ l.invariant.0),
        rw w.walk-is (omega (arith, l.invariant.1, w.pass.ensures.count)),
        rw w.walk-is
            (walk_goes a.walk.now f es l.i l.walk l.invariant.2 (omega (arith, long, c.count-i-end.ensures, c.loop-i-test.true)) w.in-Some.c
            (sym (c.copy_of.ensures ∙ ap f c.entry_at.ensures) ∙ w.in-Some.is) w.pass.new.self
            (sym w.crosses.ensures ∙ w.if-crosses.false) w.pass.ensures.same w.pass.ensures.count w.pass.ensures.kept),
      )
      | in_default w ↦ (
        rw w.walk-is l.invariant.0,
        rw w.walk-is (omega (arith, l.invariant.1)),
        rw w.walk-is
            (walk_skips a.walk.now f es l.i l.walk l.invariant.2 (omega (arith, long, c.count-i-end.ensures, c.loop-i-test.true))
            (sym (c.copy_of.ensures ∙ ap f c.entry_at.ensures) ∙ w.in_default.is)),
      )
    ]

pub returns : goal.returns
returns c =
    let a = c.args in
    let l = c.loop-i in
    let long = entries_long (image_in a.arena.now a.t) c.of-r.result in (
      l.invariant.0,
      omega (arith, l.invariant.1, c.loop-i.auto.i-end, c.count-i-end.ensures),
      tt,
      rw (← c.of-r.ensures)
          (walk_ends a.walk.now (seen_of a.links.now a.arena.now a.t (held_by a.o.now)) (entries_by (image_in a.arena.now a.t) c.of-r.result) l.i l.walk
          l.invariant.2 (omega (arith, long, c.count-i-end.ensures, c.loop-i-test.false))),
    )
