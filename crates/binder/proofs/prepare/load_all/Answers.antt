use Rattle.std.proofs.Common.{◌≡◌, ◌+◌, ◌*◌, ◌^◌, ◌<◌, ◌≤◌, length, refl, ◌∙◌, arith, rules}
use Rattle.std.proofs.lemmas.Result.{err_from_is_err_and}
use Rattle.words.specs.Refusal.{refusal_number}
use Rattle.binder.specs.declared.Refused.{Refused}
use Rattle.binder.specs.Setting.{setting_at}
use Rattle.binder.proofs.PrepareLaws.{ok_mapped, err_mapped, load_begin, load_fail, load_fits, load_turn, load_finish}
use Rattle.binder.proofs.prepare.load_all.Goals as goal

pub loop-k-init : goal.loop-k-init
loop-k-init c =
    (refl, load_begin _ _ _ _)

pub returns-in_err-s : goal.returns-in_err-s
returns-in_err-s c =
    let a = c.args in
    let l = c.loop-k in
    let p = err_from_is_err_and c.from_residual.result c.from_residual.ensures.1 in
    let q = err_mapped c.load_next.result _ _ c.in_err-s.ensures.cases c.in_err-s.ensures.variant in
    let told : c.in_err-s.field-0.0 ≡ record { number = refusal_number q.0; object = l.k-counter } = search (rules, q.2) in
    rw (p.1, p.2, told)
    (load_fail (setting_at a.address) a.set.now a.arena.now l.arena l.table l.free l.k-counter l.invariant.1 (omega (arith, c.loop-k-test.true, c.len-k-end.ensures.is)) c.load_next.new.arena c.load_next.result
    (rw c.file.ensures at c.load_next.ensures) q.0 q.1 _ refl _)

pub overflow_add-free : goal.overflow_add-free
overflow_add-free c =
    let a = c.args in
    let l = c.loop-k in
    let h : c.in_ok-s.s.offset + c.in_ok-s.s.span < 2 ^ 64 = omega (
      arith,
      c.well_formed,
      l.invariant.1.same,
      load_fits (setting_at a.address) a.set.now a.arena.now l.arena l.table l.free l.k-counter l.invariant.1 (omega (arith, c.loop-k-test.true, c.len-k-end.ensures.is)) c.load_next.new.arena c.load_next.result
          (rw c.file.ensures at c.load_next.ensures) c.in_ok-s.s (ok_mapped Refused c.load_next.result c.in_ok-s.ensures.cases),
    ) in
    record { fits = h }

pub loop-k-preserved : goal.loop-k-preserved
loop-k-preserved c =
    let a = c.args in
    let l = c.loop-k in
    let here : l.k-counter < length a.set.now = omega (arith, c.loop-k-test.true, c.len-k-end.ensures.is) in
    let room : 16 * l.k-counter + 16 ≤ length l.table = omega (arith, here, c.len-k-end.ensures, c.requires.0, l.invariant.0) in (
      c.put_link.auto.table ∙ l.invariant.0,
      load_turn (setting_at a.address) a.set.now a.arena.now l.arena l.table l.free l.k-counter l.invariant.1 here c.load_next.new.arena c.load_next.result
          (rw c.file.ensures at c.load_next.ensures) c.in_ok-s.s (ok_mapped Refused c.load_next.result c.in_ok-s.ensures.cases) c.load_next.auto.arena _
          (c.put_link.ensures.back room) c.put_link.ensures.others (c.put_link.ensures.filtered room),
    )

pub returns : goal.returns
returns c =
    let a = c.args in
    let l = c.loop-k in
    load_finish (setting_at a.address) a.set.now a.arena.now l.arena l.table l.free l.k-counter l.invariant.1 (omega (arith, c.loop-k-test.false, c.len-k-end.ensures.is, l.invariant.1.number)) _
    c.zero.ensures
