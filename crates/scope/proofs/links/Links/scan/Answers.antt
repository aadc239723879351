-- `scope::links::Links::scan` meets its contract. Assumes nothing.
use Rattle.std.proofs.Common.{sym, ◌∙◌, arith}
use Rattle.words.specs.Hash.{elf_hash}
use Rattle.scope.specs.Steps.Links.{count_in, address_in}
use Rattle.scope.proofs.ScopeLaws.{scan_hit, scan_miss, scan_end, pass, link_any}
use Rattle.scope.proofs.links.Links.scan.Goals as goal

pub loop-k-preserved-then-ruled_out : goal.loop-k-preserved-then-ruled_out
loop-k-preserved-then-ruled_out c =
    let a = c.args in
    let k = c.loop-k.k in (
      c.loop-k.invariant.0,
      sym (pass (address_in a.self.now) a.arena.now a.self.now a.name.now a.gnu (elf_hash a.name.now) k (count_in a.self.now) (c.ruled_out.ensures c.if-ruled_out.true))
          ∙ c.loop-k.invariant.1,
    )

pub returns-then-is_some : goal.returns-then-is_some
returns-then-is_some c =
    let a = c.args in
    let k = c.loop-k.k in
    let e = elf_hash a.name.now in
    let here = c.link_answer-found.ensures ∙ link_any a.arena.now a.self.now k a.name.now a.gnu c.elf_for-elf.result e c.elf_for-elf.ensures.asked (address_in a.self.now) in
    scan_hit (address_in a.self.now) a.arena.now a.self.now a.name.now a.gnu e k (count_in a.self.now) (omega (arith, c.count-k-end.ensures, c.loop-k-test.true)) here (sym c.is_some.ensures ∙ c.if-is_some.true) c.loop-k.invariant.1

pub loop-k-preserved : goal.loop-k-preserved
loop-k-preserved c =
    let a = c.args in
    let k = c.loop-k.k in
    let e = elf_hash a.name.now in
    let here = c.link_answer-found.ensures ∙ link_any a.arena.now a.self.now k a.name.now a.gnu c.elf_for-elf.result e c.elf_for-elf.ensures.asked (address_in a.self.now) in (
      c.elf_for-elf.ensures.made,
      scan_miss (address_in a.self.now) a.arena.now a.self.now a.name.now a.gnu e k (count_in a.self.now) (omega (arith, c.count-k-end.ensures, c.loop-k-test.true)) here (sym c.is_some.ensures ∙ c.if-is_some.false) c.loop-k.invariant.1,
    )

pub returns : goal.returns
returns c =
    let a = c.args in
    scan_end (address_in a.self.now) a.arena.now a.self.now a.name.now a.gnu (elf_hash a.name.now) c.loop-k.k (count_in a.self.now) (omega (arith, c.count-k-end.ensures, c.loop-k-test.false)) c.loop-k.invariant.1
