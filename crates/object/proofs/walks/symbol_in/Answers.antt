-- `object::walks::symbol_in` meets its contract. Assumes nothing.
use mathlib.Core.Path.{◌≡◌, sym, ◌∙◌}
use mathlib.Core.Bool.{false}
use Prim.Native.Nat.{◌+◌, ◌*◌, ◌^◌, ◌<◌, ◌≤◌}
use native.Mathlib.Omega.{arith}
use native.Mathlib.Decide.{dec_le}
use borrow.Author.Tests.{le-ltb}
use lib.ListN.{length}
use Rattle.std.proofs.Common.{rules}
use Rattle.words.specs.Names.{name_at}
use Rattle.words.proofs.Choice.{both_false}
use Rattle.object.specs.TableBytes.{is_table, table_bytes, table_name}
use Rattle.object.specs.HashCheck.{symbol_ok}
use Rattle.object.proofs.Ranges.{span_out}
use Rattle.object.proofs.walks.symbol_in.Goals as goal

pub returns-else-max-span : goal.returns-else-max-span
unfolding symbol_ok table_name
returns-else-max-span c =
    let b = c.args.zeros.now.bounds in
    let fits : b.span < 2 ^ 64 = search rules in
    le-ltb _ _ (omega arith) ∙ sym (go (dec_le b.span c.saturating_add-p.result))
  where
    go : Dec (c.args.zeros.now.bounds.span ≤ c.saturating_add-p.result) → symbol_ok (is_table c.args.zeros.now.bounds.span c.args.zeros.now.bounds.segments.now) c.args.zeros.now.image.now c.args.v.symbols c.args.v.strings c.args.s ≡ false
    go (yes l) =
        let b = c.args.zeros.now.bounds in
        rw (span_out b.span b.segments.now (c.args.v.symbols + 24 * c.args.s) 24 (omega arith) (omega arith))
    go (no l) =
        let b = c.args.zeros.now.bounds in
        let fits : b.span < 2 ^ 64 = search rules in
        let p : c.saturating_add-p.result ≡ c.args.v.symbols + 24 * c.args.s = omega arith in
        let q = c.args.v.strings + c.word_at-name.result in
        let w = rw p at c.word_at-name.ensures in
        both_false (table_bytes (is_table b.span b.segments.now) (c.args.v.symbols + 24 * c.args.s) 24) _
        (rw (← w) (span_out b.span b.segments.now q (length (name_at c.args.zeros.now.image.now q) + 1) (omega arith) (omega arith)))

pub returns-then-max-span : goal.returns-then-max-span
unfolding symbol_ok
returns-then-max-span c =
    let b = c.args.zeros.now.bounds in
    let fits : b.span < 2 ^ 64 = search rules in
    let p : c.saturating_add-p.result ≡ c.args.v.symbols + 24 * c.args.s = omega arith in
    let q : c.saturating_add-q.result ≡ c.args.v.strings + c.word_at-name.result = omega arith in
    let w = rw p at c.word_at-name.ensures in
    rw (← w) (rw (p, q) at c.both_in.ensures)
