-- `object::hash_tables::shr` meets its contract. Assumes nothing.
use mathlib.Core.Path.{sym}
use native.Mathlib.Omega.{arith}
use borrow.Author.Rules.{rules}
use Rattle.object.proofs.FindLaws.{shifted_out}
use Rattle.object.proofs.hash_tables.shr.Goals as goal

pub returns : goal.returns
returns c =
    sym (shifted_out c.args.h c.args.shift (search rules) (omega arith))
