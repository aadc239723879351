use mathlib.Core.Path.{sym, ◌∙◌}
use borrow.Author.Tests.{eqb-true}
use Rattle.object.proofs.FirstLaws.{first_full, first_over}
use Rattle.object.proofs.dynamic_array.put_need.Goals as goal

pub returns-then-is_full : goal.returns-then-is_full
returns-then-is_full c = λ xs f.
    first_full 64 xs c.args.offset c.in-Ok.list (rw c.in-Ok.is at f) (eqb-true _ _ (sym c.is_full.ensures.value ∙ c.if-is_full.true))

pub returns-in_default : goal.returns-in_default
returns-in_default c = λ xs f. rw c.in_default.is (first_over 64 xs c.args.offset c.in_default.field-0 (rw c.in_default.is at f))
