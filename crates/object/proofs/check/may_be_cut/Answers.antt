-- `object::check::may_be_cut` meets its contract. Assumes nothing.
use Rattle.object.proofs.WalkLaws.{over}
use Rattle.object.specs.HashCheck.{length_ok}
use Rattle.object.proofs.check.may_be_cut.Goals as goal

pub returns-in-Without : goal.returns-in-Without
unfolding length_ok
returns-in-Without c =
    λ m. rw c.in-Without.is

pub returns-in-SysV : goal.returns-in-SysV
unfolding length_ok
returns-in-SysV c =
    λ m. rw c.in-SysV.is (over c.in-SysV.nchain)

pub returns-in-Gnu : goal.returns-in-Gnu
unfolding length_ok
returns-in-Gnu c =
    λ m. rw c.in-Gnu.is
