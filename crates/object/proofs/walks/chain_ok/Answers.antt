-- `object::walks::chain_ok` meets its contract. Assumes nothing.
use Rattle.object.specs.HashCheck.{chain_ok}
use Rattle.object.proofs.walks.chain_ok.Goals as goal

pub returns-in-Without : goal.returns-in-Without
unfolding chain_ok
returns-in-Without c =
    rw c.in-Without.is

pub returns-in-SysV : goal.returns-in-SysV
unfolding chain_ok
returns-in-SysV c =
    rw c.in-SysV.is

pub returns-in-Gnu : goal.returns-in-Gnu
unfolding chain_ok
returns-in-Gnu c =
    rw (c.in-Gnu.is, ← c.chain_off-k.ensures) c.table_off.ensures
