-- `object::walks::Walks::of` meets its contract. Assumes nothing.
use native.Mathlib.Nat.{not-suc-le-zero}
use Rattle.object.proofs.FineLaws.{chained_sysv, chained_gnu}
use Rattle.object.proofs.walks.Walks.of.Goals.{in-Without, in-SysV, in-Gnu}
use Rattle.object.proofs.walks.Walks.of.Goals as goal

pub invariant_of-result : goal.invariant_of-result
invariant_of-result c = record {
  shortcuts = record {
    tables = c.fine_of-f.ensures;
    chain = elim c.match-view.branch [
      | in-Without w ↦ rw (w.chained-is) (λ s l. absurd (not-suc-le-zero l))
      | in-SysV w ↦ rw (w.chained-is, w.in-SysV.is) (chained_sysv _ _ _ _)
      | in-Gnu w ↦ rw (w.chained-is, w.in-Gnu.is) (chained_gnu _ _ _ _ _ _ _ w.chained_of.ensures)
    ];
    start = elim c.match-view.branch [
      | in-Without w ↦ rw (w.chained-is, w.in-Without.is)
      | in-SysV w ↦ rw (w.chained-is, w.in-SysV.is)
      | in-Gnu w ↦ rw (w.chained-is, w.in-Gnu.is)
    ];
  };
}
