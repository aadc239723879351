-- Demand 3 for sets that are made of files, with the arenas as lists of bytes. Assumes nothing.
use mathlib.Core.Path.{subst}
use Prim.Native.Nat.{ℕ, ◌+◌, ◌≤◌}
use native.Mathlib.Omega.{arith}
use Rattle.words.specs.Memory.{Mem, mem, tab}
use Rattle.words.proofs.Slices.{mem_tab}
use Rattle.model.specs.Objects.{Obj, Objs, obj}
use Rattle.model.specs.Relocation.{bound}
use Rattle.model.specs.Longer.{longer, Kept}
use Rattle.model.specs.Layout.{Fits, next_free, end, objs_of, LongerFiles}
use Rattle.model.proofs.Scope.{obj_longer, count_longer}
use Rattle.model.proofs.Laid.{objs_longer}
use Rattle.model.proofs.Longer.{longer_holds}

-- what is kept in endless memories is kept in arenas that hold the objects
kept_arenas :
    (S : Objs) (x : Obj) (m m' : Mem) (n n' : ℕ) → Fits S n → Fits (longer S x) n' → Kept S (longer S x) m m'
    → Kept S (longer S x) (mem (tab n m)) (mem (tab n' m'))
kept_arenas S x m m' n n' fits fits' kept =
    record {
      names = kept.names;
      copy_names = kept.copy_names;
      bytes = λ k l i w.
          let end : (obj S k).offset + (obj S k).span ≤ n = fits k l in
          let end' : (obj S k).offset + (obj S k).span ≤ n'
          = rw (obj_longer S x k l) at (fits' k (omega (arith, count_longer S x))) in
          rw (mem_tab n m i (omega arith), mem_tab n' m' i (omega arith)) (kept.bytes k l i w);
    }

pub longer_files : {File : Type 0} (make : File → ℕ → Obj) → LongerFiles make
longer_files make h p fs order n sound o fits only f order' n' sound_t o' fits' =
    rw (objs_longer make h p fs f)
    (kept_arenas S x (bound S order) (bound (longer S x) order') n n' fits
    (subst (λ (T : Objs). Fits T n') (objs_longer make h p fs f) fits')
    (longer_holds S order sound o only x order' (rw (objs_longer make h p fs f) at sound_t) (rw (objs_longer make h p fs f) at o')))
  where
    S : Objs
    S = objs_of make h p fs

    x : Obj
    x = make f (end make fs (next_free make p (next_free make h 0)))
