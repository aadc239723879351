-- The runs of an object hold each byte of its span once and no other, none is empty, and they say the placed bytes. Assumes nothing.
use mathlib.Core.Path.{◌≡◌}
use mathlib.Core.Logic.{◌⊎◌, inl, inr}
use Prim.Native.Nat.{◌≤◌, ◌<◌}
use native.Mathlib.Omega.{arith}
use borrow.Author.Tests.{lt-ltb, le-ltb}
use lib.Dec.{ltb}
use Rattle.words.specs.Choice.{pick}
use Rattle.object.specs.Placed.{object_span}
use Rattle.object.specs.Runs.{runs_of, holders}
use Rattle.object.proofs.Ranges.{split}
use Rattle.object.proofs.RunLaws.{tiled_sizes, holders_in, holders_out}
use Rattle.object.proofs.ObjectRuns as runs
use Rattle.demands.specs.ObjectRuns.{EachOnce, NoneEmpty, RunsSay}

pub each_once_lem : EachOnce
each_once_lem host file e i =
    go (split i (object_span host file))
  where
    go : (i < object_span host file) ⊎ (object_span host file ≤ i) → holders (runs_of host file) i ≡ pick (ltb i (object_span host file)) 1 0
    go (inl h) =
        rw (lt-ltb i (object_span host file) h)
        (holders_in 0 (runs_of host file) (object_span host file) i (runs.tiled_object host file e) (omega arith) h)
    go (inr h) =
        rw (le-ltb i (object_span host file) h)
        (holders_out 0 (runs_of host file) (object_span host file) i (runs.tiled_object host file e) (inr h))

pub none_empty : NoneEmpty
none_empty host file e = tiled_sizes 0 (runs_of host file) (object_span host file) (runs.tiled_object host file e)

pub runs_say : RunsSay
runs_say = runs.runs_say
