-- `words::names::starts_as` meets its contract. The invariant: what is left of both names decides. Assumes nothing.
use Rattle.std.proofs.Common.{◌≡◌, drop}
use Rattle.words.specs.Names.{until_zero, name_at, same_bytes}
use Rattle.words.proofs.names.starts_as.Given as goal

abbrev pub invariant-loop-i : goal.invariant-loop-i
invariant-loop-i l = same_bytes (until_zero l.rest) l.name ≡ same_bytes (name_at l.rest l.i) (drop l.i l.name)
