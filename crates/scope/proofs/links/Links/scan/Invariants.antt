-- `scope::links::Links::scan` meets its contract. The invariant: the search from object `k` on gives what the whole one gives; the System V hash is
-- right, where it is made. Assumes nothing.
use Rattle.std.specs.Prelude.{IfSome}
use Rattle.std.proofs.Common.{◌≡◌}
use Rattle.words.specs.Hash.{elf_hash}
use Rattle.scope.specs.Steps.Links.{count_in, address_in}
use Rattle.scope.proofs.ScopeLaws.{rest}
use Rattle.scope.proofs.links.Links.scan.Given as goal

abbrev pub invariant-loop-k : goal.invariant-loop-k
invariant-loop-k l =
    IfSome l.made (λ e. e ≡ elf_hash l.name)
    × (rest (address_in l.self) l.arena l.self l.name l.gnu (elf_hash l.name) l.k (count_in l.self)
    ≡ rest (address_in l.self) l.arena l.self l.name l.gnu (elf_hash l.name) l.start (count_in l.self))
