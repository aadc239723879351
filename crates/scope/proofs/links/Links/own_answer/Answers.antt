-- `scope::links::Links::own_answer` meets its contract. Assumes nothing.
use Rattle.std.proofs.Common.{rules}
use Rattle.scope.specs.Steps.Links.{address_in}
use Rattle.scope.specs.Steps.ScopeCode.{own_answer}
use Rattle.scope.proofs.ScopeLaws.{own_lacks, protected_is}
use Rattle.scope.proofs.links.Links.own_answer.Goals as goal

pub returns-then-ruled_out : goal.returns-then-ruled_out
returns-then-ruled_out c =
    let a = c.args in
    own_lacks (address_in a.self.now) a.arena.now a.self.now a.name.now a.gnu a.elf a.k (c.ruled_out.ensures c.if-ruled_out.true)

pub returns : goal.returns
unfolding own_answer
returns c =
    rw (← c.link_answer.ensures) (protected_is _ _ _ c.filter.ensures (λ x b says. search (rules, says)))
