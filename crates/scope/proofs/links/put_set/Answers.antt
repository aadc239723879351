-- `scope::links::put_set` meets its contract. Assumes nothing.
use mathlib.Core.Path.{refl}
use Rattle.scope.proofs.LinkLaws.{set_all}
use Rattle.scope.proofs.links.put_set.Goals as goal

pub returns : goal.returns
returns c =
    let p = set_all c.args.table.now c.args.count c.args.address c.requires.0 c.requires.1 refl in
    record { said = p.0; links = p.1.0; filtered = p.1.1 }
