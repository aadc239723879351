use Rattle.object.proofs.MarkLaws.{unmarked}
use Rattle.object.proofs.check.walks_pass.Goals as goal

pub walks_ok-requires : goal.walks_ok-requires
walks_ok-requires c = record { low = c.of-walks.result.shortcuts.start; marked = λ j g. absurd (unmarked 2048 j g) }
