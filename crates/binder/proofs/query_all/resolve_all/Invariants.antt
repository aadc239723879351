-- `binder::query_all::resolve_all` meets its contract. The invariant: the words before this one are those of the names before what is left.
-- Assumes nothing.
use Rattle.std.proofs.Common.{◌≡◌, length}
use Rattle.binder.specs.Steps.AllNames.{link_address}
use Rattle.binder.proofs.AllNamesLaws.{Filling}
use Rattle.binder.proofs.query_all.resolve_all.Given as goal

abbrev pub invariant-loop-word : goal.invariant-loop-word
invariant-loop-word l =
    Filling (link_address l.arena l.links l.requester) l.list l.rest l.words l.word-index × (length l.words ≡ length l.initial.words)
