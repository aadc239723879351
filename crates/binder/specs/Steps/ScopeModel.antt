-- The searches over the table of links, against the model's objects: what an answer stands for, and when a link is that of its object. Document
-- 01, "An address for a name": "A lookup yields an object, a symbol index and an address, or absence". The searches are scope/specs/Steps/ScopeCode,
-- the model's own are model/specs/Scope; proofs/ScopeIs joins the two. Assumes nothing.
use Rattle.std.specs.Prelude.{◌≡◌, ℕ, ◌+◌, ◌^◌, ◌<◌, List, Option, None, Some}
use Rattle.words.specs.Hash.{gnu_hash, elf_hash}
use Rattle.model.specs.Symbols as model
use Rattle.model.specs.Objects.{Obj, Objs, obj, count}
use Rattle.scope.specs.declared.links.Link.{Link}
use Rattle.scope.specs.declared.scope.Hit.{Hit}
use Rattle.scope.specs.Steps.Links.{link_at}
use Rattle.scope.specs.Steps.ScopeCode.{answer_at}
use Rattle.binder.specs.Instance.{definition_of, exported_of}

-- ---- what the code's enum stands for

-- what a search yields
unfoldable pub scoped_of : Option Hit → model.Resolved
scoped_of None = model.absent
scoped_of (Some hit) = model.answer hit.object (definition_of hit.definition) hit.address

-- ---- against the model's objects

-- the object `o` of the model is the one at the link `s`: base = arena address + offset, without wrapping, and it has the same names
pub record LinkOf (address : ℕ) (arena : List ℕ) (o : Obj) (s : Link) : Type 0 where
  pub base : o.base ≡ address + s.offset
  pub small : address + s.offset < 2 ^ 64
  pub find : (name : List ℕ) → o.find (model.by_name name) ≡ exported_of (answer_at arena s name (gnu_hash name) (elf_hash name))

-- the table has a link for each object of the set
abbrev pub LinkedFor : ℕ → List ℕ → List ℕ → Objs → Type 0
LinkedFor address arena table S = (k : ℕ) → k < count S → LinkOf address arena (obj S k) (link_at table k)
