-- The words of `query_all` over the table of links: what the loop over the names leaves. `QueryAll` has what it comes to. Assumes nothing.
use Rattle.std.specs.Prelude.{ℕ, List, map}
use Rattle.words.specs.Hash.{gnu_hash, elf_hash}
use Rattle.model.specs.Relocation.{address_or0}
use Rattle.scope.specs.Steps.ScopeCode.{resolve_links}
use Rattle.binder.specs.Steps.ScopeModel.{scoped_of}

-- the word for a name
abbrev pub link_address : List ℕ → List ℕ → ℕ → List ℕ → ℕ
link_address arena table requester name = address_or0 (scoped_of (resolve_links arena table requester name (gnu_hash name) (elf_hash name)))

-- the words for some names
unfoldable pub link_addresses : List ℕ → List ℕ → ℕ → List (List ℕ) → List ℕ
link_addresses arena table requester names = map (link_address arena table requester) names
