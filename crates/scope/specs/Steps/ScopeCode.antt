-- The searches for a name over the table of links, as the code makes them. Document 01, "An address for a name": "`resolve_symbol_address`: a
-- protected definition of the requester, else program, libraries in list order, host. COPY searches libraries, then host. A lookup yields
-- an object, a symbol index and an address, or absence". The model's own words are model/specs/Scope; binder/proofs/ScopeIs joins the two.
-- Assumes nothing.
use Rattle.std.specs.Prelude.{◌≡◌, ℕ, suc, ◌-◌, List, [], ◌∷◌, take, drop, None, Some, Option}
use Rattle.words.specs.Choice.{pick}
use Rattle.words.specs.Words.{sum64}
use Rattle.object.specs.declared.hash_tables.Definition.{Definition}
use Rattle.object.specs.HashTable.{answer_by, address_of}
use Rattle.scope.specs.declared.links.Link.{Link}
use Rattle.scope.specs.declared.scope.Hit.{Hit}
use Rattle.scope.specs.Steps.Links.{link_at, links_from, count_in, address_in}

-- ---- one object

-- the object's part of the arena
abbrev pub image_at : List ℕ → Link → List ℕ
image_at arena s = take s.span (drop s.offset arena)

-- what the object has for a name with the hashes `g` (GNU) and `e` (System V)
unfoldable pub answer_at : List ℕ → Link → List ℕ → ℕ → ℕ → Option Definition
answer_at arena s name g e = answer_by (image_at arena s) s.view name g e

-- it has no name with the GNU hash `g`
abbrev pub Lacks : List ℕ → Link → ℕ → Type 0
Lacks arena s g = (name : List ℕ) (e : ℕ) → answer_at arena s name g e ≡ None

-- object `k` answers with the definition `d`, whose address is `x`
abbrev pub hit_at : ℕ → Definition → ℕ → Option Hit
hit_at k d x = Some (record { object = k; definition = d; address = x })

-- object `k` at `base` answers
unfoldable pub scoped_by : ℕ → ℕ → Option Definition → Option Hit
scoped_by k base None = None
scoped_by k base (Some d) = hit_at k d (address_of base d)

-- an answer that is protected
unfoldable pub protected_by : Option Hit → Option Hit
protected_by None = None
protected_by (Some hit) = pick hit.definition.protected (Some hit) None

-- ---- the searches

-- the first answer, else the second
unfoldable pub or_else : Option Hit → Option Hit → Option Hit
or_else None b = b
or_else (Some hit) b = Some hit

module _ (address : ℕ) (arena : List ℕ) where
  -- the answer of object `k`, whose link is `s`
  unfoldable pub link_answer : ℕ → Link → List ℕ → ℕ → ℕ → Option Hit
  link_answer k s name g e = scoped_by k (sum64 address s.offset) (answer_at arena s name g e)

  -- its protected definition
  unfoldable pub own_answer : ℕ → Link → List ℕ → ℕ → ℕ → Option Hit
  own_answer k s name g e = protected_by (link_answer k s name g e)

  -- the first link of a list that has the name; `k` is the number of the list's first object
  unfoldable pub scan_links : ℕ → List Link → List ℕ → ℕ → ℕ → Option Hit
  scan_links k [] name g e = None
  scan_links k (s ∷ l) name g e = or_else (link_answer k s name g e) (scan_links (suc k) l name g e)

module _ (arena table : List ℕ) where
  -- of the set's objects: a protected definition of the requester `r`, else program, libraries in list order, host
  unfoldable pub resolve_links : ℕ → List ℕ → ℕ → ℕ → Option Hit
  resolve_links r name g e =
      or_else (own_answer (address_in table) arena r (link_at table r) name g e)
      (or_else (scan_links (address_in table) arena 1 (links_from table 1 (count_in table - 1)) name g e)
      (link_answer (address_in table) arena 0 (link_at table 0) name g e))

  -- COPY's: libraries in list order, then host
  unfoldable pub resolve_copy_links : List ℕ → ℕ → ℕ → Option Hit
  resolve_copy_links name g e =
      or_else (scan_links (address_in table) arena 2 (links_from table 2 (count_in table - 2)) name g e)
      (link_answer (address_in table) arena 0 (link_at table 0) name g e)
