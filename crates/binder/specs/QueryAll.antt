-- What `query_all` answers, and what it leaves in arena and words: from its arguments alone, refused calls too. Document 02, (e), "All the
-- service's names in one call": "It hands over a set and an arena as for one query, which leaves the arena as one query does, the names end to
-- end with a zero byte after each, a requester, and a slice of 64-bit words". Assumes nothing.
use Rattle.std.specs.Prelude.{ℕ, ◌+◌, Bool, true, List, [], ◌∷◌, map, length, replicate, ◌==◌, nat_lt, Err}
use Rattle.words.specs.Choice.{pick, both}
use Rattle.words.specs.Memory.{tab}
use Rattle.model.specs.Symbols.{by_name}
use Rattle.model.specs.Objects.{Objs}
use Rattle.model.specs.Scope.{resolve}
use Rattle.model.specs.Relocation.{placed, address_or0}
use Rattle.sheet.specs.Sheet.{Input, sheet_ok, set_of}
use Rattle.binder.specs.Setting.{Setting}
use Rattle.binder.specs.Verdict.{Verdict, passed, refused, first}
use Rattle.binder.specs.Bind.{files_of, objects_of, unless, prepare_verdict}

-- ---- "the names end to end with a zero byte after each"

-- a byte before the first of some names; a name by itself where there are none
abbrev pub beginning : ℕ → List (List ℕ) → List (List ℕ)
beginning b [] = (b ∷ []) ∷ []
beginning b (name ∷ names) = (b ∷ name) ∷ names

-- the names of a list: each zero byte ends one
unfoldable pub names_in : List ℕ → List (List ℕ)
names_in [] = []
names_in (b ∷ bs) = pick (b == 0) ([] ∷ names_in bs) (beginning b (names_in bs))

-- its last byte is zero; "An empty list" has none
unfoldable pub ends_in_zero : List ℕ → Bool
ends_in_zero [] = true
ends_in_zero (b ∷ []) = b == 0
ends_in_zero (b ∷ (c ∷ bs)) = ends_in_zero (c ∷ bs)

-- its "count of zero bytes"
unfoldable pub zero_bytes : List ℕ → ℕ
zero_bytes [] = 0
zero_bytes (b ∷ bs) = pick (b == 0) 1 0 + zero_bytes bs

-- not 23: "a list whose last byte is not zero or whose count of zero bytes differs from the slice's length"
unfoldable pub list_ok : List ℕ → ℕ → Bool
list_ok list words = both (ends_in_zero list) (zero_bytes list == words)

-- ---- the answer

-- the reply, the arena and the words that a call leaves
pub data RepliedAll : Type 0 where
  replied_all : (reply : Verdict) (arena words : List ℕ) → RepliedAll

-- "after any refusal the words are all 0", and the arena too
abbrev pub refused_all : ℕ → ℕ → ℕ → ℕ → RepliedAll
refused_all size words n k = replied_all (refused n k) (replicate size 0) (replicate words 0)

-- a refusal; else the arena and the addresses
unfoldable pub replied_all_of : ℕ → ℕ → Verdict → List ℕ → List ℕ → RepliedAll
replied_all_of size words (Err r) arena addresses = refused_all size words r.number r.object
replied_all_of size words passed arena addresses = replied_all passed arena addresses

-- "The words become the addresses, 0 for absent", name by name
unfoldable pub addresses_of : Objs → ℕ → List (List ℕ) → List ℕ
addresses_of S requester names = map (λ name. address_or0 (resolve S requester (by_name name))) names

-- a set that is asked: refusals 2 to 13 and 21 as a query, then 23
unfoldable pub ask_all_set : Setting → List Input → ℕ → ℕ → List ℕ → ℕ → RepliedAll
ask_all_set setting os size requester list words =
    replied_all_of size words
    (first (prepare_verdict setting passed os size) (first (unless (nat_lt requester (length os)) 13 0) (unless (list_ok list words) 23 0)))
    (tab size (placed (objects_of setting (files_of os)))) (addresses_of (objects_of setting (files_of os)) requester (names_in list))

-- what `query_all` answers for a sheet and its bytes, in an arena of `size` bytes and with a slice of `words` words
unfoldable pub query_all_of : Setting → List ℕ → List ℕ → ℕ → ℕ → List ℕ → ℕ → RepliedAll
query_all_of setting sheet bytes size requester list words =
    pick (sheet_ok sheet (length bytes)) (ask_all_set setting (set_of sheet bytes) size requester list words) (refused_all size words 1 0)
