-- Which object answers for a name. Document 01, "An address for a name": "`resolve_symbol_address`: a protected definition of the
-- requester, else program, libraries in list order, host. COPY searches libraries, then host". System V gABI, "Symbol Table"
-- (STV_PROTECTED) and "Shared Object Dependencies"; x86-64 psABI, "Relocation Types" (R_X86_64_COPY). Assumes nothing.
use Rattle.std.specs.Prelude.{List, [], ◌∷◌, ℕ, suc}
use Rattle.words.specs.Choice.{pick}
use Rattle.model.specs.Symbols.{Wanted, Exported, none, hit, address, Resolved, absent, answer}
use Rattle.model.specs.Objects.{Obj, Objs, obj}

-- the answer of object `k`
unfoldable pub scope_answer : ℕ → Obj → Exported → Resolved
scope_answer k o none = absent
scope_answer k o (hit s) = answer k s (address o.base s)

-- the same, but for protected symbols only
unfoldable pub protected_of : ℕ → Obj → Exported → Resolved
protected_of k o none = absent
protected_of k o (hit s) = pick s.protected (answer k s (address o.base s)) absent

-- the first answer, else the second
abbrev pub or_else : Resolved → Resolved → Resolved
or_else absent b = b
or_else (answer k s a) b = answer k s a

-- the first object of a list that has the name; `k` is the number of the list's first object
unfoldable pub scan : ℕ → List Obj → Wanted → Resolved
scan k [] wanted = absent
scan k (o ∷ os) wanted = or_else (scope_answer k o (o.find wanted)) (scan (suc k) os wanted)

-- the host's answer
abbrev pub host_answer : Objs → Wanted → Resolved
host_answer S wanted = scope_answer 0 S.host (S.host.find wanted)

-- a protected definition of the requester `r`
abbrev pub own_answer : Objs → ℕ → Wanted → Resolved
own_answer S r wanted = protected_of r (obj S r) ((obj S r).find wanted)

-- a protected definition of the requester, else program, libraries in list order, host
unfoldable pub resolve : Objs → ℕ → Wanted → Resolved
resolve S r wanted = or_else (own_answer S r wanted) (or_else (scan 1 (S.program ∷ S.libs) wanted) (host_answer S wanted))

-- COPY's: libraries in list order, then host
unfoldable pub resolve_copy : Objs → Wanted → Resolved
resolve_copy S wanted = or_else (scan 2 S.libs wanted) (host_answer S wanted)
