-- The copies of a set, and which two of them cross. Document 02, (h): "no byte may be the destination of two non-empty copies, of whichever
-- objects, and no byte of one's source may lie in another's destination". x86-64 psABI, "Relocation Types" (R_X86_64_COPY). All are functions of
-- the placed images. Assumes nothing.
use Rattle.std.specs.Prelude.{ℕ, ◌+◌, min, Bool, List, [], ◌∷◌, ◌++◌, ◌==◌, nat_lt}
use Rattle.words.specs.Choice.{pick, both, either, some}
use Rattle.model.specs.Symbols.{Resolved, absent, answer}
use Rattle.model.specs.Objects.{Objs, obj}
use Rattle.model.specs.Scope.{resolve_copy}
use Rattle.object.specs.Symbol.{symbol_at}
use Rattle.object.specs.RelocationTypes.{Row, ignored, passed_over, turned_away, marked_refuse, copies, writes}
use Rattle.object.specs.Record.{Record}
use Rattle.object.specs.declared.relocate.Rela.{Rela}
use Rattle.binder.specs.declared.crossing.Copy.{Copy}
use Rattle.binder.specs.Instance.{File, file_image, file_record, relas_of, wanted_by}

-- `n` bytes at `at` and `m` bytes at `other` have a byte in common
unfoldable pub meets : ℕ → ℕ → ℕ → ℕ → Bool
meets at n other m = both (nat_lt at (other + m)) (nat_lt other (at + n))

-- a byte is the destination of both, or lies in the source of one and in the destination of the other
unfoldable pub crosses : Copy → Copy → Bool
crosses c d =
    either (meets c.to c.size d.to d.size)
    (either (meets c.source c.size d.to d.size) (meets c.to c.size d.source d.size))

-- one of the copies `cs` crosses an earlier one
unfoldable pub crosses_one : List Copy → List Copy → Bool
crosses_one earlier cs = some (λ c. some (crosses c) earlier) cs

-- the copy to the place `p` of object `k`, whose own symbol has that size, from what was found: none where nothing is found or copied
unfoldable pub copy_found : Objs → ℕ → ℕ → ℕ → Resolved → List Copy
copy_found S k p size absent = []
copy_found S k p size (answer d s a) =
    pick (min size s.size == 0) []
    (record { to = (obj S k).offset + p; source = (obj S d).offset + s.value; size = min size s.size } ∷ [])

-- the copy that an entry of object `k` makes, by the row of its type
unfoldable pub copy_by : Objs → ℕ → List ℕ → Record → Rela → Row → List Copy
copy_by S k image r e ignored = []
copy_by S k image r e passed_over = []
copy_by S k image r e turned_away = []
copy_by S k image r e marked_refuse = []
copy_by S k image r e (writes sought f) = []
copy_by S k image r e copies =
    copy_found S k e.place (symbol_at image r.symbols e.symbol).size (resolve_copy S (wanted_by image r e.symbol))

abbrev pub entry_copy : (ℕ → Row) → Objs → ℕ → List ℕ → Record → Rela → List Copy
entry_copy row S k image r e = copy_by S k image r e (row e.rtype)

-- the copies of entries, and of an object, one after another
unfoldable pub entries_copies : (ℕ → Row) → Objs → ℕ → List ℕ → Record → List Rela → List Copy
entries_copies row S k image r [] = []
entries_copies row S k image r (e ∷ es) = entry_copy row S k image r e ++ entries_copies row S k image r es

abbrev pub object_copies : (ℕ → Row) → Objs → ℕ → File → List Copy
object_copies row S k f = entries_copies row S k (file_image f) (file_record f) (relas_of (file_image f) (file_record f))
