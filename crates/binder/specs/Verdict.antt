-- Refusals of a set, each with its object: 4 to 12 and 21 object by object, 14 to 18, 22, 25 and 28 entry by entry in binding order. Document
-- 01, "Refused, in checking order"; document 02, (a), (b), (f) and (h). All are functions of the placed images. Assumes nothing.
use Rattle.std.specs.Prelude.{ℕ, ◌+◌, ◌-◌, min, Bool, true, not, List, [], ◌∷◌, ◌++◌, ◌==◌, nat_le, slice_index_or, Ok, Err, Result}
use Rattle.words.specs.Choice.{pick, both, either}
use Rattle.model.specs.Symbols.{Definition, Resolved, absent, answer}
use Rattle.model.specs.Objects.{Objs, obj}
use Rattle.model.specs.Scope.{resolve, resolve_copy}
use Rattle.model.specs.Relocation.{address_or0}
use Rattle.words.specs.Refusal.{refusal_number}
use Rattle.words.specs.declared.refusal.Refusal.{Refusal}
use Rattle.object.specs.Refusal.{require}
use Rattle.object.specs.TableBytes.{in_writable}
use Rattle.object.specs.RelocationTypes.{Calculation, Row, no_search, in_scope, ignored, passed_over, turned_away, marked_refuse, copies, writes}
use Rattle.object.specs.Entries.{Word, place, nowhere}
use Rattle.object.specs.Record.{Record, checked_symbol}
use Rattle.object.specs.Loaded.{object_refusal}
use Rattle.object.specs.declared.symbol.Symbol.{Symbol}
use Rattle.object.specs.declared.relocate.Rela.{Rela}
use Rattle.binder.specs.Instance.{File, file_image, file_record, named_words, relas_of, wanted_by}
use Rattle.binder.specs.declared.Refused.{Refused}
use Rattle.binder.specs.declared.crossing.Copy.{Copy}
use Rattle.binder.specs.Copies.{crosses_one, entry_copy, object_copies}

-- what passes, or is refused
abbrev pub Verdict : Type 0
Verdict = Result (Unit {0}) Refused

pattern abbrev pub passed : Verdict
passed = Ok tt

-- "refused N object M"
abbrev pub refused : {A : Type 0} → ℕ → ℕ → Result A Refused
refused n k = Err (record { number = n; object = k })

-- the first refusal of two
abbrev pub first : Verdict → Verdict → Verdict
first passed v = v
first (Err m) v = Err m

-- a refusal of object `k`; 0 is none
unfoldable pub verdict : ℕ → ℕ → Verdict
verdict n k = pick (n == 0) passed (refused n k)

-- ---- 4 to 12 and 21: "object by object"

-- the files from object `k` on, each at its object's offset in an arena of `size` bytes
unfoldable pub load_verdict : Objs → ℕ → ℕ → List File → Verdict
load_verdict S size k [] = passed
load_verdict S size k (f ∷ fs) =
    first (verdict (object_refusal f.host (size - (obj S k).offset) f.bytes) k) (load_verdict S size (k + 1) fs)

-- ---- 14 to 18, 22, 25 and 28: "entry by entry in binding order"

-- 17: "A written place .. not inside one writable PT_LOAD of its object, or a RELR bit set before any address"
abbrev pub word_refusal : Record → Word → ℕ
word_refusal r (place p) = require (in_writable r.segments p 8) 17 0
word_refusal r nowhere = 17

-- not 18: "A non-empty COPY from an absolute symbol, from outside the definer's span, or overlapping its destination": `n` bytes from the
-- symbol `s` of object `d` to the place `p` of object `k`
unfoldable pub copy_ok : Objs → ℕ → ℕ → ℕ → Definition → ℕ → Bool
copy_ok S k p d s n =
    both (not s.absolute)
    (both (nat_le (s.value + n) (obj S d).span)
    (either (nat_le ((obj S k).offset + p + n) ((obj S d).offset + s.value)) (nat_le ((obj S d).offset + s.value + n) ((obj S k).offset + p))))

-- 17 and 18 of a COPY to the place `p` of object `k`, whose own symbol has that size: nothing is looked at where nothing is copied
unfoldable pub copy_refusal : Objs → ℕ → Record → ℕ → ℕ → Resolved → ℕ
copy_refusal S k r p size absent = 0
copy_refusal S k r p size (answer d s a) =
    pick (min size s.size == 0) 0
    (require (in_writable r.segments p (min size s.size)) 17 (require (copy_ok S k p d s (min size s.size)) 18 0))

-- 17, and "22, after 17, a 32-bit result that does not fit", of an entry of an object with that base, whose symbol has the address `s`
abbrev pub field_refusal : ℕ → Record → Rela → Calculation → ℕ → ℕ
field_refusal base r e f s =
    require (in_writable r.segments e.place f.width) 17 (require (f.fits (f.value s e.addend base (base + e.place))) 22 0)

-- 14 and 15 of the entry's symbol, else what follows
abbrev pub symbol_then : Result Symbol Refusal → (Symbol → ℕ) → ℕ
symbol_then (Err x) rest = refusal_number x
symbol_then (Ok y) rest = rest y

-- 14 to 18, 22 and 25 of an entry, by the row of its type
unfoldable pub refusal_by : Objs → ℕ → List ℕ → Record → Rela → Row → ℕ
refusal_by S k image r e ignored = 0
refusal_by S k image r e passed_over = 0
refusal_by S k image r e turned_away = 16
refusal_by S k image r e marked_refuse = 25
refusal_by S k image r e (writes no_search f) = field_refusal (obj S k).base r e f 0
refusal_by S k image r e (writes (in_scope searched) f) =
    symbol_then (checked_symbol image r e.symbol)
    (λ y. field_refusal (obj S k).base r e f (pick (searched e.symbol) (address_or0 (resolve S k (wanted_by image r e.symbol))) 0))
refusal_by S k image r e copies =
    symbol_then (checked_symbol image r e.symbol) (λ y. copy_refusal S k r e.place y.size (resolve_copy S (wanted_by image r e.symbol)))

abbrev pub entry_refusal : (ℕ → Row) → Objs → ℕ → List ℕ → Record → Rela → ℕ
entry_refusal row S k image r e = refusal_by S k image r e (row e.rtype)

-- the words that RELR names, then the entries of RELA and PLT
unfoldable pub words_verdict : ℕ → Record → List Word → Verdict
words_verdict k r [] = passed
words_verdict k r (w ∷ ws) = first (verdict (word_refusal r w) k) (words_verdict k r ws)

-- 28, after 18 in the entry's turn: "an entry that breaks this with an earlier one", `earlier` being the copies so far
abbrev pub cross_refusal : List Copy → List Copy → ℕ
cross_refusal earlier cs = pick (crosses_one earlier cs) 28 0

unfoldable pub entries_verdict : (ℕ → Row) → Objs → ℕ → List ℕ → Record → List Copy → List Rela → Verdict
entries_verdict row S k image r earlier [] = passed
entries_verdict row S k image r earlier (e ∷ es) =
    first (verdict (entry_refusal row S k image r e) k)
    (first (verdict (cross_refusal earlier (entry_copy row S k image r e)) k)
    (entries_verdict row S k image r (earlier ++ entry_copy row S k image r e) es))

unfoldable pub object_verdict : (ℕ → Row) → Objs → List Copy → ℕ → File → Verdict
object_verdict row S earlier k f =
    first (words_verdict k (file_record f) (named_words (file_image f) (file_record f)))
    (entries_verdict row S k (file_image f) (file_record f) earlier (relas_of (file_image f) (file_record f)))

-- what a number that is no object's stands for
abbrev pub no_file : File
no_file = record { host = true; bytes = [] }

-- the objects of an order, one after another
unfoldable pub order_verdict : (ℕ → Row) → Objs → List File → List Copy → List ℕ → Verdict
order_verdict row S files earlier [] = passed
order_verdict row S files earlier (k ∷ ks) =
    first (object_verdict row S earlier k (slice_index_or files k no_file))
    (order_verdict row S files (earlier ++ object_copies row S k (slice_index_or files k no_file)) ks)

-- the copies of a set in an order
unfoldable pub order_copies : (ℕ → Row) → Objs → List File → List ℕ → List Copy
order_copies row S files [] = []
order_copies row S files (k ∷ ks) = object_copies row S k (slice_index_or files k no_file) ++ order_copies row S files ks
