-- Relocating the objects of a set, one after another: what the code does, in its own order, over the arena as it is at each step. Document
-- 01, "Relocated bytes and report", "Refused, in checking order" (14 to 18, 22, 25). `Bind` has what it comes to, from the placed bytes alone;
-- proofs/RelocatedIs joins the two. Assumes nothing.
use Rattle.std.specs.Prelude.{ℕ, zero, suc, ◌+◌, ◌-◌, ◌*◌, ◌/◌, ◌%◌, ◌^◌, ◌≤◌, min, Bool, true, false, not, ◌⊎◌, List, [], ◌∷◌, ◌++◌, length, take, drop, ◌==◌, nat_le, nat_lt, slice_index, slice_index_or, slice_set, Ok, Err, Result, Option, None, Some}
use Rattle.words.specs.Choice.{pick, both, either}
use Rattle.words.specs.Memory.{mem, from, patch}
use Rattle.words.specs.Words.{le_at, byte_of, sum64}
use Rattle.words.specs.Hash.{gnu_hash, elf_hash}
use Rattle.words.specs.Refusal.{refusal_number}
use Rattle.words.specs.declared.refusal.Refusal.{Refusal}
use Rattle.object.specs.TableBytes.{in_writable}
use Rattle.object.specs.Symbol.{binding_of}
use Rattle.object.specs.ProgramHeader.{loads_of, dynamic_of}
use Rattle.object.specs.RelocationTypes.{Calculation, Row, no_search, in_scope, ignored, passed_over, turned_away, marked_refuse, copies, writes, row_under}
use Rattle.object.specs.Entries.{rela_at, relr_at, relr_of}
use Rattle.object.specs.Record.{Record, checked_symbol, name_of, read_refusal, record_at}
use Rattle.object.specs.declared.program_header.Segment.{Segment}
use Rattle.object.specs.declared.hash_tables.Definition.{Definition}
use Rattle.object.specs.declared.symbol.Symbol.{Symbol}
use Rattle.object.specs.declared.relocate.Rela.{Rela}
use Rattle.object.specs.declared.relocate.Relr.{Relr}
use Rattle.object.specs.declared.relocate.Relr.TheVariants.{Address, Bitmap}
use Rattle.sheet.specs.Sheet.{Input, no_input}
use Rattle.scope.specs.Steps.Links.{link_at, address_in}
use Rattle.scope.specs.Steps.ScopeCode.{resolve_links, resolve_copy_links}
use Rattle.scope.specs.declared.links.Link.{Link}
use Rattle.scope.specs.declared.scope.Hit.{Hit}
use Rattle.binder.specs.Verdict.{Verdict, passed, refused}
use Rattle.binder.specs.declared.Refused.{Refused}
use Rattle.binder.specs.declared.report.Kept.{Kept}
use Rattle.binder.specs.declared.report.Progress.{Progress}
use Rattle.binder.specs.declared.turn.Turn.{Turn}
use Rattle.binder.specs.declared.relocate.Sought.{Sought}
use Rattle.binder.specs.declared.relocate.Sought.TheVariants.{Known, Searched, Missing}

-- ---- what a function of the code leaves

-- the refusal that was met, if one was, how far binding has come, the arena and the report
pub data Left : Type 0 where
  left : (met : Verdict) (p : Progress) (arena report : List ℕ) → Left

-- of a function that writes to the arena alone, and of one that writes to the report alone
pub data Wrote : Type 0 where
  wrote : (met : Verdict) (arena : List ℕ) → Wrote

pub data Noted : Type 0 where
  noted : (p : Progress) (report : List ℕ) → Noted

abbrev pub with_report : Progress → List ℕ → Wrote → Left
with_report p report (wrote met a) = left met p a report

abbrev pub with_arena : List ℕ → Noted → Left
with_arena a (noted p report) = left passed p a report

-- before any object's turn
abbrev pub started : Progress
started = record { words = 0; full = false; undefined = 0; kept = None }

-- the answer of a search is kept, or none
abbrev pub keeps : Option Kept → Progress → Progress
keeps kept p = record { words = p.words; full = p.full; undefined = p.undefined; kept = kept }

-- the address `a` for the symbol with the number `i`
abbrev pub kept_as : ℕ → ℕ → Option Kept
kept_as i a = Some (record { symbol = i; address = a })

-- the kept address, where it is that of the symbol with the number `i`
abbrev pub kept_for : Option Kept → ℕ → Option ℕ
kept_for None i = None
kept_for (Some k) i = pick (k.symbol == i) (Some k.address) None

-- the next step, unless a refusal was met
abbrev pub unless_refused : (Progress → List ℕ → List ℕ → Left) → Left → Left
unless_refused next (left passed p a r) = next p a r
unless_refused next (left (Err e) p a r) = left (Err e) p a r

-- the part of the arena that is the object's
abbrev pub image_in : List ℕ → Turn → List ℕ
image_in a t = take t.span (drop t.offset a)

-- the part that is lent to write in, from the object's offset to the arena's end; and the arena in which it became `x`
abbrev pub part_of : Turn → List ℕ → List ℕ
part_of t a = drop t.offset a

unfoldable pub with_part : Turn → List ℕ → List ℕ → List ℕ
with_part t a x = take t.offset a ++ x

-- ---- the report

-- a word of 32 bits
abbrev pub report_sum : ℕ → ℕ → ℕ
report_sum kind n = (kind * 2 ^ 28 + n) % 2 ^ 32

-- a word is added, where there is room
unfoldable pub note_of : ℕ → Progress → List ℕ → Noted
note_of w p report =
    pick (nat_lt p.words (length report))
    (noted
    (record { words = p.words + 1; full = p.full; undefined = p.undefined; kept = p.kept })
    (slice_set report p.words w))
    (noted (record { words = p.words; full = true; undefined = p.undefined; kept = p.kept }) report)

-- the first object that has an undefined entry
abbrev pub undefined_in : ℕ → Progress → Progress
undefined_in k p = record { words = p.words; full = p.full; undefined = pick (p.undefined == 0) k p.undefined; kept = p.kept }

abbrev pub mark_undefined : ℕ → Noted → Noted
mark_undefined k (noted p report) = noted (undefined_in k p) report

-- entry `i` of object `k` whose symbol was found nowhere: undefined, unless its binding is 2
unfoldable pub unresolved_of : Symbol → ℕ → ℕ → Progress → List ℕ → Noted
unresolved_of y k i p report = pick (binding_of y == 2) (noted p report) (mark_undefined k (note_of (report_sum 6 i) p report))

-- ---- RELR, in the object's part of the arena

-- a location that is no place of any object: before any address
abbrev pub far : ℕ
far = 2 ^ 62

-- counts and indices of the code have 32 bits
abbrev pub cut_to32 : ℕ → ℕ
cut_to32 n = min n (2 ^ 32 - 1)

-- the refusal, 0 for none, and the location after an entry
pub record Moved : Type 0 where
  pub refusal : ℕ
  pub location : ℕ

-- the refusal, 0 for none, and the part, or the arena; the same with the location after an entry
pub data Summed : Type 0 where
  summed : (refusal : ℕ) (bytes : List ℕ) → Summed

pub data Shifted : Type 0 where
  shifted : (m : Moved) (part : List ℕ) → Shifted

-- the word at `p` gains the base
unfoldable pub word_added : ℕ → ℕ → List ℕ → List ℕ
word_added base p x = patch x p 8 (byte_of (sum64 (le_at 8 (mem x) p) base))

module _ (base : ℕ) (segments : List Segment) where
  -- the words of the `n` lowest bits, the first of which is at `p`
  unfoldable pub add_bits : ℕ → ℕ → ℕ → List ℕ → Summed
  add_bits zero p bits x = summed 0 x
  add_bits (suc n) p bits x =
      pick (bits % 2 == 1)
      (pick (in_writable segments p 8) (add_bits n (p + 8) (bits / 2) (word_added base p x)) (summed 17 x))
      (add_bits n (p + 8) (bits / 2) x)

  abbrev pub bits_added : ℕ → Summed → Shifted
  bits_added location (summed z x) = shifted (record { refusal = z; location = min (location + 504) far }) x

  -- an entry
  unfoldable pub add_relr : ℕ → Relr → List ℕ → Shifted
  add_relr location (Address p) x =
      pick (in_writable segments p 8) (shifted (record { refusal = 0; location = min (p + 8) far }) (word_added base p x))
      (shifted (record { refusal = 17; location = location }) x)
  add_relr location (Bitmap bits) x = bits_added location (add_bits 63 location bits x)

abbrev pub then_relr : (ℕ → List ℕ → Summed) → Shifted → Summed
then_relr next (shifted m x) = pick (m.refusal == 0) (next m.location x) (summed m.refusal x)

-- `n` entries from entry `i` on
unfoldable pub add_relrs : Turn → Record → ℕ → ℕ → ℕ → List ℕ → Summed
add_relrs t r zero i location x = summed 0 x
add_relrs t r (suc n) i location x =
    then_relr (add_relrs t r n (i + 1)) (add_relr t.base r.segments location (relr_of (relr_at (take t.span x) r.relr i)) x)

-- all of them, in the arena
abbrev pub summed_in : Turn → List ℕ → Summed → Summed
summed_in t a (summed z x) = summed z (with_part t a x)

unfoldable pub run_relrs : Turn → Record → List ℕ → Summed
run_relrs t r a = summed_in t a (add_relrs t r (cut_to32 r.relrs) 0 far (part_of t a))

-- ---- RELA and PLT

-- the number that an entry writes, where its symbol has the address S, and its bytes
abbrev pub written_number : Turn → Rela → Calculation → ℕ → ℕ
written_number t e f S = f.value S e.addend t.base (t.base + e.place)

abbrev pub written_bytes : Turn → Rela → Calculation → ℕ → ℕ → ℕ
written_bytes t e f S = byte_of (written_number t e f S)

-- the write, or 22
unfoldable pub field_of : Turn → Rela → Calculation → ℕ → List ℕ → Wrote
field_of t e f S a =
    pick (f.fits (written_number t e f S)) (wrote passed (patch a (t.offset + e.place) f.width (written_bytes t e f S))) (wrote (refused 22 t.number) a)

-- a write without a search
unfoldable pub fixed_of : Turn → List Segment → Rela → Calculation → List ℕ → Wrote
fixed_of t segments e f a = pick (in_writable segments e.place f.width) (field_of t e f 0 a) (wrote (refused 17 t.number) a)

-- absence is kept where the symbol's binding is 2: as the address 0, since no report word tells the two apart
abbrev pub keeps_weak : ℕ → Symbol → Noted → Noted
keeps_weak i y (noted p report) = noted (pick (binding_of y == 2) (keeps (kept_as i 0) p) p) report

-- what a search for the symbol `y` comes to
abbrev pub sought_by : Symbol → Option Hit → Sought
sought_by y None = Missing y
sought_by y (Some hit) = Searched hit.address

-- or the kept address, where there is one
abbrev pub sought_or : Option ℕ → Symbol → Option Hit → Sought
sought_or (Some S) y found = Known S
sought_or None y found = sought_by y found

abbrev pub field_noted : Turn → Rela → Calculation → List ℕ → Noted → Left
field_noted t e f a (noted p report) = with_report p report (field_of t e f 0 a)

-- the write by what the entry's symbol came to: by the address that a search found, which is kept, or by 0, and a report word
unfoldable pub write_sought : Turn → Rela → Calculation → ℕ → Result Sought Refused → Progress → List ℕ → List ℕ → Left
write_sought t e f i (Err x) p a report = left (Err x) p a report
write_sought t e f i (Ok (Known S)) p a report = with_report p report (field_of t e f S a)
write_sought t e f i (Ok (Searched S)) p a report = with_report (keeps (kept_as e.symbol S) p) report (field_of t e f S a)
write_sought t e f i (Ok (Missing y)) p a report = field_noted t e f a (keeps_weak e.symbol y (unresolved_of y t.number i p report))

-- the `n` bytes of the definition `d`, in the object at the link `s`, may be copied to the place `to` of the object whose turn it is: the
-- tests of refusal 18, and both ranges end inside an arena of `size` bytes
unfoldable pub copy_fits : ℕ → Turn → ℕ → Link → Definition → ℕ → Bool
copy_fits size t to s d n =
    both (not d.absolute)
    (both (nat_le (d.value + n) s.span)
    (both (nat_le (t.offset + to + n) size)
    (both (nat_le (s.offset + d.value + n) size)
    (either (nat_le (t.offset + to + n) (s.offset + d.value)) (nat_le (s.offset + d.value + n) (t.offset + to))))))

-- two ranges of `n` bytes of an arena of `size` bytes that are apart
abbrev pub CopyApart : ℕ → ℕ → ℕ → ℕ → Type 0
CopyApart size to start n = (to + n ≤ size) × (start + n ≤ size) × ((to + n ≤ start) ⊎ (start + n ≤ to))

-- 5: `n` bytes of the definition `d`, in the object at the link `s`
unfoldable pub copy_bytes : Turn → List Segment → ℕ → Link → Definition → ℕ → List ℕ → Wrote
copy_bytes t segments to s d n a =
    pick (n == 0) (wrote passed a)
    (pick (in_writable segments to n)
    (pick (copy_fits (length a) t to s d n) (wrote passed (patch a (t.offset + to) n (from (s.offset + d.value) (mem a)))) (wrote (refused 18 t.number) a))
    (wrote (refused 17 t.number) a))

unfoldable pub copy_of : List ℕ → Turn → List Segment → Rela → ℕ → Symbol → Option Hit → Progress → List ℕ → List ℕ → Left
copy_of table t segments e i y None p a report = with_arena a (unresolved_of y t.number i p report)
copy_of table t segments e i y (Some hit) p a report =
    with_report p report (copy_bytes t segments e.place (link_at table hit.object) hit.definition (min y.size hit.definition.size) a)

-- ---- an object's turn

abbrev pub turn_of : List ℕ → ℕ → Turn
turn_of table k =
    record {
      number = k;
      offset = (link_at table k).offset;
      span = (link_at table k).span;
      base = sum64 (address_in table) (link_at table k).offset;
    }

-- the record is read again, at the object's turn; what was loaded is not refused then
unfoldable pub again_refusal : List ℕ → List ℕ → ℕ
again_refusal image file = pick (nat_le (length (loads_of file)) 16) (read_refusal false image (loads_of file) (dynamic_of file)) 7

abbrev pub again_record : List ℕ → List ℕ → Record
again_record image file = record_at image (loads_of file) (dynamic_of file)

-- what an entry of a type does, by the words of the types that stand behind the address
unfoldable pub row_at : List ℕ → ℕ → Row
row_at table rtype = row_under (slice_index table (1026 + rtype)) rtype

module _ (table : List ℕ) where
  -- the search for a symbol's name, and COPY's
  abbrev pub sought_for : Turn → List ℕ → List ℕ → Option Hit
  sought_for t a name = resolve_links a table t.number name (gnu_hash name) (elf_hash name)

  abbrev pub sought_for_copy : List ℕ → List ℕ → Option Hit
  sought_for_copy a name = resolve_copy_links a table name (gnu_hash name) (elf_hash name)

  -- what the symbol of an entry comes to: 14, 15 or 17; 0, where it is not searched; the kept answer, where it is the symbol's; or a search
  unfoldable pub sought_of : Turn → Record → Rela → (ℕ → Bool) → Calculation → Option Kept → List ℕ → Result Symbol Refusal → Result Sought Refused
  sought_of t r e searched f kept a (Err x) = refused (refusal_number x) t.number
  sought_of t r e searched f kept a (Ok y) =
      pick (in_writable r.segments e.place f.width)
      (Ok (pick (searched e.symbol) (sought_or (kept_for kept e.symbol) y (sought_for t a (name_of (image_in a t) r y))) (Known 0)))
      (refused 17 t.number)

  unfoldable pub copying_of : Turn → Record → Rela → ℕ → Result Symbol Refusal → Progress → List ℕ → List ℕ → Left
  copying_of t r e i (Err x) p a report = left (refused (refusal_number x) t.number) p a report
  copying_of t r e i (Ok y) p a report = copy_of table t r.segments e i y (sought_for_copy a (name_of (image_in a t) r y)) p a report

  -- an entry, by the row of its type
  unfoldable pub run_action : Turn → Record → ℕ → Rela → Row → Progress → List ℕ → List ℕ → Left
  run_action t r i e ignored p a report = left passed p a report
  run_action t r i e passed_over p a report = with_arena a (note_of (report_sum 7 i) p report)
  run_action t r i e turned_away p a report = left (refused 16 t.number) p a report
  run_action t r i e marked_refuse p a report = left (refused 25 t.number) p a report
  run_action t r i e (writes no_search f) p a report = with_report p report (fixed_of t r.segments e f a)
  run_action t r i e (writes (in_scope searched) f) p a report =
      write_sought t e f i (sought_of t r e searched f p.kept a (checked_symbol (image_in a t) r e.symbol)) p a report
  run_action t r i e copies p a report = copying_of t r e i (checked_symbol (image_in a t) r e.symbol) p a report

  -- `n` entries of the table at `at` from entry `j` on; the table's first has the number `first`
  unfoldable pub run_table : Turn → Record → ℕ → ℕ → ℕ → ℕ → Progress → List ℕ → List ℕ → Left
  run_table t r at first zero j p a report = left passed p a report
  run_table t r at first (suc n) j p a report =
      unless_refused (run_table t r at first n (j + 1))
      (run_action t r ((first + j) % 2 ^ 32) (rela_at (image_in a t) at j) (row_at table (rela_at (image_in a t) at j).rtype) p a report)

  -- ---- an object

  -- RELA, then PLT
  unfoldable pub run_tables : Turn → Record → Progress → List ℕ → List ℕ → Left
  run_tables t r p a report =
      unless_refused (run_table t r r.plt (cut_to32 r.relas) (cut_to32 r.plts) 0)
      (run_table t r r.rela 0 (cut_to32 r.relas) 0 p a report)

  abbrev pub then_tables : Turn → Record → Summed → Noted → Left
  then_tables t r (summed z a) (noted p report) = pick (z == 0) (run_tables t r p a report) (left (refused z t.number) p a report)

  -- the report word of the object, RELR, RELA, PLT; no answer is kept before, since a symbol's index is the object's own
  unfoldable pub run_object : Turn → Record → Progress → List ℕ → List ℕ → Left
  run_object t r p a report =
      then_tables t r (run_relrs t r a) (note_of (report_sum 5 t.number) (keeps None p) report)

  -- ---- the objects

  -- object `k`, of that file
  unfoldable pub run_at : ℕ → List ℕ → Progress → List ℕ → List ℕ → Left
  run_at k file p a report =
      pick (again_refusal (image_in a (turn_of table k)) file == 0)
      (run_object (turn_of table k) (again_record (image_in a (turn_of table k)) file) p a report)
      (left (refused (again_refusal (image_in a (turn_of table k)) file) k) p a report)

  -- the objects of an order, of the set `os`
  unfoldable pub run_order : List Input → List ℕ → Progress → List ℕ → List ℕ → Left
  run_order os [] p a report = left passed p a report
  run_order os (k ∷ ks) p a report = unless_refused (run_order os ks) (run_at k (slice_index_or os k no_input).file p a report)

  -- ---- an object up to an entry

  -- RELR, then the first `m` entries of RELA and PLT
  abbrev pub until_tables : Turn → Record → ℕ → Progress → List ℕ → Summed → Left
  until_tables t r m p report (summed z a) =
      pick (z == 0)
      (unless_refused (run_table t r r.plt (cut_to32 r.relas) (min (cut_to32 r.plts) (m - min (cut_to32 r.relas) m)) 0)
      (run_table t r r.rela 0 (min (cut_to32 r.relas) m) 0 (keeps None p) a report))
      (left (refused z t.number) p a report)

  unfoldable pub run_until : ℕ → List ℕ → ℕ → Progress → List ℕ → List ℕ → Left
  run_until k file m p a report =
      until_tables (turn_of table k) (again_record (image_in a (turn_of table k)) file) m p report
      (run_relrs (turn_of table k) (again_record (image_in a (turn_of table k)) file) a)
