-- What the loops without tests leave, each against the steps of Relocating: entries with words that are Relative or Symbolic one after another, and the words of a
-- bitmap, where all places lie in one writable segment. Nothing that is stated of `bind` and `query` rests on it. Assumes nothing.
use Rattle.std.specs.Prelude.{◌≡◌, ℕ, zero, suc, ◌+◌, ◌-◌, ◌*◌, ◌<◌, ◌≤◌, true, List, length, Option, None, Some, IfSome, Result, Ok, Err}
use Rattle.words.specs.declared.refusal.Refusal.{Refusal}
use Rattle.words.specs.Refusal.{refusal_number}
use Rattle.object.specs.TableBytes.{Agree}
use Rattle.object.specs.Steps.WritableRange.{WritableRange}
use Rattle.object.specs.Steps.FineRange.{FineOf}
use Rattle.object.specs.Record.{Record, is_table_of}
use Rattle.object.specs.declared.program_header.Segment.{Segment}
use Rattle.object.specs.declared.table_bytes.Writable.{Writable}
use Rattle.words.specs.Memory.{mem, patch}
use Rattle.words.specs.Words.{le_at, byte_of, sum64}
use Rattle.object.specs.Entries.{rela_at}
use Rattle.object.specs.Steps.Actions.{row_by, field_by, searched_by}
use Rattle.object.specs.declared.relocate.Field.{Field}
use Rattle.object.specs.declared.relocate.Action.TheVariants.{Symbolic}
use Rattle.scope.specs.declared.scope.Hit.{Hit}
use Rattle.binder.specs.declared.report.Progress.{Progress}
use Rattle.binder.specs.declared.turn.Turn.{Turn}
use Rattle.binder.specs.declared.relocate.Symbols.{Symbols}
use Rattle.binder.specs.declared.relocate.Reached.{Reached}
use Rattle.binder.specs.declared.relocate.SymbolEntry.{SymbolEntry}
use Rattle.binder.specs.Steps.Relocating.{keeps, image_in, Summed, summed, Shifted, then_relr, add_bits, run_table, row_at}

-- the table bytes of an object at its turn are in the arena `b` as they were in `a`
pub record TablesKept (t : Turn) (r : Record) (a b : List ℕ) : Type 0 where
  pub long : length b ≡ length a
  pub bytes : Agree (is_table_of r) (image_in a t) (image_in b t)

-- the `n` entries of the table at `at` lie in the object's span, which lies in an arena of `len` bytes, and `high` ends a word of the span
pub record InReach (len : ℕ) (t : Turn) (at n high : ℕ) : Type 0 where
  pub entries : at + 24 * n ≤ t.span
  pub span : t.offset + t.span ≤ len
  pub word : 8 ≤ high
  pub inside : high ≤ t.span

-- entry `i` of the table at `at` of the part `x` has type 8, its place is in low .. high, and its word was written: `y` is left
pub record RelativeWritten (base at low high i : ℕ) (x y : List ℕ) : Type 0 where
  pub acts : (rela_at x at i).rtype ≡ 8
  pub above : low ≤ (rela_at x at i).place
  pub below : (rela_at x at i).place + 8 ≤ high
  pub written : y ≡ patch x (rela_at x at i).place 8 (byte_of (sum64 base (rela_at x at i).addend))

-- the same of `m` entries from `i` on, one after another
unfoldable pub RelativesWritten : ℕ → ℕ → ℕ → ℕ → ℕ → ℕ → List ℕ → List ℕ → Type 0
RelativesWritten base at low high i zero x y = y ≡ x
RelativesWritten base at low high i (suc m) x y =
    (z : List ℕ) × RelativesWritten base at low high i m x z × RelativeWritten base at low high (i + m) z y

-- of the table of `n` entries at `at`, what is left from entry `i` on over the arena `a` is what is left from entry `j` on over `b`, for an
-- object in which low .. high is writable
abbrev pub EntriesPassed : List ℕ → Turn → ℕ → ℕ → ℕ → ℕ → ℕ → List ℕ → ℕ → List ℕ → Type 0
EntriesPassed table t at n low high i a j b =
    (r : Record) (first : ℕ) (p : Progress) (report : List ℕ)
    → WritableRange r.segments low high
    → (run_table table t r at first (n - j) j p b report ≡ run_table table t r at first (n - i) i p a report)
    × TablesKept t r a b

-- the object's symbols
pub record SymbolsOf (t : Turn) (r : Record) (y : Symbols) (a : List ℕ) : Type 0 where
  pub symbols : r.symbols ≡ y.symbols
  pub strings : r.strings ≡ y.strings
  pub fine : FineOf (image_in a t) r y.fits y.ends

-- the entry that stands at `k` of the arena `a` is Symbolic with a field of eight bytes, its place is in low .. high, and its symbol is searched
-- and needs no further test
pub record EntryHere (table a : List ℕ) (t : Turn) (y : Symbols) (k low high : ℕ) (field : Field) (place index name addend : ℕ) : Type 0 where
  pub acts : row_at table (le_at 4 (mem a) (k + 8)) ≡ row_by (Symbolic field)
  pub wide : (field_by field).width ≡ 8
  pub searched : searched_by field index ≡ true
  pub addend_is : addend ≡ le_at 8 (mem a) (k + 16)
  pub place_is : place ≡ le_at 8 (mem a) k
  pub above : low ≤ place
  pub below : place + 8 ≤ high
  pub index_is : index ≡ le_at 4 (mem a) (k + 12)
  pub few : index < y.fits
  pub name_is : name ≡ le_at 4 (mem a) (t.offset + y.symbols + 24 * index)
  pub named : name < y.ends

abbrev pub EntryRead : List ℕ → List ℕ → Turn → Symbols → ℕ → ℕ → ℕ → Option SymbolEntry → Type 0
EntryRead table a t y k low high None = Unit {0}
EntryRead table a t y k low high (Some x) = EntryHere table a t y k low high x.field x.place x.index x.name x.addend

-- the kept address, or what a search found
abbrev pub address_found : Option ℕ → Option Hit → Option ℕ
address_found (Some S) found = Some S
address_found None None = None
address_found None (Some hit) = Some hit.address

-- as EntriesPassed, with the answers that are kept: those of `s` before, those of `s'` after
abbrev pub SymbolsPassed : List ℕ → Turn → Symbols → ℕ → ℕ → ℕ → ℕ → Reached → List ℕ → Reached → List ℕ → Type 0
SymbolsPassed table t y at n low high s a s' b =
    (r : Record) (first : ℕ) (p : Progress) (report : List ℕ)
    → WritableRange r.segments low high
    → SymbolsOf t r y a
    → (run_table table t r at first (n - s'.next) s'.next (keeps s'.kept p) b report
    ≡ run_table table t r at first (n - s.next) s.next (keeps s.kept p) a report)
    × TablesKept t r a b

-- a run of both kinds, where a range may be writable
abbrev pub ManyPassed : List ℕ → Turn → Symbols → ℕ → ℕ → Option Writable → Reached → List ℕ → Reached → List ℕ → Type 0
ManyPassed table t y at n w s a s' b =
    (r : Record) (first : ℕ) (p : Progress) (report : List ℕ)
    → IfSome w (λ w. WritableRange r.segments w.low w.high)
    → SymbolsOf t r y a
    → (run_table table t r at first (n - s'.next) s'.next (keeps s'.kept p) b report
    ≡ run_table table t r at first (n - s.next) s.next (keeps s.kept p) a report)
    × TablesKept t r a b

-- an entry's location, or its refusal: what follows goes on from it, or is not done
abbrev pub go_on : (ℕ → List ℕ → Summed) → Result ℕ Refusal → List ℕ → Summed
go_on next (Ok location) x = next location x
go_on next (Err r) x = summed (refusal_number r) x

abbrev pub Moves : Result ℕ Refusal → List ℕ → Shifted → Type 0
Moves result x s = (next : ℕ → List ℕ → Summed) → go_on next result x ≡ then_relr next s

-- the words of a bitmap are added: the part `x` becomes `y`, where the 63 words from `location` on are writable
abbrev pub BitsPassed : ℕ → ℕ → ℕ → List ℕ → List ℕ → Type 0
BitsPassed base location bits x y =
    (segments : List Segment) → WritableRange segments location (location + 504) → summed 0 y ≡ add_bits base segments 63 location bits x
