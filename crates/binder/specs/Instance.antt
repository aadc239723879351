-- The objects of a set as the model has them: its objects made of files by the reader's definitions. Document 01, "Placed bytes" ("base =
-- arena address + offset"), "An address for a name", "Relocated bytes and report"; document 02, (a). An object depends on its file, on whether
-- it is the host's, on its offset and on the setting, and on nothing else. Assumes nothing.
use Rattle.std.specs.Prelude.{ℕ, ◌+◌, ◌-◌, ◌*◌, ◌/◌, Bool, List, [], ◌∷◌, ◌++◌, map, Option, None, Some}
use Rattle.words.specs.Choice.{pick}
use Rattle.model.specs.Symbols.{Wanted, by_name, none, hit}
use Rattle.model.specs.Symbols as model
use Rattle.model.specs.Objects.{Entry, fixed, symbol, copy, pass, Obj}
use Rattle.object.specs.declared.relocate.Rela.{Rela}
use Rattle.object.specs.declared.hash_tables.Definition.{Definition}
use Rattle.object.specs.Symbol.{symbol_at, symbol_name}
use Rattle.object.specs.HashTable.{answer_in}
use Rattle.object.specs.RelocationTypes.{Row, no_search, in_scope, ignored, passed_over, turned_away, marked_refuse, copies, writes}
use Rattle.object.specs.Entries.{relas_from, relrs_from, Location, Word, place, nowhere, relr_words}
use Rattle.object.specs.Entries as entries
use Rattle.object.specs.Record.{Record, view_of}
use Rattle.object.specs.Placed.{object_span, object_align, object_bytes, object_image}
use Rattle.object.specs.Loaded.{object_record}
use Rattle.binder.specs.Setting.{Setting}

-- a file of the set, and whether it is the host's
pub record File : Type 0 where
  pub host : Bool
  pub bytes : List ℕ

abbrev pub file_image : File → List ℕ
file_image f = object_image f.host f.bytes

abbrev pub file_record : File → Record
file_record f = object_record f.host f.bytes

-- a symbol that answers
abbrev pub definition_of : Definition → model.Definition
definition_of d = record { index = d.index; value = d.value; size = d.size; protected = d.protected; absolute = d.absolute }

abbrev pub exported_of : Option Definition → model.Exported
exported_of None = none
exported_of (Some d) = hit (definition_of d)

-- the places of the words that RELR names; refusal 17 leaves no word before any address
unfoldable pub places_of : List Word → List ℕ
places_of [] = []
places_of (place p ∷ ws) = p ∷ places_of ws
places_of (nowhere ∷ ws) = places_of ws

unfoldable pub named_words : List ℕ → Record → List Word
named_words image r = relr_words entries.none (relrs_from image r.relr 0 r.relrs)

-- RELA, then PLT
unfoldable pub relas_of : List ℕ → Record → List Rela
relas_of image r = relas_from image r.rela 0 r.relas ++ relas_from image r.plt 0 r.plts

-- what an entry with that symbol searches for
abbrev pub wanted_by : List ℕ → Record → ℕ → Wanted
wanted_by image r index = by_name (symbol_name image r.symbols r.strings index)

-- what an entry is, by the row of its type; without a search S is 0
unfoldable pub entry_by : List ℕ → Record → ℕ → Rela → Row → Entry
entry_by image r base e ignored = pass
entry_by image r base e passed_over = pass
entry_by image r base e turned_away = pass
entry_by image r base e marked_refuse = pass
entry_by image r base e (writes no_search f) = fixed e.place f.width (f.value 0 e.addend base (base + e.place))
entry_by image r base e (writes (in_scope searched) f) =
    pick (searched e.symbol)
    (symbol e.place f.width (wanted_by image r e.symbol) (λ S. f.value S e.addend base (base + e.place)))
    (fixed e.place f.width (f.value 0 e.addend base (base + e.place)))
entry_by image r base e copies =
    copy e.place (wanted_by image r e.symbol) (symbol_at image r.symbols e.symbol).size

-- `row` says what an entry of a type does
abbrev pub entry_of : (ℕ → Row) → List ℕ → Record → ℕ → Rela → Entry
entry_of row image r base e = entry_by image r base e (row e.rtype)

-- the object of a file at an offset, in a setting; the host's relocation tables are not read
unfoldable pub object_at : Setting → File → ℕ → Obj
object_at setting f off =
    record {
      offset = off;
      span = object_span f.host f.bytes;
      base = setting.address + off;
      image = object_bytes f.host f.bytes;
      find = λ wanted. exported_of (answer_in (file_image f) (view_of (file_record f)) wanted.name);
      words = pick f.host [] (places_of (named_words (file_image f) (file_record f)));
      entries = pick f.host [] (map (entry_of setting.row (file_image f) (file_record f) (setting.address + off)) (relas_of (file_image f) (file_record f)));
    }

-- ---- where an object goes: "Each object after the host goes to the next free offset where arena address plus offset is a multiple of" its
-- alignment

-- the least multiple of `align` that is no less
abbrev pub multiple_from : ℕ → ℕ → ℕ
multiple_from align a = (a + (align - 1)) / align * align

-- the offset of an object of that alignment, `free` being the next free offset
unfoldable pub next_offset : Bool → ℕ → ℕ → ℕ → ℕ
next_offset host align address free = pick host free (multiple_from align (address + free) - address)

abbrev pub offset_of : Setting → File → ℕ → ℕ
offset_of setting f free = next_offset f.host (object_align f.host f.bytes) setting.address free

-- the object of a file, `free` being the next free offset
unfoldable pub object_from : Setting → File → ℕ → Obj
object_from setting f free = object_at setting f (offset_of setting f free)
