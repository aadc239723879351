-- What stays while an object is relocated: its table bytes do (refusal 17 keeps writes in writable segments), and all that binding reads
-- of an object hangs on these alone. Document 01, refusals 12, 15 and 17. Assumes nothing.
use Rattle.std.specs.Prelude.{Bool, true, false, ◌≡◌, ℕ, length}
use mathlib.Core.List.{List, Memᴰ}
use Rattle.object.specs.TableBytes.{Agree}
use Rattle.object.specs.Symbol.{symbol_name}
use Rattle.object.specs.HashTable.{answer_by}
use Rattle.object.specs.HashCheck.{symbol_ok}
use Rattle.object.specs.Entries.{relas_from, relrs_from}
use Rattle.object.specs.Record.{Record, view_of, is_table_of, tables_ok, checked_symbol, need_name}

-- what is read of an object is the same in two images
pub record SameReadings (host : Bool) (r : Record) (image image' : List ℕ) : Type 0 where
  -- the answer for every name, with any hashes
  pub answers : (name : List ℕ) (g e : ℕ) → answer_by image' (view_of r) name g e ≡ answer_by image (view_of r) name g e
  -- the needs' names
  pub needs : (n : ℕ) → Memᴰ n r.needed → need_name image' r n ≡ need_name image r n
  -- the symbol of an entry, its refusals 14 and 15, and its name
  pub symbols : (index : ℕ) → checked_symbol image' r index ≡ checked_symbol image r index
  pub names :
      (index : ℕ) → symbol_ok (is_table_of r) image r.symbols r.strings index ≡ true
      → symbol_name image' r.symbols r.strings index ≡ symbol_name image r.symbols r.strings index
  -- the entries; those of the host are not read
  pub relas : host ≡ false → relas_from image' r.rela 0 r.relas ≡ relas_from image r.rela 0 r.relas
  pub plts : host ≡ false → relas_from image' r.plt 0 r.plts ≡ relas_from image r.plt 0 r.plts
  pub relrs : host ≡ false → relrs_from image' r.relr 0 r.relrs ≡ relrs_from image r.relr 0 r.relrs

-- of an object that refusal 12 does not meet, all that is read is the same in every image with the same table bytes
abbrev pub Invariance : Type 0
Invariance =
    (host : Bool) (r : Record) (image image' : List ℕ) → tables_ok host image r ≡ true → length image' ≡ length image
    → Agree (is_table_of r) image image'
    → SameReadings host r image image'
