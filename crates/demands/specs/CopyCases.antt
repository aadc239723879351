-- Document 02, (h), "COPY places that cross": cases of two copies and of an entry. Words in quotes are document 02's. Each stands for one way to read
-- the request wrongly. Assumes nothing.
use Rattle.std.specs.Prelude.{true, false, List, [], ◌∷◌, ◌≡◌, ℕ}
use Rattle.model.specs.Symbols.{Definition, absent, answer}
use Rattle.model.specs.Objects.{Objs}
use Rattle.object.specs.RelocationTypes.{Row, passed_over}
use Rattle.object.specs.Record.{Record}
use Rattle.object.specs.declared.relocate.Rela.{Rela}
use Rattle.binder.specs.declared.crossing.Copy.{Copy}
use Rattle.binder.specs.Copies.{crosses, copy_found, copy_by, entry_copy}
use Rattle.binder.specs.Verdict.{refused, entry_refusal, entries_verdict}

-- `size` bytes from `source` to `to`
abbrev pub copy : ℕ → ℕ → ℕ → Copy
copy to source size = record { to = to; source = source; size = size }

pub record CopyCases : Type 0 where
  -- "no byte may be the destination of two": the same place, the last byte; touching is not crossing, on either side
  pub same_place : crosses (copy 0x2000 0x4008 8) (copy 0x2000 0x4000 8) ≡ true
  pub last_byte : crosses (copy 0x2007 0x4008 8) (copy 0x2000 0x4000 8) ≡ true
  pub behind : crosses (copy 0x2008 0x4008 8) (copy 0x2000 0x4000 8) ≡ false
  pub before : crosses (copy 0x1FF8 0x4008 8) (copy 0x2000 0x4000 8) ≡ false
  -- two sources may overlap
  pub same_source : crosses (copy 0x2008 0x4000 8) (copy 0x2000 0x4000 8) ≡ false
  -- "no byte of one's source may lie in another's destination": of the later one's, and of the earlier one's
  pub source_copied : crosses (copy 0x2000 0x4000 8) (copy 0x4000 0x1000 8) ≡ true
  pub source_written : crosses (copy 0x4000 0x1000 8) (copy 0x2000 0x4000 8) ≡ true
  -- "non-empty": where one of the sizes is 0, or nothing is found, there is no copy
  pub own_empty : (S : Objs) (k p d a : ℕ) (s : Definition) → copy_found S k p 0 (answer d s a) ≡ []
  pub found_nowhere : (S : Objs) (k p size : ℕ) → copy_found S k p size absent ≡ []
  -- entries of other rows make none
  pub passed_over : (S : Objs) (k : ℕ) (image : List ℕ) (r : Record) (e : Rela) → copy_by S k image r e passed_over ≡ []
  -- "after 18 in the entry's turn"
  pub refusal_18_first :
      (row : ℕ → Row) (S : Objs) (k : ℕ) (image : List ℕ) (r : Record) (earlier : List Copy) (e : Rela) (es : List Rela)
      → entry_refusal row S k image r e ≡ 18
      → entries_verdict row S k image r earlier (e ∷ es) ≡ refused 18 k
  -- "an entry that breaks this with an earlier one", of whichever object
  pub refusal_28 :
      (row : ℕ → Row) (S : Objs) (k : ℕ) (image : List ℕ) (r : Record) (e : Rela) (es : List Rela) → entry_refusal row S k image r e ≡ 0
      → entry_copy row S k image r e ≡ copy 0x2000 0x4008 8 ∷ []
      → entries_verdict row S k image r (copy 0x2004 0x6000 8 ∷ []) (e ∷ es) ≡ refused 28 k
