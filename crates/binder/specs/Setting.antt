-- What a set is bound with, beside its files and the sizes of arena and report: the definitions of its objects, and of what calls answer, take
-- it first. Document 01, "What is handed in": "the arena, its 64-bit address"; document 02, (f): "64 words that they edit, word t holding kind 9
-- (apply), 10 (pass) or 11 (refuse) and t below it". Assumes nothing.
use Rattle.std.specs.Prelude.{ℕ, Bool, true, List}
use Rattle.object.specs.RelocationTypes.{Row, ignored, row_in, types_ok, supplied_types}

pub record Setting : Type 0 where
  -- of the arena
  pub address : ℕ
  -- what an entry of a type does
  pub row : ℕ → Row
  -- whether the words may be handed in: not refusal 24
  pub typed : Bool

-- the setting of a call that binds, to which an address and the words of the types are handed in
abbrev pub setting_of : ℕ → List ℕ → Setting
setting_of address types = record { address = address; row = row_in types; typed = types_ok types }

-- under the supplied words
abbrev pub supplied_at : ℕ → Setting
supplied_at address = setting_of address supplied_types

-- the setting of a call that only asks: it takes no words, and relocates nothing
abbrev pub setting_at : ℕ → Setting
setting_at address = record { address = address; row = λ rtype. ignored; typed = true }
