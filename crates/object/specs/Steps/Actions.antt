-- The code's actions, and the row of RelocationTypes that each stands for. Assumes nothing.
use Rattle.std.specs.Prelude.{Bool, ℕ}
use Rattle.words.specs.Words.{sum64, diff64}
use Rattle.object.specs.RelocationTypes.{Calculation, Row, no_search, in_scope, every_symbol, not_symbol0, ignored, passed_over, turned_away, marked_refuse, copies, writes, word64, unsigned32, signed32}
use Rattle.object.specs.declared.relocate.Action.{Action}
use Rattle.object.specs.declared.relocate.Action.TheVariants.{Ignored, Passed, Relative, Symbolic, Copy, Irelative, Refused}
use Rattle.object.specs.declared.relocate.Field.{Field}
use Rattle.object.specs.declared.relocate.Field.TheVariants.{Address, Direct64, Pc64, Pc32, Direct32, Direct32S}

-- what `Relative` writes
abbrev pub relative_word : Calculation
relative_word = word64 (λ S A B P. sum64 B A)

-- what a field gets, and the symbols that are searched for it
abbrev pub field_by : Field → Calculation
field_by Address = word64 (λ S A B P. S)
field_by Direct64 = word64 (λ S A B P. sum64 S A)
field_by Pc64 = word64 (λ S A B P. diff64 (sum64 S A) P)
field_by Pc32 = signed32 (λ S A B P. diff64 (sum64 S A) P)
field_by Direct32 = unsigned32 (λ S A B P. sum64 S A)
field_by Direct32S = signed32 (λ S A B P. sum64 S A)

abbrev pub searched_by : Field → ℕ → Bool
searched_by Address = every_symbol
searched_by Direct64 = not_symbol0
searched_by Pc64 = not_symbol0
searched_by Pc32 = not_symbol0
searched_by Direct32 = not_symbol0
searched_by Direct32S = not_symbol0

abbrev pub row_by : Action → Row
row_by Ignored = ignored
row_by Passed = passed_over
row_by Relative = writes no_search relative_word
row_by (Symbolic f) = writes (in_scope (searched_by f)) (field_by f)
row_by Copy = copies
row_by Irelative = turned_away
row_by Refused = marked_refuse
