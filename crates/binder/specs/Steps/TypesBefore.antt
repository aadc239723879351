-- The list of types as it was fixed before document 02, (f): what an entry of a type did then, by document 01, "Relocated bytes and report", and
-- document 02, (b). No call binds by it; crates/demands, TypeCases (`SuppliedTypes`), says that the supplied words bind every set as it did. Assumes nothing.
use Rattle.std.specs.Prelude.{ℕ, true, ◌==◌}
use Rattle.words.specs.Choice.{pick}
use Rattle.words.specs.Words.{sum64, diff64}
use Rattle.object.specs.RelocationTypes.{Row, no_search, in_scope, every_symbol, not_symbol0, ignored, passed_over, turned_away, copies, writes, word64, unsigned32, signed32}
use Rattle.binder.specs.Setting.{Setting}

-- R_X86_64_NONE 0, 64 1, PC32 2, COPY 5, GLOB_DAT 6, JUMP_SLOT 7, RELATIVE 8, 32 10, 32S 11, PC64 24, IRELATIVE 37
unfoldable pub row_before : ℕ → Row
row_before rtype =
    pick (rtype == 0) ignored
    (pick (rtype == 1) (writes (in_scope not_symbol0) (word64 (λ S A B P. sum64 S A)))
    (pick (rtype == 2) (writes (in_scope not_symbol0) (signed32 (λ S A B P. diff64 (sum64 S A) P)))
    (pick (rtype == 5) copies
    (pick (rtype == 6) (writes (in_scope every_symbol) (word64 (λ S A B P. S)))
    (pick (rtype == 7) (writes (in_scope every_symbol) (word64 (λ S A B P. S)))
    (pick (rtype == 8) (writes no_search (word64 (λ S A B P. sum64 B A)))
    (pick (rtype == 10) (writes (in_scope not_symbol0) (unsigned32 (λ S A B P. sum64 S A)))
    (pick (rtype == 11) (writes (in_scope not_symbol0) (signed32 (λ S A B P. sum64 S A)))
    (pick (rtype == 24) (writes (in_scope not_symbol0) (word64 (λ S A B P. diff64 (sum64 S A) P)))
    (pick (rtype == 37) turned_away passed_over))))))))))

-- the setting of a call that bound then: no words were handed in, and 24 was not met
abbrev pub setting_before : ℕ → Setting
setting_before address = record { address = address; row = row_before; typed = true }
