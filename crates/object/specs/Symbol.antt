-- Symbols. System V gABI, "Symbol Table": st_name, st_info (the binding is its high four bits), st_other (the visibility is its low two
-- bits), st_shndx, st_value, st_size; SHN_UNDEF 0, SHN_ABS 0xfff1; STB_GLOBAL 1, STB_WEAK 2; STV_DEFAULT 0, STV_PROTECTED 3.
-- Document 01: "exported means section not 0, binding 1 or 2, visibility 0 or 3". Assumes nothing.
use Rattle.std.specs.Prelude.{Bool, not, List, ℕ, ◌+◌, ◌*◌, ◌/◌, ◌%◌, eqb}
use Rattle.words.specs.Choice.{both, either}
use Rattle.words.specs.Memory.{mem}
use Rattle.words.specs.Words.{le_at}
use Rattle.words.specs.Names.{name_at}
use Rattle.object.specs.declared.symbol.Symbol.{Symbol}

-- the symbol whose 24 bytes stand at `at`
unfoldable pub symbol_from : List ℕ → ℕ → Symbol
symbol_from image at =
    record {
      name = le_at 4 (mem image) (at + 0);
      info = mem image (at + 4);
      other = mem image (at + 5);
      section = le_at 2 (mem image) (at + 6);
      value = le_at 8 (mem image) (at + 8);
      size = le_at 8 (mem image) (at + 16);
    }

-- symbol `s` of the table at `symbols`
abbrev pub symbol_at : List ℕ → ℕ → ℕ → Symbol
symbol_at image symbols s = symbol_from image (symbols + 24 * s)

-- the name of symbol `s`: st_name is an offset in the string table
abbrev pub symbol_name : List ℕ → ℕ → ℕ → ℕ → List ℕ
symbol_name image symbols strings s = name_at image (strings + le_at 4 (mem image) (symbols + 24 * s))

abbrev pub binding_of : Symbol → ℕ
binding_of y = y.info / 16

abbrev pub visibility_of : Symbol → ℕ
visibility_of y = y.other % 4

-- section not 0
abbrev pub is_defined : Symbol → Bool
is_defined y = not (eqb y.section 0)

-- binding 1 or 2
abbrev pub is_public : Symbol → Bool
is_public y = either (eqb (binding_of y) 1) (eqb (binding_of y) 2)

-- visibility 0 or 3
abbrev pub is_visible : Symbol → Bool
is_visible y = either (eqb (visibility_of y) 0) (eqb (visibility_of y) 3)

unfoldable pub is_exported : Symbol → Bool
is_exported y = both (is_defined y) (both (is_public y) (is_visible y))

-- section 0xfff1
abbrev pub is_absolute : Symbol → Bool
is_absolute y = eqb y.section 0xfff1

-- visibility 3
abbrev pub is_protected : Symbol → Bool
is_protected y = eqb (visibility_of y) 3
