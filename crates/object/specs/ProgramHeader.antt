-- The program headers. System V gABI, "Program Header" (Elf64_Phdr: p_type, p_flags, p_offset, p_vaddr, p_filesz, p_memsz, p_align; PF_X 1,
-- PF_W 2, PF_R 4). Document 01, "PT_LOAD (1)", "The last PT_DYNAMIC (2) counts". Assumes nothing.
use Rattle.std.specs.Prelude.{List, [], ◌∷◌, ◌++◌, ℕ, zero, suc, ◌+◌, ◌*◌, eqb, Option, None, Some}
use Rattle.words.specs.Choice.{pick}
use Rattle.words.specs.Memory.{mem}
use Rattle.words.specs.Words.{le_at}
use Rattle.object.specs.Header.{table_start, header_count}
use Rattle.object.specs.declared.program_header.Segment.{Segment}

-- p_type of header `i`
abbrev pub type_at : List ℕ → ℕ → ℕ
type_at file i = le_at 4 (mem file) (table_start file + 56 * i)

-- the other fields of header `i`
unfoldable pub segment_at : List ℕ → ℕ → Segment
segment_at file i =
    record {
      flags = le_at 4 (mem file) (table_start file + (56 * i + 4));
      offset = le_at 8 (mem file) (table_start file + (56 * i + 8));
      vaddr = le_at 8 (mem file) (table_start file + (56 * i + 16));
      filesz = le_at 8 (mem file) (table_start file + (56 * i + 32));
      memsz = le_at 8 (mem file) (table_start file + (56 * i + 40));
      align = le_at 8 (mem file) (table_start file + (56 * i + 48));
    }

-- the PT_LOAD headers among the first `n`, in their order
unfoldable pub loads_in : List ℕ → ℕ → List Segment
loads_in file zero = []
loads_in file (suc n) = loads_in file n ++ pick (eqb (type_at file n) 1) (segment_at file n ∷ []) []

abbrev pub loads_of : List ℕ → List Segment
loads_of file = loads_in file (header_count file)

-- p_vaddr of the last PT_DYNAMIC among the first `n`, where there is one
unfoldable pub dynamic_in : List ℕ → ℕ → Option ℕ
dynamic_in file zero = None
dynamic_in file (suc n) = pick (eqb (type_at file n) 2) (Some (segment_at file n).vaddr) (dynamic_in file n)

abbrev pub dynamic_of : List ℕ → Option ℕ
dynamic_of file = dynamic_in file (header_count file)
