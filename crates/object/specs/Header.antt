-- The ELF header. System V gABI, "ELF Header" (Elf64_Ehdr; the identification bytes are in "ELF Identification"); the machine number is
-- the x86-64 psABI's EM_X86_64. Document 01, refusals 4, 5 and 6. A file is the list of its bytes. Assumes nothing.
use Rattle.std.specs.Prelude.{Bool, List, ℕ, ◌+◌, ◌*◌, eqb, leb, length}
use Rattle.words.specs.Choice.{both}
use Rattle.words.specs.Memory.{mem}
use Rattle.words.specs.Words.{le_at}
use Rattle.object.specs.Refusal.{require}

-- e_ident: the bytes 0x7F, 'E', 'L', 'F', then the class and the data encoding
abbrev pub magic : List ℕ → ℕ
magic file = le_at 4 (mem file) 0

abbrev pub class : List ℕ → ℕ
class file = mem file 4

abbrev pub encoding : List ℕ → ℕ
encoding file = mem file 5

-- e_type, e_machine
abbrev pub file_type : List ℕ → ℕ
file_type file = le_at 2 (mem file) 16

abbrev pub machine : List ℕ → ℕ
machine file = le_at 2 (mem file) 18

-- e_phoff, e_phentsize, e_phnum: the program header table
abbrev pub table_start : List ℕ → ℕ
table_start file = le_at 8 (mem file) 32

abbrev pub header_size : List ℕ → ℕ
header_size file = le_at 2 (mem file) 54

abbrev pub header_count : List ℕ → ℕ
header_count file = le_at 2 (mem file) 56

abbrev pub table_end : List ℕ → ℕ
table_end file = table_start file + 56 * header_count file

-- not 4 "Under 64 bytes, magic wrong, or e_type not 3"
unfoldable pub is_shared_object : List ℕ → Bool
is_shared_object file = both (leb 64 (length file)) (both (eqb (magic file) 0x464c457f) (eqb (file_type file) 3))

-- not 5 "Class not 2, data not 1, machine not 62, or e_phentsize not 56"
unfoldable pub is_x86 : List ℕ → Bool
is_x86 file = both (eqb (class file) 2) (both (eqb (encoding file) 1) (both (eqb (machine file) 62) (eqb (header_size file) 56)))

-- not 6 "Over 64 program headers, or their table not inside the file"
unfoldable pub headers_inside : List ℕ → Bool
headers_inside file = both (leb (header_count file) 64) (leb (table_end file) (length file))

unfoldable pub header_refusal : List ℕ → ℕ
header_refusal file = require (is_shared_object file) 4 (require (is_x86 file) 5 (require (headers_inside file) 6 0))
