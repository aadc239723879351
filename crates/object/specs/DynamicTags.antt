-- The tags of the dynamic array that are read, as DT.NAME. System V gABI, "Dynamic Section", "Dynamic Array Tags" (DT_RELR and DT_RELRSZ
-- among them); DT_GNU_HASH has the number of the DT_GNU_HASH text. Assumes nothing.
use Rattle.std.specs.Prelude.{ℕ}

abbrev pub NEEDED : ℕ
NEEDED = 1

abbrev pub PLTRELSZ : ℕ
PLTRELSZ = 2

abbrev pub HASH : ℕ
HASH = 4

abbrev pub STRTAB : ℕ
STRTAB = 5

abbrev pub SYMTAB : ℕ
SYMTAB = 6

abbrev pub RELA : ℕ
RELA = 7

abbrev pub RELASZ : ℕ
RELASZ = 8

abbrev pub RELAENT : ℕ
RELAENT = 9

abbrev pub SYMENT : ℕ
SYMENT = 11

abbrev pub INIT : ℕ
INIT = 12

abbrev pub FINI : ℕ
FINI = 13

abbrev pub PLTREL : ℕ
PLTREL = 20

abbrev pub JMPREL : ℕ
JMPREL = 23

abbrev pub INIT_ARRAY : ℕ
INIT_ARRAY = 25

abbrev pub FINI_ARRAY : ℕ
FINI_ARRAY = 26

abbrev pub INIT_ARRAYSZ : ℕ
INIT_ARRAYSZ = 27

abbrev pub FINI_ARRAYSZ : ℕ
FINI_ARRAYSZ = 28

abbrev pub PREINIT_ARRAY : ℕ
PREINIT_ARRAY = 32

abbrev pub PREINIT_ARRAYSZ : ℕ
PREINIT_ARRAYSZ = 33

abbrev pub RELRSZ : ℕ
RELRSZ = 35

abbrev pub RELR : ℕ
RELR = 36

abbrev pub GNU_HASH : ℕ
GNU_HASH = 0x6ffffef5
