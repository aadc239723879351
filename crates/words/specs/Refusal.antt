-- The numbers of the refusals, as the rules give them; docs/REFUSALS.md says what each means.
use Rattle.std.specs.Prelude.{ℕ, Result, Ok, Err}
use Rattle.words.specs.declared.refusal.Refusal.{Refusal}
use Rattle.words.specs.declared.refusal.Refusal.TheVariants as refusals

abbrev pub refusal_number : Refusal → ℕ
refusal_number refusals.Sheet = 1
refusal_number refusals.Arena = 2
refusal_number refusals.Duplicate = 3
refusal_number refusals.NoSharedObject = 4
refusal_number refusals.OtherMachine = 5
refusal_number refusals.HeaderTable = 6
refusal_number refusals.Segments = 7
refusal_number refusals.Room = 8
refusal_number refusals.NoDynamicArray = 9
refusal_number refusals.NoTables = 10
refusal_number refusals.TableSizes = 11
refusal_number refusals.TableBytes = 12
refusal_number refusals.Requester = 13
refusal_number refusals.SymbolIndex = 14
refusal_number refusals.SymbolBytes = 15
refusal_number refusals.Irelative = 16
refusal_number refusals.NotWritable = 17
refusal_number refusals.CopyRange = 18
refusal_number refusals.Undefined = 19
refusal_number refusals.ReportRoom = 20
refusal_number refusals.Alignment = 21
refusal_number refusals.FieldRange = 22
refusal_number refusals.NameList = 23
refusal_number refusals.Types = 24
refusal_number refusals.RefusedType = 25
refusal_number refusals.Arrays = 26
refusal_number refusals.ListRoom = 27
refusal_number refusals.Crossing = 28
refusal_number refusals.Order = 35

-- what a call came to, by number: 0 where it was not refused
abbrev pub refused_by : {A : Type 0} → Result A Refusal → ℕ
refused_by (Ok x) = 0
refused_by (Err r) = refusal_number r
