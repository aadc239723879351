-- What the code keeps of an object, and how it answers. Assumes nothing.
use Rattle.std.specs.Prelude.{ℕ, List, Option, Some, None, eqb}
use Rattle.words.specs.Choice.{pick}
use Rattle.sheet.specs.Sheet.{Input, duplicate_of}
use Rattle.sheet.specs.declared.sheet.Object.{Object}

abbrev pub input_of : Object → Input
input_of o = record { file = o.file.now; name = o.name.now }

-- refusal 3: the object, if there is one
abbrev pub duplicate_in : List Input → Option ℕ
duplicate_in os = pick (eqb (duplicate_of os) 0) None (Some (duplicate_of os))
