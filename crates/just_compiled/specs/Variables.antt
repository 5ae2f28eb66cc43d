-- The variables and functions of a module, as its justfile has them.
use Rattle.just_justfile.specs.declared.justfile.Justfile.{Justfile, out-Justfile}
use Rattle.just_justfile.specs.Closed.{StandsIn}
use Rattle.just_module_contents.specs.Contents.{Contents}
use Rattle.just_parts.specs.Syntax.{SyntaxAnswers}
use Rattle.just_module_variables.specs.Variables.{AreTables, AreVariables}

-- a justfile has them
abbrev pub HasVariables : SyntaxAnswers → Contents → Justfile → Type 0
HasVariables answers m j = AreVariables answers m (out-Justfile j).assignments (out-Justfile j).functions (out-Justfile j).evaluation_order

-- each stands under its own name there, and no two variables have one number
abbrev pub HasTables : Justfile → Type 0
HasTables j = AreTables (out-Justfile j).assignments (out-Justfile j).functions

-- the same of each module that stands in one
abbrev pub HaveTables : Justfile → Type 0
HaveTables root = (j : Justfile) → StandsIn root j → HasTables j
