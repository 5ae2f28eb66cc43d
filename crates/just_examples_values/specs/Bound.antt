-- What holds of the modules and the values that are asked among.
use Rattle.just_justfile.specs.declared.justfile.Justfile.{Justfile, out-Justfile}
use Rattle.just_names.specs.Index.{texts_of_names}
use Rattle.just_parts.specs.Known.{Known, sources}
use Rattle.just_parts.specs.Needs.{HaveNumbersApart}
use Rattle.just_parts.specs.Reading.{IsEvaluationOrder}

-- what the tables of a module say
abbrev pub tables_of : Justfile → Known
tables_of j = sources (out-Justfile j).assignments (out-Justfile j).functions

-- the order of a module is one in which its variables are evaluated
abbrev pub IsInOrder : Justfile → Type 0
IsInOrder j = IsEvaluationOrder (tables_of j) (texts_of_names (out-Justfile j).evaluation_order)

-- no two of its variables have one number
abbrev pub TellApart : Justfile → Type 0
TellApart j = HaveNumbersApart (tables_of j)
