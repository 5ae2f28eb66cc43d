-- What names stand for in a module whose tables the code lends.
use Rattle.just_parts.specs.Known.{Known, known, sources}
use Rattle.just_parts.specs.Syntax.{SyntaxAnswers}
use Rattle.just_name_resolution.specs.declared.name_checks.Known as lent
use Rattle.just_name_resolution.specs.declared.needs.Tables.{Tables}

abbrev pub known_in : {A : Type 0} → SyntaxAnswers → lent.Known A → Known
known_in answers k = known answers k.assignments.now k.functions.now

-- what variables read in a module is told by its tables alone
abbrev pub tables_in : Tables → Known
tables_in t = sources t.assignments.now t.functions.now
