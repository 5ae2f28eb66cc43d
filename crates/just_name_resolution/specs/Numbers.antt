-- Where the numbers of names are looked up.
use Rattle.std.specs.Prelude.{ℕ, List, Option}
use Rattle.std.specs.HashMap.{get}
use Rattle.std.specs.Option.{option_or}
use Rattle.std.specs.Str.{bytes_eq}
use Rattle.just_names.specs.declared.number.Number.{Number}
use Rattle.just_name_resolution.specs.declared.numbers.Numbers.{Numbers}
use Rattle.just_parts.specs.Syntax.{SyntaxAnswers}

-- the number of the parameter of a name, else that of the assignment, else that of the constant
abbrev pub number_in : {A : Type 0} → SyntaxAnswers → Numbers A → List ℕ → Option Number
number_in answers numbers name =
    option_or (get bytes_eq numbers.parameters.now name)
    (option_or (get bytes_eq numbers.assignments.now name) (answers.constant name))
