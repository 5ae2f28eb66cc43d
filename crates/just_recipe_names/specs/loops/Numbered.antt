-- What private functions say beside `Numbered.antt`.
use Rattle.just_ast_expressions.specs.declared.expression.Expression.{Expression}
use Rattle.just_ast_references.specs.Numbers.{with_numbers}
use Rattle.just_name_resolution.specs.Numbers.{number_in}
use Rattle.just_name_resolution.specs.declared.numbers.Numbers.{Numbers}
use Rattle.just_parts.specs.Syntax.{SyntaxAnswers}

-- an expression whose names have the numbers that are looked up
abbrev pub looked_up : {A : Type 0} → SyntaxAnswers → Numbers A → Expression → Expression
looked_up answers numbers = with_numbers (number_in answers numbers)
