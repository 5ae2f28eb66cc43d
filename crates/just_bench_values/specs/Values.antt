-- What expressions come to: lists of texts.
use Rattle.std.specs.Prelude.{◌==◌, ℕ, zero, suc, List, [], ◌∷◌, ◌++◌, codes, length, Option, None, Some, if◌then◌else◌}
use Rattle.std.specs.List.{flat_map}
use Rattle.std.specs.Option.{option_and_then, option_map, option_or}
use Rattle.std.specs.Str.{bytes_eq}
use Rattle.just_names.specs.Texts.{Text, joined}
use Rattle.just_names.specs.Name.{text_of_name}
use Rattle.just_ast_expressions.specs.declared.expression.Expression.{Expression, fold-Expression}
use Rattle.just_ast_expressions.specs.declared.expression.Shape.{Shape, fold-Shape}
use Rattle.just_ast_expressions.specs.declared.expression.Shape.TheOpen.{Shape-F, Expression-F}
use Rattle.just_ast_definitions.specs.declared.function_definition.FunctionDefinition.{FunctionDefinition}
use Rattle.just_ast_definitions.specs.declared.function_definition.FunctionParameter.{FunctionParameter}
use Rattle.just_parts.specs.Evaluator.{Functions, Values}

-- a value, or none
abbrev pub Outcome : Type 0
Outcome = Option (List Text)

-- all of several, where each of them is there
abbrev pub all_of : {A : Type 0} → List (Option A) → Option (List A)
all_of [] = Some []
all_of (first ∷ rest) = option_and_then (λ x. option_map (λ xs. x ∷ xs) (all_of rest)) first

-- a value as one text: its texts with a blank between them
abbrev pub one_text : List Text → Text
one_text = joined (codes " ")

-- two values put together as one text
abbrev pub put_together : List Text → List Text → List Text
put_together lhs rhs = (one_text lhs ++ one_text rhs) ∷ []

-- values one after another
abbrev pub one_after_another : List (List Text) → List Text
one_after_another = flat_map (λ value. value)

-- an expression comes to what its shape comes to
abbrev pub expression_layer : Expression-F Outcome Outcome → Outcome
expression_layer expression = expression.shape

-- The one recursion over expressions, where variables and calls come to what these functions say.
module _ (variable : Values) (call : Text → List (List Text) → Outcome) where
  -- one level, where what its parts come to stands for them
  abbrev pub value_layer : Shape-F Outcome Outcome → Outcome
  value_layer (Shape-F.StringLiteral cooked) = Some (cooked ∷ [])
  value_layer (Shape-F.Variable name number) = variable (text_of_name name)
  value_layer (Shape-F.Group contents) = contents
  value_layer (Shape-F.List elements) = option_map one_after_another (all_of elements)
  value_layer (Shape-F.Concatenation lhs rhs) = option_and_then (λ left. option_map (put_together left) rhs) lhs
  value_layer (Shape-F.Call name arguments) = option_and_then (call (text_of_name name)) (all_of arguments)
  value_layer _ = None

  unfoldable pub evaluated : Expression → Outcome
  evaluated = fold-Expression Outcome Outcome value_layer expression_layer

  unfoldable pub shape_evaluated : Shape → Outcome
  shape_evaluated = fold-Shape Outcome Outcome value_layer expression_layer

-- the values of parameters
abbrev pub bound : List FunctionParameter → List (List Text) → Values
bound [] values name = None
bound (p ∷ ps) [] name = None
bound (p ∷ ps) (value ∷ values) name = if bytes_eq (text_of_name p.name) name then Some value else bound ps values name

-- no parameter has a value
abbrev pub none_bound : Values
none_bound name = None

-- parameters hide constants
abbrev pub hiding : Values → Values → Values
hiding parameters constants name = option_or (parameters name) (constants name)

-- The body of a function, where its parameters have the values of its arguments. There is one argument for each.
abbrev pub body_with : (Values → Expression → Outcome) → List (List Text) → FunctionDefinition → Outcome
body_with value arguments f = if length f.parameters == length arguments then value (bound f.parameters arguments) f.body else None

-- a call of a function of the module
abbrev pub call_outcome : (Values → Expression → Outcome) → Functions → Text → List (List Text) → Outcome
call_outcome value functions name arguments = option_and_then (body_with value arguments) (functions name)

-- no call has a value
abbrev pub none_called : Text → List (List Text) → Outcome
none_called name arguments = None

-- The value of an expression in which so many calls may stand inside each other, among constants and parameters.
unfoldable pub value_with : ℕ → Functions → Values → Values → Expression → Outcome
value_with zero functions constants parameters = evaluated (hiding parameters constants) none_called
value_with (suc calls) functions constants parameters = evaluated (hiding parameters constants) (call_outcome (value_with calls functions constants) functions)

-- the value of an expression among constants
abbrev pub value_among_constants : Functions → Values → Expression → Outcome
value_among_constants functions constants = value_with 64 functions constants none_bound
