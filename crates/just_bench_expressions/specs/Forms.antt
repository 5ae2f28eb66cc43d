-- How expressions are spelled, told by their forms alone.
use Rattle.std.specs.Prelude.{codes, List, [], ◌++◌}
use Rattle.std.specs.List.{Contains}
use Rattle.just_names.specs.Name.{text_of_name}
use Rattle.just_names.specs.Texts.{Text, joined}
use Rattle.just_ast_expressions.specs.declared.expression.Expression.{Expression, fold-Expression}
use Rattle.just_ast_expressions.specs.declared.expression.Shape.TheOpen.{Shape-F, Expression-F}
use Rattle.just_ast_expressions.specs.Parts.{parts}

-- spellings with a comma and a blank between any two
abbrev pub listed : List Text → Text
listed = joined (codes ", ")

-- one form, where the spellings of its parts stand for them; the forms that this grammar does not have are spelled by nothing
abbrev pub form_spelling : Shape-F Text Text → Text
form_spelling (Shape-F.StringLiteral cooked) = codes "'" ++ cooked ++ codes "'"
form_spelling (Shape-F.Variable name number) = text_of_name name
form_spelling (Shape-F.Call name arguments) = text_of_name name ++ codes "(" ++ listed arguments ++ codes ")"
form_spelling (Shape-F.Group contents) = codes "(" ++ contents ++ codes ")"
form_spelling (Shape-F.List elements) = codes "[" ++ listed elements ++ codes "]"
form_spelling (Shape-F.Concatenation lhs rhs) = lhs ++ codes " + " ++ rhs
form_spelling _ = []

-- an expression is spelled as its form is
abbrev pub as_its_form : Expression-F Text Text → Text
as_its_form expression = expression.shape

-- the spelling of an expression
unfoldable pub spelling : Expression → Text
spelling = fold-Expression Text Text form_spelling as_its_form

-- one expression is part of another: it is that one, or part of a part of it
pub data IsPartOf : Expression → Expression → Type 0 where
  itself : {whole : Expression} → IsPartOf whole whole
  inside : {whole part e : Expression} → Contains (parts whole) part → IsPartOf part e → IsPartOf whole e
