-- Parts of which some are taken.
use Rattle.std.specs.Prelude.{List, [], ◌∷◌}
use Rattle.just_ast_expressions.specs.declared.expression.Expression.{Expression}
use Rattle.just_ast_expressions.specs.declared.parts.Parts.{Parts}
use Rattle.just_ast_expressions.specs.declared.parts.Parts.TheVariants.{Empty, One, Two, Three, Listed}

-- those that are left, in their order
abbrev pub untaken : Parts → List Expression
untaken Empty = []
untaken (One first) = first ∷ []
untaken (Two first second) = first ∷ second ∷ []
untaken (Three first second third) = first ∷ second ∷ third ∷ []
untaken (Listed parts) = parts.items
