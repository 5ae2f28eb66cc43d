-- What short calls of a recipe answer.
use Rattle.std.specs.Prelude.{Bool, true, false, not, ◌&&◌}
use Rattle.std.specs.List.{list_any}
use Rattle.just_ast_definitions.specs.declared.attribute.Attribute.{Attribute}
use Rattle.just_ast_definitions.specs.declared.attribute.Attribute.TheVariants as attribute
use Rattle.just_ast_definitions.specs.declared.attribute.NamedAttribute.{NamedAttribute}
use Rattle.just_ast_expressions.specs.declared.expression.Expression.{Expression}
use Rattle.just_recipe.specs.declared.recipe.Recipe.{Recipe}

-- the attributes that say it
abbrev pub is_parallel_said : Attribute Expression → Bool
is_parallel_said attribute.Parallel = true
is_parallel_said _ = false

abbrev pub says_parallel : NamedAttribute Expression → Bool
says_parallel named = is_parallel_said named.attribute

abbrev pub is_private_said : Attribute Expression → Bool
is_private_said attribute.Private = true
is_private_said _ = false

abbrev pub says_private : NamedAttribute Expression → Bool
says_private named = is_private_said named.attribute

module _ {D : Type 0} where
  -- its dependencies may run beside each other
  abbrev pub is_parallel : Recipe D → Bool
  is_parallel r = list_any says_parallel r.attributes

  -- it is private neither by its name nor by an attribute
  abbrev pub is_public : Recipe D → Bool
  is_public r = not r.private && not (list_any says_private r.attributes)
