use Rattle.std.proofs.Common.{◌≡◌, ◌++◌, drop}
use Rattle.std.specs.List.{flat_map}
use Rattle.just_module_contents.specs.Constants.{recipe_expressions}
use Rattle.just_parts.specs.Scopes.{compiled_expressions}
use Rattle.just_module_contents.specs.Recipes.{lent}
use Rattle.just_ast_definitions.specs.declared.attribute.NamedAttribute.{NamedAttribute}
use Rattle.just_ast_expressions.specs.declared.expression.Expression.{Expression}
use Rattle.just_module_variables.proofs.expressions.push_recipe.Given as goal

abbrev pub invariant-loop-named : goal.invariant-loop-named
invariant-loop-named l =
    lent l.fn.found.items ++ recipe_expressions l.recipe
    ≡ lent l.found.items ++ flat_map (λ (named : NamedAttribute Expression). compiled_expressions named.attribute) (drop l.named-index l.named-items)
