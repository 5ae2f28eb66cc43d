use Rattle.std.proofs.Common.{◌≡◌, ◌++◌, drop}
use Rattle.std.specs.List.{flat_map}
use Rattle.just_ast_definitions.specs.declared.attribute.NamedAttribute.{NamedAttribute}
use Rattle.just_ast_expressions.specs.declared.expression.Expression.{Expression}
use Rattle.just_parts.specs.Scopes.{attribute_expressions}
use Rattle.just_recipe_names.specs.Steps.{events}
use Rattle.just_recipe_names.specs.loops.Steps.{readings}
use Rattle.just_recipe_names.proofs.steps.push_attributes.Given as goal

abbrev pub invariant-loop-named : goal.invariant-loop-named
invariant-loop-named l =
    events l.fn.found.items ++ readings (flat_map (λ (named : NamedAttribute Expression). attribute_expressions named.attribute) l.attributes)
    ≡ events l.found.items ++ readings (flat_map (λ (named : NamedAttribute Expression). attribute_expressions named.attribute) (drop l.named-index l.attributes))
