use Rattle.std.proofs.Common.{◌≡◌, ◌∙◌, ◌++◌, List, map}
use Rattle.std.specs.List.{flat_map}
use Rattle.just_ast_definitions.specs.declared.attribute.Attribute.{Attribute}
use Rattle.just_ast_definitions.specs.declared.attribute.NamedAttribute.{NamedAttribute}
use Rattle.just_ast_expressions.specs.declared.expression.Expression.{Expression}
use Rattle.just_parts.specs.Scopes.{attribute_expressions, compiled_expressions, environment_expressions, line_expressions, lines_read, in_attributes, parameter_expressions}
use Rattle.just_recipe.specs.declared.dependency.DependencyArgument.{DependencyArgument}
use Rattle.just_recipe.specs.declared.dependency.UnresolvedDependency.{UnresolvedDependency}
use Rattle.just_recipe_names.specs.Steps.{events}
use Rattle.just_recipe_names.specs.loops.Steps.{parameter_events, readings}
use Rattle.just_recipe_names.proofs.Walking.{walked}
use Rattle.just_recipe_names.proofs.steps.steps.Goals as goal

pub returns : goal.returns
returns g c =
    let r = c.args.recipe.now in
    let given : UnresolvedDependency → List Expression = λ d. map (λ (a : DependencyArgument). a.expression) d.arguments in
    let of : (Attribute Expression → List Expression) → List (NamedAttribute Expression) → List Expression = λ has. flat_map (λ (named : NamedAttribute Expression). has named.attribute) in
    let attributes = c.as_slice-attributes.ensures in
    walked (in_attributes compiled_expressions r) (in_attributes environment_expressions r) r.parameters (in_attributes attribute_expressions r)
    (flat_map line_expressions (lines_read (g.S.Syntax.answers c.args.syntax.now) c.args.settings.now r)) (flat_map given r.dependencies)
    (events c.push_dependencies.new.found.items) (events c.push_all_compiled.new.found.items) (events c.push_all_environment.new.found.items)
    (events c.push_parameters.new.found.items) (events c.push_attributes.new.found.items) (events c.push_body.new.found.items)
    (c.in_ok-push_all_compiled.ensures ∙ (λ i. events (c.new-found.ensures.items i) ++ readings (of compiled_expressions (attributes i))))
    (c.in_ok-push_all_environment.ensures ∙ (λ i. events c.push_all_compiled.new.found.items ++ readings (of environment_expressions (attributes i))))
    (c.in_ok-push_parameters.ensures ∙ (λ i. events c.push_all_environment.new.found.items ++ parameter_events parameter_expressions (c.as_slice.ensures i)))
    (c.in_ok-push_attributes.ensures ∙ (λ i. events c.push_parameters.new.found.items ++ readings (of attribute_expressions (attributes i))))
    c.in_ok-push_body.ensures
    (c.in_ok-push_dependencies.ensures ∙ (λ i. events c.push_body.new.found.items ++ readings (flat_map given (c.as_slice-2.ensures i))))
