use Rattle.std.proofs.Common.{◌∙◌, ◌++◌, List, ap, arith, map}
use Rattle.std.specs.List.{flat_map}
use Rattle.just_ast_expressions.specs.declared.expression.Expression.{Expression}
use Rattle.just_recipe.specs.declared.dependency.DependencyArgument.{DependencyArgument}
use Rattle.just_recipe.specs.declared.dependency.UnresolvedDependency.{UnresolvedDependency}
use Rattle.just_recipe_names.specs.Steps.{events}
use Rattle.just_recipe_names.specs.loops.Steps.{readings}
use Rattle.just_recipe_names.proofs.Walking.{one_read}
use Rattle.just_recipe_names.proofs.steps.push_dependencies.Goals as goal

pub loop-dependency-preserved : goal.loop-dependency-preserved
loop-dependency-preserved c =
    let expressions : List DependencyArgument → List Expression = map (λ (a : DependencyArgument). a.expression) in
    let given : UnresolvedDependency → List Expression = λ d. expressions d.arguments in
    let old = events c.loop-dependency.found.items in
    one_read given (events c.args.found.now.items ++ readings (flat_map given c.args.dependencies.now)) c.args.dependencies.now c.loop-dependency.dependency-index c.dependency-item.result
    old (events c.push_arguments.new.found.items) c.loop-dependency.invariant (omega arith) c.dependency-item.is
    (c.in_ok-push_arguments.ensures ∙ ap (λ taken. old ++ readings (expressions taken)) c.as_slice.ensures)
