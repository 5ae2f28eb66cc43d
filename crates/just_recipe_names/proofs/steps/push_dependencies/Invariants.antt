use Rattle.std.proofs.Common.{◌≡◌, ◌++◌, drop, map}
use Rattle.std.specs.List.{flat_map}
use Rattle.just_recipe.specs.declared.dependency.DependencyArgument.{DependencyArgument}
use Rattle.just_recipe.specs.declared.dependency.UnresolvedDependency.{UnresolvedDependency}
use Rattle.just_recipe_names.specs.Steps.{events}
use Rattle.just_recipe_names.specs.loops.Steps.{readings}
use Rattle.just_recipe_names.proofs.steps.push_dependencies.Given as goal

abbrev pub invariant-loop-dependency : goal.invariant-loop-dependency
invariant-loop-dependency l =
    events l.fn.found.items ++ readings (flat_map (λ (d : UnresolvedDependency). map (λ (a : DependencyArgument). a.expression) d.arguments) l.dependencies)
    ≡ events l.found.items ++ readings (flat_map (λ (d : UnresolvedDependency). map (λ (a : DependencyArgument). a.expression) d.arguments) (drop l.dependency-index l.dependencies))
