-- Recipes with numbers and values are completed.
use Rattle.std.proofs.Common.{◌≡◌, ◌∙◌, Bool, List, [], ◌∷◌, ◌++◌, map, length, take, drop, Option, refl, sym, ap}
use Rattle.std.proofs.lemmas.List.{length-map}
use Rattle.std.specs.HashMap.{get}
use Rattle.std.specs.Str.{bytes_eq}
use Rattle.just_ast_definitions.specs.declared.attribute.NamedAttribute.{NamedAttribute}
use Rattle.just_ast_definitions.specs.declared.parameter.Parameter.{Parameter}
use Rattle.just_ast_expressions.specs.declared.expression.Expression.{Expression}
use Rattle.just_module_recipes.specs.Completed.{completed_by, value_here}
use Rattle.just_module_recipes.specs.loops.Completing.{IsCompleting, counts_of, paths_of}
use Rattle.just_module_recipes.specs.declared.completion.Completing.{Completing}
use Rattle.just_names.specs.Texts.{Text}
use Rattle.just_names.specs.declared.number.Number.{Number}
use Rattle.just_parts.specs.Evaluator.{Evaluator}
use Rattle.just_parts.specs.Syntax.{SyntaxAnswers}
use Rattle.just_recipe.specs.Grouping.{grouped, share}
use Rattle.just_recipe.specs.declared.dependency.UnresolvedDependency.{UnresolvedDependency}
use Rattle.just_recipe.specs.declared.recipe.Recipe.{Recipe}
use Rattle.just_recipe_names.specs.Numbered.{dependency_by, argument_given_by, number_under, numbered_by, numbered_parameters, under_parameters}
use Rattle.just_recipe_values.specs.Valued.{informed, valued_named}

-- arguments are grouped for parameters with numbers as for those without
grouped_alike : {A : Type 0} (number : List Parameter → Text → Option Number) (lists : Bool) (before ps : List Parameter) (left : List A) → grouped lists (numbered_parameters number before ps) left ≡ grouped lists ps left
grouped_alike number lists before [] left = refl
grouped_alike number lists before (p ∷ ps) left = ap (λ groups. take (share lists p (length left)) left ∷ groups) (grouped_alike number lists (before ++ p ∷ []) ps (drop (share lists p (length left)) left))

same_paths : (by : Expression → Expression) (ds : List UnresolvedDependency) → paths_of (map (dependency_by by) ds) ≡ paths_of ds
same_paths by [] = refl
same_paths by (d ∷ ds) = ap (λ ps. d.recipe ∷ ps) (same_paths by ds)

same_counts : (by : Expression → Expression) (ds : List UnresolvedDependency) → counts_of (map (dependency_by by) ds) ≡ counts_of ds
same_counts by [] = refl
same_counts by (d ∷ ds) = λ i. length-map d.arguments (argument_given_by by) i ∷ same_counts by ds i

-- and as for those that are told of by attributes
grouped_informed : {A : Type 0} (attributes : List (NamedAttribute Expression)) (lists : Bool) (ps : List Parameter) (left : List A) → grouped lists (map (informed attributes) ps) left ≡ grouped lists ps left
grouped_informed attributes lists [] left = refl
grouped_informed attributes lists (p ∷ ps) left = ap (λ groups. take (share lists p (length left)) left ∷ groups) (grouped_informed attributes lists ps (drop (share lists p (length left)) left))

pub is_completing : {S E : Type 0} (answers : SyntaxAnswers) (evaluator : Evaluator) (it : Completing S E) → IsCompleting (completed_by answers evaluator it)
is_completing answers evaluator it =
    let number = number_under (get bytes_eq it.meanings.bindings.now) answers in
    let numbered = numbered_by answers it.meanings in
    record {
      name = λ r. refl;
      number = λ r. refl;
      priors = λ r. refl;
      paths = λ r. same_paths (under_parameters number r.parameters) r.dependencies;
      counts = λ r. same_counts (under_parameters number r.parameters) r.dependencies;
      grouping = λ lists r arguments.
          grouped_informed (map (valued_named (value_here answers evaluator it)) (numbered r).attributes) lists (numbered r).parameters arguments
          ∙ grouped_alike number lists [] r.parameters arguments;
    }

-- what is completed has as many dependencies
pub as_many : (by : Recipe UnresolvedDependency → Recipe UnresolvedDependency) → IsCompleting by → (r : Recipe UnresolvedDependency) → length (by r).dependencies ≡ length r.dependencies
as_many by completes r =
    sym (length-map (by r).dependencies (λ (d : UnresolvedDependency). d.recipe)) ∙ (ap (λ ps. length ps) (completes.paths r) ∙ length-map r.dependencies (λ (d : UnresolvedDependency). d.recipe))
