use Rattle.std.proofs.Common.{◌≡◌, ◌⊎◌, List, [], Option, None, ap, inl, inr, refl, rules}
use Rattle.std.proofs.lemmas.Result.{IfErr-weaker}
use Rattle.std.specs.HashMap.{get}
use Rattle.std.specs.Str.{bytes_eq}
use Rattle.just_ast_expressions.specs.declared.expression.Expression.{Expression}
use Rattle.just_ast_expressions.specs.declared.settings.Settings.{Settings}
use Rattle.just_ast_references.specs.Numbers.{with_numbers}
use Rattle.just_ast_references.proofs.Renumbering.{numbers_stay}
use Rattle.just_errors.proofs.Lifts.{reports_by}
use Rattle.just_errors.specs.Causes.{Cause, Keeps, Reports}
use Rattle.just_module_contents.specs.RecipeNames.{BreaksRecipeNames}
use Rattle.just_module_contents.specs.RecipeValues.{BreaksRecipe, IsPastLimits, Unvalued, of_names, of_values}
use Rattle.just_module_recipes.specs.Completed.{TellsOne, value_here}
use Rattle.just_module_recipes.specs.declared.completion.Completing.{Completing}
use Rattle.just_module_recipes.proofs.NumberedValues.{covers_still, tells_back, unvalued_forth}
use Rattle.just_names.specs.Texts.{Text}
use Rattle.just_names.specs.declared.number.Number.{Number}
use Rattle.just_parts.specs.Evaluator.{Evaluator, functions_by_name, scope_values}
use Rattle.just_parts.specs.Known.{Known, known, sources}
use Rattle.just_parts.specs.Syntax.{SyntaxAnswers}
use Rattle.just_recipe.specs.declared.dependency.UnresolvedDependency.{UnresolvedDependency}
use Rattle.just_recipe.specs.declared.recipe.Recipe.{Recipe}
use Rattle.just_recipe_names.specs.Numbered.{number_under, under_parameters}
use Rattle.just_recipe_values.specs.Among.{TellsOf}
use Rattle.just_module_recipes.proofs.completion.complete.Goals as goal

-- numbers make no difference to a value
value_still : {S E : Type 0} (answers : SyntaxAnswers) (evaluator : Evaluator) (it : Completing S E) (number_of : Text → Option Number) (e : Expression) → value_here answers evaluator it (with_numbers number_of e) ≡ value_here answers evaluator it e
value_still answers evaluator it number_of e = ap (evaluator.value (functions_by_name it.among.functions.now) (scope_values it.among.constants.now)) (numbers_stay number_of (λ name. None) e)

-- a recipe whose names and whose values are as they have to be keeps its rules
one_kept : (value : Expression → Option (List Text)) (answers : SyntaxAnswers) (m : Known) (settings : Settings) (r : Recipe UnresolvedDependency) → Keeps (BreaksRecipeNames answers m settings r) → Keeps (Unvalued value r) → Keeps (BreaksRecipe value answers m settings r)
one_kept value answers m settings r names values c (of_names b) = names c b
one_kept value answers m settings r names values c (of_values b) = values c b

-- what is told of values is told of a recipe
told : {value : Expression → Option (List Text)} {answers : SyntaxAnswers} {m : Known} {settings : Settings} {r : Recipe UnresolvedDependency} {c : Cause} → (Unvalued value r c ⊎ IsPastLimits value r c) → (BreaksRecipe value answers m settings r c ⊎ IsPastLimits value r c)
told (inl b) = inl (of_values b)
told (inr p) = inr p

pub returns-in_err-check_recipe-clause-named : goal.returns-in_err-check_recipe-clause-named
returns-in_err-check_recipe-clause-named g c =
    let it = c.args.completing.now in
    let answers = g.S.Syntax.answers it.meanings.syntax.now in
    let read = BreaksRecipeNames answers (known answers it.among.assignments.now it.among.functions.now) it.meanings.settings.now c.args.recipe.now in
    IfErr-weaker c.from_residual.result (Reports read) _
    (λ e h. reports_by read (TellsOne answers (g.E.ConstantEvaluation.answers it.among.evaluation.now) it c.args.recipe.now) (λ x k. inl (of_names k)) e h) (search rules)

pub valued_recipe-requires : goal.valued_recipe-requires
valued_recipe-requires g c =
    let it = c.args.completing.now in
    let answers = g.S.Syntax.answers it.meanings.syntax.now in
    let evaluator = g.E.ConstantEvaluation.answers it.among.evaluation.now in
    let number = number_under (get bytes_eq it.meanings.bindings.now) answers in
    let r = c.args.recipe.now in
    let made_is = ap (λ (x : Recipe UnresolvedDependency). x.attributes) c.in_ok-numbered.ensures in
    covers_still (value_here answers evaluator it) (under_parameters number []) (under_parameters number r.parameters) (value_still answers evaluator it (number [])) r c.in_ok-numbered.numbered made_is
    (sources it.among.assignments.now it.among.functions.now) (scope_values it.among.constants.now) (number []) (λ e. refl) c.requires.covered

pub returns-in_err-made-clause-named : goal.returns-in_err-made-clause-named
returns-in_err-made-clause-named g c =
    let it = c.args.completing.now in
    let answers = g.S.Syntax.answers it.meanings.syntax.now in
    let evaluator = g.E.ConstantEvaluation.answers it.among.evaluation.now in
    let number = number_under (get bytes_eq it.meanings.bindings.now) answers in
    let value = value_here answers evaluator it in
    let r = c.args.recipe.now in
    let numbered = c.in_ok-numbered.numbered in
    let made_is = ap (λ (x : Recipe UnresolvedDependency). x.attributes) c.in_ok-numbered.ensures in
    IfErr-weaker c.from_residual-in_err-made.result (Reports (TellsOf value numbered)) _
    (λ e h. reports_by (TellsOf value numbered) (TellsOne answers evaluator it r)
    (λ x k. told (tells_back value (under_parameters number []) (under_parameters number r.parameters) (value_still answers evaluator it (number [])) r numbered made_is x k)) e h) (search rules)

pub returns-clause-kept : goal.returns-clause-kept
returns-clause-kept g c =
    let it = c.args.completing.now in
    let answers = g.S.Syntax.answers it.meanings.syntax.now in
    let evaluator = g.E.ConstantEvaluation.answers it.among.evaluation.now in
    let number = number_under (get bytes_eq it.meanings.bindings.now) answers in
    let value = value_here answers evaluator it in
    let r = c.args.recipe.now in
    let made_is = ap (λ (x : Recipe UnresolvedDependency). x.attributes) c.in_ok-numbered.ensures in
    one_kept value answers (known answers it.among.assignments.now it.among.functions.now) it.meanings.settings.now r c.in_ok-check_recipe.ensures.kept
    (λ x b. c.in_ok-made.ensures.kept x (unvalued_forth value (under_parameters number []) (under_parameters number r.parameters) (value_still answers evaluator it (number [])) r c.in_ok-numbered.numbered made_is x b))
