-- The same rules of one recipe are broken, and the same is told of it, by the tables of a module and by what its files say.
use Rattle.std.proofs.Common.{◌≡◌, ◌⊎◌, inl, inr, List, Option, subst, sym}
use Rattle.just_ast_expressions.specs.declared.expression.Expression.{Expression}
use Rattle.just_ast_expressions.specs.declared.settings.Settings.{Settings}
use Rattle.just_ast_references.specs.Numbers.{bare}
use Rattle.just_errors.specs.Causes.{Cause}
use Rattle.just_module_contents.specs.Constants.{value_among}
use Rattle.just_module_contents.specs.Contents.{Contents}
use Rattle.just_module_contents.specs.Known.{known_of}
use Rattle.just_module_contents.specs.RecipeValues.{BreaksRecipe, IsPastLimits, Unvalued, of_names, of_values}
use Rattle.just_module_variables.proofs.Asking.{misnames_known, misnames_tables, tables_functions}
use Rattle.just_module_variables.specs.Variables.{AreVariablesOf}
use Rattle.just_module_variables.specs.declared.variables.Variables.{Variables}
use Rattle.just_names.specs.Texts.{Text}
use Rattle.just_parts.specs.Evaluator.{Evaluator, Values, functions_by_name}
use Rattle.just_parts.specs.Known.{known}
use Rattle.just_parts.specs.Syntax.{SyntaxAnswers}
use Rattle.just_recipe.specs.declared.dependency.UnresolvedDependency.{UnresolvedDependency}
use Rattle.just_recipe.specs.declared.recipe.Recipe.{Recipe}

module _ (answers : SyntaxAnswers) (evaluator : Evaluator) (m : Contents) (it : Variables) (are : AreVariablesOf answers m it) (values : Values) (settings : Settings) where
  -- the value of an expression, by the tables
  abbrev pub value_here : Expression → Option (List Text)
  value_here e = evaluator.value (functions_by_name it.functions) values (bare e)

  pub value_same : value_here ≡ value_among evaluator m values
  value_same = λ i e. evaluator.value (tables_functions answers m it.assignments it.functions it.evaluation_order are i) values (bare e)

  -- the rules of one recipe, by the tables and by what the files say
  abbrev pub rule_here : Recipe UnresolvedDependency → Cause → Type 0
  rule_here = BreaksRecipe value_here answers (known answers it.assignments it.functions) settings

  abbrev pub rule_said : Recipe UnresolvedDependency → Cause → Type 0
  rule_said = BreaksRecipe (value_among evaluator m values) answers (known_of answers m) settings

  pub rule_told : (r : Recipe UnresolvedDependency) (c : Cause) → rule_here r c → rule_said r c
  rule_told r c (of_names w) = of_names (record { from = w.from; there = w.there; wrong = misnames_known answers m it.assignments it.functions it.evaluation_order are w.wrong })
  rule_told r c (of_values v) = of_values (subst (λ value. Unvalued value r c) value_same v)

  pub rule_back : (r : Recipe UnresolvedDependency) (c : Cause) → rule_said r c → rule_here r c
  rule_back r c (of_names w) = of_names (record { from = w.from; there = w.there; wrong = misnames_tables answers m it.assignments it.functions it.evaluation_order are w.wrong })
  rule_back r c (of_values v) = of_values (subst (λ value. Unvalued value r c) (sym value_same) v)

  -- and what an error may tell of it
  pub tells_told : (r : Recipe UnresolvedDependency) (c : Cause) → (rule_here r c ⊎ IsPastLimits value_here r c) → (rule_said r c ⊎ IsPastLimits (value_among evaluator m values) r c)
  tells_told r c (inl b) = inl (rule_told r c b)
  tells_told r c (inr p) = inr (subst (λ value. IsPastLimits value r c) value_same p)
