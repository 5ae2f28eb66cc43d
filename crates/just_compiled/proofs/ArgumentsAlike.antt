-- A recipe that is completed takes as many arguments as the recipe as it is.
use Rattle.std.proofs.Common.{◌≡◌, ◌∙◌, ◌+◌, ◌||◌, ◌++◌, ◌∷◌, ℕ, Bool, cond, if◌then◌else◌, List, [], length, map, suc, Option, None, Some, ap, refl, sym}
use Rattle.std.proofs.lemmas.List.Sums.{sum_by-cons}
use Rattle.std.specs.List.{list_any}
use Rattle.std.specs.Option.{option_map}
use Rattle.just_ast_definitions.specs.declared.attribute.NamedAttribute.{NamedAttribute}
use Rattle.just_ast_definitions.specs.Parameter.{is_required, is_variadic, least_arguments, most_arguments}
use Rattle.just_ast_definitions.specs.declared.parameter.Parameter.{Parameter}
use Rattle.just_ast_expressions.specs.declared.expression.Expression.{Expression}
use Rattle.just_ast_expressions.specs.declared.settings.Settings.{Settings}
use Rattle.just_names.specs.Texts.{Text}
use Rattle.just_names.specs.declared.number.Number.{Number}
use Rattle.just_parts.specs.Syntax.{SyntaxAnswers}
use Rattle.just_recipe.specs.declared.dependency.UnresolvedDependency.{UnresolvedDependency}
use Rattle.just_recipe.specs.declared.recipe.Recipe.{Recipe}
use Rattle.just_recipe_names.specs.Numbered.{number_under, numbered_parameters, numbered_recipe, parameter_by, under_parameters}
use Rattle.just_recipe_values.specs.Valued.{informed, valued_named, with_values}

required_by : (by : Expression → Expression) (p : Parameter) (value default : Option Expression) → is_required (record p { default = option_map by default; value = value }) ≡ is_required (record p { default = default })
required_by by p value None = refl
required_by by p value (Some e) = refl

required_alike : (by : Expression → Expression) (p : Parameter) → is_required (parameter_by by p) ≡ is_required p
required_alike by p = required_by by p (option_map by p.value) p.default

-- one for a parameter that is required
abbrev counts : Parameter → ℕ
counts p = cond (is_required p) 1 0

module _ (number : List Parameter → Text → Option Number) where
  least_alike : (before ps : List Parameter) → least_arguments (numbered_parameters number before ps) ≡ least_arguments ps
  least_alike before [] = refl
  least_alike before (p ∷ ps) =
      sum_by-cons counts (parameter_by (under_parameters number before) p) (numbered_parameters number (before ++ p ∷ []) ps)
      ∙ ((λ i. cond (required_alike (under_parameters number before) p i) 1 0 + least_alike (before ++ p ∷ []) ps i) ∙ sym (sum_by-cons counts p ps))

  length_alike : (before ps : List Parameter) → length (numbered_parameters number before ps) ≡ length ps
  length_alike before [] = refl
  length_alike before (p ∷ ps) = ap suc (length_alike (before ++ p ∷ []) ps)

  variadic_alike : (before ps : List Parameter) → list_any (λ (p : Parameter). is_variadic p.kind) (numbered_parameters number before ps) ≡ list_any (λ (p : Parameter). is_variadic p.kind) ps
  variadic_alike before [] = refl
  variadic_alike before (p ∷ ps) = ap (λ b. is_variadic p.kind || b) (variadic_alike (before ++ p ∷ []) ps)

  most_alike : (lists : Bool) (before ps : List Parameter) → most_arguments lists (numbered_parameters number before ps) ≡ most_arguments lists ps
  most_alike lists before ps = λ i. if lists then length_alike before ps i else (if variadic_alike before ps i then 18446744073709551614 else length_alike before ps i)

-- and so does one whose parameters have what attributes say of them
module _ (attributes : List (NamedAttribute Expression)) where
  least_informed : (ps : List Parameter) → least_arguments (map (informed attributes) ps) ≡ least_arguments ps
  least_informed [] = refl
  least_informed (p ∷ ps) =
      sum_by-cons counts (informed attributes p) (map (informed attributes) ps) ∙ (ap (λ n. counts p + n) (least_informed ps) ∙ sym (sum_by-cons counts p ps))

  length_informed : (ps : List Parameter) → length (map (informed attributes) ps) ≡ length ps
  length_informed [] = refl
  length_informed (p ∷ ps) = ap suc (length_informed ps)

  variadic_informed : (ps : List Parameter) → list_any (λ (p : Parameter). is_variadic p.kind) (map (informed attributes) ps) ≡ list_any (λ (p : Parameter). is_variadic p.kind) ps
  variadic_informed [] = refl
  variadic_informed (p ∷ ps) = ap (λ b. is_variadic p.kind || b) (variadic_informed ps)

  most_informed : (lists : Bool) (ps : List Parameter) → most_arguments lists (map (informed attributes) ps) ≡ most_arguments lists ps
  most_informed lists ps = λ i. if lists then length_informed ps i else (if variadic_informed ps i then 18446744073709551614 else length_informed ps i)

-- so a recipe that is completed takes as many as it does
module _ (value : Expression → Option (List Text)) (variable : Text → Option Number) (answers : SyntaxAnswers) (settings : Settings) (r : Recipe UnresolvedDependency) where
  abbrev made : Recipe UnresolvedDependency
  made = with_values value (numbered_recipe variable answers settings r)

  abbrev said : List (NamedAttribute Expression)
  said = map (valued_named value) (numbered_recipe variable answers settings r).attributes

  abbrev number : List Parameter → Text → Option Number
  number = number_under variable answers

  pub least_completed : least_arguments made.parameters ≡ least_arguments r.parameters
  least_completed = least_informed said (numbered_parameters number [] r.parameters) ∙ least_alike number [] r.parameters

  pub most_completed : (lists : Bool) → most_arguments lists made.parameters ≡ most_arguments lists r.parameters
  most_completed lists = most_informed said lists (numbered_parameters number [] r.parameters) ∙ most_alike number lists [] r.parameters
