-- Recipes without their numbers have the same outlines.
use Rattle.std.proofs.Common.{◌≡◌, ◌∙◌, ℕ, ◌+◌, Bool, cond, ◌||◌, List, [], ◌∷◌, ◌++◌, map, refl, sym, ap}
use Rattle.std.specs.Prelude.{if◌then◌else◌}
use Rattle.std.specs.Str.{bytes_eq}
use Rattle.std.specs.List.{list_any, fold}
use Rattle.std.proofs.lemmas.List.{length-map, map-append}
use Rattle.just_parts.specs.Bare.{bare_parameter}
use Rattle.just_parts.specs.Located.{located_recipe}
use Rattle.just_names.specs.Name.{text_of_name}
use Rattle.just_names.specs.Texts.{Text}
use Rattle.just_names.specs.declared.name.Name.{Name}
use Rattle.just_ast_expressions.specs.declared.settings.Settings.{Settings}
use Rattle.just_parts.specs.Scopes.{Scoped, compiled_expressions, environment_expressions, inner_expressions, is_parameter, in_attributes, parameter_expressions, parameter_scopes, scoped}
use Rattle.just_parts.specs.Known.{none_hidden}
use Rattle.just_parts.specs.Syntax.{SyntaxAnswers}
use Rattle.just_ast_definitions.specs.Parameter.{is_required, is_variadic, least_arguments, most_arguments}
use Rattle.just_recipe.specs.declared.dependency.UnresolvedDependency.{UnresolvedDependency}
use Rattle.just_ast_definitions.specs.declared.parameter.Parameter.{Parameter}
use Rattle.just_recipe.specs.declared.recipe.Recipe.{Recipe}
use Rattle.just_module_contents.specs.RecipeNames.{written_scopes}
use Rattle.just_module_contents.specs.Recipes.{named_paths, dependency_paths, is_defaulted, is_needed}
use Rattle.just_module_headers.proofs.Alike.{outline_of}

named_bare : (ps : List Parameter) → map (λ (p : Parameter). p.name) (map bare_parameter ps) ≡ map (λ (p : Parameter). p.name) ps
named_bare [] = refl
named_bare (p ∷ ps) = ap (λ (ns : List Name). p.name ∷ ns) (named_bare ps)

names_bare : (ps : List Parameter) → map (λ (p : Parameter). text_of_name p.name) (map bare_parameter ps) ≡ map (λ (p : Parameter). text_of_name p.name) ps
names_bare [] = refl
names_bare (p ∷ ps) = ap (λ qs. text_of_name p.name ∷ qs) (names_bare ps)

defaulted_bare : (ps : List Parameter) → map is_defaulted (map bare_parameter ps) ≡ map is_defaulted ps
defaulted_bare [] = refl
defaulted_bare (p ∷ ps) = ap (λ qs. is_defaulted p ∷ qs) (defaulted_bare ps)

needed_bare : (ps : List Parameter) → map is_needed (map bare_parameter ps) ≡ map is_needed ps
needed_bare [] = refl
needed_bare (p ∷ ps) = ap (λ qs. is_needed p ∷ qs) (needed_bare ps)

variadic_bare : (ps : List Parameter) → list_any (λ (p : Parameter). is_variadic p.kind) (map bare_parameter ps) ≡ list_any (λ (p : Parameter). is_variadic p.kind) ps
variadic_bare [] = refl
variadic_bare (p ∷ ps) = simp (variadic_bare ps)

most_bare : (lists : Bool) (ps : List Parameter) → most_arguments lists (map bare_parameter ps) ≡ most_arguments lists ps
most_bare lists ps = λ i. if lists then length-map ps bare_parameter i else (if variadic_bare ps i then 18446744073709551614 else length-map ps bare_parameter i)

count_from : (n : ℕ) (ps : List Parameter) → fold (λ a x. a + cond (is_required x) 1 0) n (map bare_parameter ps) ≡ fold (λ a x. a + cond (is_required x) 1 0) n ps
count_from n [] = refl
count_from n (p ∷ ps) = count_from (n + cond (is_required p) 1 0) ps

least_bare : (ps : List Parameter) → least_arguments (map bare_parameter ps) ≡ least_arguments ps
least_bare ps = count_from 0 ps

-- parameters hide the same names, and see the same
hidden_at : (ps : List Parameter) (name : Text) → is_parameter (map bare_parameter ps) name ≡ is_parameter ps name
hidden_at [] name = refl
hidden_at (p ∷ ps) name = ap (λ b. bytes_eq (text_of_name p.name) name || b) (hidden_at ps name)

hidden_bare : (ps : List Parameter) → is_parameter (map bare_parameter ps) ≡ is_parameter ps
hidden_bare ps = λ i name. hidden_at ps name i

scopes_bare : (before ps : List Parameter) → parameter_scopes (map bare_parameter before) (map bare_parameter ps) ≡ parameter_scopes before ps
scopes_bare before [] = refl
scopes_bare before (p ∷ ps) =
    (λ i. map (scoped (hidden_bare before i)) (parameter_expressions p) ++ parameter_scopes (sym (map-append bare_parameter before (p ∷ [])) i) (map bare_parameter ps))
    ∙ ap (λ ss. map (scoped (is_parameter before)) (parameter_expressions p) ++ ss) (scopes_bare (before ++ p ∷ []) ps)

written_bare : (answers : SyntaxAnswers) (settings : Settings) (r : Recipe UnresolvedDependency) → written_scopes answers settings (located_recipe r) ≡ written_scopes answers settings r
written_bare answers settings r = λ i.
    map (scoped none_hidden) (in_attributes compiled_expressions r ++ in_attributes environment_expressions r)
    ++ (scopes_bare [] r.parameters i ++ map (scoped (hidden_bare r.parameters i)) (inner_expressions (λ (d : UnresolvedDependency). d.arguments) answers settings r))

pub outline_located : (r : Recipe UnresolvedDependency) → outline_of (located_recipe r) ≡ outline_of r
outline_located r = λ i. record {
  token = r.name.token;
  depth = r.file_depth;
  attributes = r.attributes;
  body = r.body;
  shebang = r.shebang;
  named = named_bare r.parameters i;
  parameters = names_bare r.parameters i;
  defaulted = defaulted_bare r.parameters i;
  needed = needed_bare r.parameters i;
  paths = named_paths r;
  dependencies = dependency_paths r;
  given = r.dependencies;
  least = least_bare r.parameters i;
  most = λ lists. most_bare lists r.parameters i;
  scopes = λ answers settings. written_bare answers settings r i;
}
