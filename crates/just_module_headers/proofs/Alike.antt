-- Recipes that are alike in what the rules read break the same rules.
use Rattle.std.proofs.Common.{◌≡◌, ℕ, zero, suc, ◌+◌, ◌<◌, Bool, true, false, ◌||◌, ◌&&◌, not, List, [], ◌∷◌, ◌++◌, map, length, get_or, Option, Some, refl, sym, ◌∙◌, ap, subst}
use Rattle.std.specs.Prelude.{◌≢◌, ◌≤◌, flat_map, if◌then◌else◌}
use Rattle.std.specs.Cmp.Lexicographic.{slice_cmp}
use Rattle.std.specs.Ordering.{nat_cmp}
use Rattle.std.specs.declared.cmp.Ordering.TheVariants.{Less}
use Rattle.std.specs.List.{Contains, list_any, slice_get}
use Rattle.std.proofs.lemmas.List.{length-map}
use Rattle.just_errors.specs.Causes.{Broken, Cause, Keeps}
use Rattle.just_errors.specs.declared.compile_error.CompileErrorKind.TheVariants as kind
use Rattle.just_names.specs.Name.{text_of_name}
use Rattle.just_names.specs.Texts.{Text}
use Rattle.just_names.specs.Token.{Place, lexeme}
use Rattle.just_ast_definitions.specs.declared.assignment.Assignment.{Assignment}
use Rattle.just_ast_definitions.specs.declared.function_definition.FunctionDefinition.{FunctionDefinition}
use Rattle.just_ast_definitions.specs.declared.function_definition.FunctionParameter.{FunctionParameter}
use Rattle.just_ast_definitions.specs.declared.attribute.NamedAttribute.{NamedAttribute}
use Rattle.just_ast_expressions.specs.declared.expression.Expression.{Expression}
use Rattle.just_ast_definitions.specs.declared.line.Line.{Line}
use Rattle.just_ast_expressions.specs.declared.list_use.ListUse.{ListUse}
use Rattle.just_ast_definitions.specs.declared.setting.Set.{Set}
use Rattle.just_ast_expressions.specs.declared.settings.Settings.{Settings}
use Rattle.just_parts.specs.Bare.{bare_function, bare_function_parameter}
use Rattle.just_parts.specs.Evaluator.{Values, Wanted, bare_set, functions_by_name, set_expressions}
use Rattle.just_parts.specs.Layers.{Layers}
use Rattle.just_parts.specs.Located.{located_assignment}
use Rattle.just_ast_references.specs.Numbers.{bare}
use Rattle.just_recipe.specs.Script.{is_script, is_shell}
use Rattle.just_parts.specs.Scopes.{Scoped, compiled_expressions}
use Rattle.just_parts.specs.Syntax.{SyntaxAnswers}
use Rattle.just_recipe.specs.declared.dependency.UnresolvedDependency.{UnresolvedDependency}
use Rattle.just_recipe.specs.declared.recipe.Recipe.{Recipe}
use Rattle.just_names.specs.declared.name.Name.{Name}
use Rattle.just_names.specs.declared.name.Namepath.{Namepath}
use Rattle.just_errors.specs.declared.compile_error.Definition.TheVariants as definition
use Rattle.just_module_contents.specs.Contents.{Contents, Defined, Signature, all_defined, defined, defined_in, defined_naming, defined_recipe, function_names, signature, signatures, variable_names}
use Rattle.just_names.specs.Index.{texts_of_names, Repeats}
use Rattle.just_module_contents.specs.Constants.{AreConstants, AsksConstants, AsksFor, BreaksConstants, BreaksDocs, Evaluated, IsEvaluated, constant_expressions, constants_fault, doc_fault, functions_asked, in_doc, in_setting, recipe_expressions, settings_among, settings_fault, sets_lists}
use Rattle.just_module_contents.specs.Groups.{BreaksBodiesAndDocs, Breaks, Group, Links, OfAliases, OfBodies, OfConstants, OfDependencies, OfExpressions, OfHeaders, OfNames, OfRecipes, in_bodies, in_docs}
use Rattle.just_module_contents.specs.Known.{functions_under, known_of, variables_under}
use Rattle.just_parts.specs.Known.{Known, known, none_hidden}
use Rattle.just_parts.specs.Misnaming.{Expressions, Misnames}
use Rattle.just_module_contents.specs.Defaults.{BreaksDefaults, IsLater, duplicate_default, is_default, is_marked}
use Rattle.just_module_contents.specs.Kept.{claim_of_recipe, gives_way, kept_recipes, left_of}
use Rattle.just_module_contents.specs.Settings.{allows_variables}
use Rattle.just_module_contents.specs.Shells.{BreaksLines, ScriptAttribute, BreaksShellRecipe, BreaksShells, invalid_attribute, of_attributes, of_lines, of_recipe}
use Rattle.just_module_contents.specs.declared.definitions.Naming.{Naming}
use Rattle.just_module_contents.specs.declared.precedence.Claim.{Claim}
use Rattle.just_module_contents.specs.RecipeNames.{BreaksRecipeNames, written_scopes}
use Rattle.just_module_contents.specs.RecipeValues.{BreaksRecipe, HasPattern, IsPastLimits, Unvalued, of_names, of_pattern, of_value, of_values, past_limits, patterns_in}
use Rattle.just_module_contents.specs.Recipes.{name_of_recipe, line_of, token_of, named_parameters, parameter_names, is_defaulted, is_needed, FollowsDefault, named_paths, dependency_paths, least_of, most_of, names_of, no_recipe, recipe_at, Depends, DependsOnRecipe}
use Rattle.just_module_contents.specs.Standing.{InOne, in_recipe}
use Rattle.just_module_contents.specs.Rules.{BreaksBodies, Dependencies, DependsBy, BreaksFunctions, BreaksHeaders, IsRecipeCircleOf, BreaksLists, BreaksNamings, BreaksDefinitions, BreaksParameters, BreaksRedefinition, BreaksSettings, StandsWith, WhereEvaluated, BreaksUnexports, BreaksVariables, argument_count, circular, duplicate_parameter, of_defined, of_functions, of_lists, of_named, of_parameters, of_sets, of_shells, of_unexports, of_variables, required_after_default, starred, under, unknown_dependency}

-- What the rules read of a recipe.
pub record Outline : Type 0 where
  pub token : Place
  pub depth : ℕ
  pub attributes : List (NamedAttribute Expression)
  pub body : List Line
  pub shebang : Bool
  pub named : List Name
  pub parameters : List (List ℕ)
  pub defaulted : List Bool
  pub needed : List Bool
  pub paths : List Namepath
  pub dependencies : List (List (List ℕ))
  pub given : List UnresolvedDependency
  pub least : ℕ
  pub most : Bool → ℕ
  pub scopes : SyntaxAnswers → Settings → List Scoped

abbrev pub outline_of : Recipe UnresolvedDependency → Outline
outline_of recipe = record {
  token = token_of recipe;
  depth = recipe.file_depth;
  attributes = recipe.attributes;
  body = recipe.body;
  shebang = recipe.shebang;
  named = named_parameters recipe;
  parameters = parameter_names recipe;
  defaulted = map is_defaulted recipe.parameters;
  needed = map is_needed recipe.parameters;
  paths = named_paths recipe;
  dependencies = dependency_paths recipe;
  given = recipe.dependencies;
  least = least_of recipe;
  most = λ lists. most_of lists recipe;
  scopes = λ answers settings. written_scopes answers settings recipe;
}

abbrev pub outlines_of : List (Recipe UnresolvedDependency) → List Outline
outlines_of = map outline_of

-- so many recipes, each with the same outline
abbrev pub AreAlike : List (Recipe UnresolvedDependency) → List (Recipe UnresolvedDependency) → Type 0
AreAlike rs qs = outlines_of rs ≡ outlines_of qs

outline_read : (rs : List (Recipe UnresolvedDependency)) (i : ℕ) → outline_of (recipe_at rs i) ≡ get_or (outlines_of rs) i (outline_of no_recipe)
outline_read [] i = refl
outline_read (r ∷ rs) zero = refl
outline_read (r ∷ rs) (suc i) = outline_read rs i

-- what a recipe defines
abbrev defined_by : Outline → Defined
defined_by o = defined definition.Recipe (record { token = o.token })

defined_read : (rs : List (Recipe UnresolvedDependency)) → map defined_recipe rs ≡ map defined_by (outlines_of rs)
defined_read [] = refl
defined_read (r ∷ rs) = ap (λ ds. defined_recipe r ∷ ds) (defined_read rs)

names_read : (rs : List (Recipe UnresolvedDependency)) → names_of rs ≡ map (λ (o : Outline). lexeme o.token) (outlines_of rs)
names_read [] = refl
names_read (r ∷ rs) = ap (λ ns. name_of_recipe r ∷ ns) (names_read rs)

module _ (rs qs : List (Recipe UnresolvedDependency)) (alike : AreAlike rs qs) where
  -- they have the same names
  pub same_names : names_of rs ≡ names_of qs
  same_names = names_read rs ∙ ap (map (λ (o : Outline). lexeme o.token)) alike ∙ sym (names_read qs)

  -- so many, each with the same outline and the same name
  pub many : length rs ≡ length qs
  many = sym (length-map rs outline_of) ∙ ap length alike ∙ length-map qs outline_of

  pub at : (i : ℕ) → outline_of (recipe_at rs i) ≡ outline_of (recipe_at qs i)
  at i = outline_read rs i ∙ ap (λ os. get_or os i (outline_of no_recipe)) alike ∙ sym (outline_read qs i)

  tokens : (i : ℕ) → token_of (recipe_at rs i) ≡ token_of (recipe_at qs i)
  tokens i = ap (λ (o : Outline). o.token) (at i)

  pub name : (i : ℕ) → name_of_recipe (recipe_at rs i) ≡ name_of_recipe (recipe_at qs i)
  name i = ap lexeme (tokens i)

  paths : (i : ℕ) → dependency_paths (recipe_at rs i) ≡ dependency_paths (recipe_at qs i)
  paths i = ap (λ (o : Outline). o.dependencies) (at i)

  contains : (i : ℕ) (path : List (List ℕ)) → Contains (dependency_paths (recipe_at rs i)) path → Contains (dependency_paths (recipe_at qs i)) path
  contains i path c = subst (λ ps. Contains ps path) (paths i) c

  named : (i : ℕ) (path : Namepath) → Contains (named_paths (recipe_at rs i)) path → Contains (named_paths (recipe_at qs i)) path
  named i path c = subst (λ (ps : List Namepath). Contains ps path) (ap (λ (o : Outline). o.paths) (at i)) c

  gives : (i : ℕ) (d : UnresolvedDependency) → Contains (recipe_at rs i).dependencies d → Contains (recipe_at qs i).dependencies d
  gives i d c = subst (λ (ds : List UnresolvedDependency). Contains ds d) (ap (λ (o : Outline). o.given) (at i)) c

  inside : (i : ℕ) → i < length rs → i < length qs
  inside i h = subst (λ n. i < n) many h

  follows : (i q : ℕ) → FollowsDefault (recipe_at rs i).parameters q → FollowsDefault (recipe_at qs i).parameters q
  follows i q f = record {
    before = f.before;
    earlier = f.earlier;
    defaulted = ap (λ (o : Outline). get_or o.defaulted f.before false) (sym (at i)) ∙ f.defaulted;
    needed = ap (λ (o : Outline). get_or o.needed q false) (sym (at i)) ∙ f.needed;
  }

  pub parameters_alike : (c : Cause) → BreaksParameters rs c → BreaksParameters qs c
  parameters_alike _ (duplicate_parameter {second} {recipe} i p q h e r x) =
      duplicate_parameter i p q (inside i h) (sym (name i) ∙ e) (subst (λ ns. Repeats ns p q) (ap (λ (o : Outline). o.parameters) (at i)) r) (subst (λ (ns : List Name). slice_get ns q ≡ Some second) (ap (λ (o : Outline). o.named) (at i)) x)
  parameters_alike _ (required_after_default {second} i q h f x) =
      required_after_default i q (inside i h) (follows i q f) (subst (λ (ns : List Name). slice_get ns q ≡ Some second) (ap (λ (o : Outline). o.named) (at i)) x)

  script_alike : (s : Settings) (i : ℕ) → is_script (recipe_at rs i) s ≡ is_script (recipe_at qs i) s
  script_alike s i = ap (λ (o : Outline). not (list_any is_shell o.attributes) && (o.shebang || s.default_script)) (at i)

  told_at : (i : ℕ) (c : Cause) → ScriptAttribute (recipe_at rs i) c → ScriptAttribute (recipe_at qs i) c
  told_at i _ (invalid_attribute {named} k there is) =
      let same : ScriptAttribute (recipe_at qs i) (Broken (token_of (recipe_at qs i)) (kind.InvalidShellRecipeAttribute (name_of_recipe (recipe_at qs i)) (text_of_name named.name)))
      = invalid_attribute k (subst (λ (ns : List (NamedAttribute Expression)). slice_get ns k ≡ Some named) (ap (λ (o : Outline). o.attributes) (at i)) there) is in
      subst (λ t. ScriptAttribute (recipe_at qs i) (Broken t (kind.InvalidShellRecipeAttribute (lexeme t) (text_of_name named.name)))) (sym (tokens i)) same

  shell_alike : (answers : SyntaxAnswers) (s : Settings) (i : ℕ) (c : Cause) → BreaksShellRecipe answers s (recipe_at rs i) c → BreaksShellRecipe answers s (recipe_at qs i) c
  shell_alike answers s i c (of_lines isnt b) = of_lines (sym (script_alike s i) ∙ isnt) (subst (λ (ls : List Line). BreaksLines answers s ls c) (ap (λ (o : Outline). o.body) (at i)) b)
  shell_alike answers s i c (of_attributes isnt b) = of_attributes (sym (script_alike s i) ∙ isnt) (told_at i c b)

  pub shells_alike : (answers : SyntaxAnswers) (s : Settings) (c : Cause) → BreaksShells answers s rs c → BreaksShells answers s qs c
  shells_alike answers s c (of_recipe i h b) = of_recipe i (inside i h) (shell_alike answers s i c b)

  marks : (i : ℕ) → is_marked (recipe_at rs i) ≡ is_marked (recipe_at qs i)
  marks i = ap (λ (o : Outline). list_any is_default o.attributes) (at i)

  lines : (i : ℕ) → line_of (recipe_at rs i) ≡ line_of (recipe_at qs i)
  lines i = ap (λ (t : Place). t.line) (tokens i)

  later_alike : (i j : ℕ) → IsLater (recipe_at rs i) (recipe_at rs j) → IsLater (recipe_at qs i) (recipe_at qs j)
  later_alike i j l = record {
    line = subst (λ n. line_of (recipe_at qs i) ≤ n) (lines j) (subst (λ n. n ≤ line_of (recipe_at rs j)) (lines i) l.line);
    name = λ e. subst (λ n. slice_cmp nat_cmp n (name_of_recipe (recipe_at qs i)) ≢ Less) (name j) (subst (λ n. slice_cmp nat_cmp (name_of_recipe (recipe_at rs j)) n ≢ Less) (name i) (l.name (lines i ∙ e ∙ sym (lines j))));
  }

  pub defaults_alike : (c : Cause) → BreaksDefaults rs c → BreaksDefaults qs c
  defaults_alike _ (duplicate_default i j h l apart first second later) =
      subst (λ t. BreaksDefaults qs (Broken t (kind.DuplicateDefault (lexeme t)))) (sym (tokens j))
      (duplicate_default i j (inside i h) (inside j l) apart (sym (marks i) ∙ first) (sym (marks j) ∙ second) (later_alike i j later))

  -- they define the same
  defined_alike : (ns : List Naming) → all_defined ns rs ≡ all_defined ns qs
  defined_alike ns = ap (λ ds. map defined_naming ns ++ ds) (defined_read rs ∙ ap (map defined_by) alike ∙ sym (defined_read qs))

  depends_alike : (a b : ℕ) → Depends rs a b → Depends qs a b
  depends_alike a b d = record {
    dependent = inside a d.dependent;
    there = inside b d.there;
    names = subst (λ n. Contains (dependency_paths (recipe_at qs a)) (n ∷ [])) (name b) (contains a (name_of_recipe (recipe_at rs b) ∷ []) d.names);
  }

  -- and names depend on names
  pub depends_on_alike : (dependent named : List ℕ) → DependsOnRecipe rs dependent named → DependsOnRecipe qs dependent named
  depends_on_alike dependent named d = record {
    from = d.from;
    to = d.to;
    step = depends_alike d.from d.to d.step;
    dependent_is = sym (name d.from) ∙ d.dependent_is;
    name_is = sym (name d.to) ∙ d.name_is;
  }

  circle_alike : (recipe : List ℕ) (circle : List (List ℕ)) → IsRecipeCircleOf rs recipe circle → IsRecipeCircleOf qs recipe circle
  circle_alike recipe circle c = record { steps = c.steps; closed = c.closed; walk = λ k h. depends_on_alike (get_or circle k []) (get_or circle (k + 1) []) (c.walk k h); closing = c.closing }

  -- a recipe of a name depends on a path in both
  pub depends_by_alike : (name_is : List ℕ) (path : Namepath) → DependsBy rs name_is path → DependsBy qs name_is path
  depends_by_alike name_is path d = record { from = d.from; there = inside d.from d.there; name_is = sym (name d.from) ∙ d.name_is; depends = named d.from path d.depends }

  -- the same names are at fault in what they read
  scopes_same : (answers : SyntaxAnswers) (s : Settings) (i : ℕ) → written_scopes answers s (recipe_at rs i) ≡ written_scopes answers s (recipe_at qs i)
  scopes_same answers s i = ap (λ (o : Outline). o.scopes answers s) (at i)

  read_alike : (answers : SyntaxAnswers) (m : Known) (s : Settings) (i : ℕ) (c : Cause) → BreaksRecipeNames answers m s (recipe_at rs i) c → BreaksRecipeNames answers m s (recipe_at qs i) c
  read_alike answers m s i c w = record { from = w.from; there = subst (λ ss. Contains ss w.from) (scopes_same answers s i) w.there; wrong = w.wrong }

  attributes_same : (i : ℕ) → (recipe_at rs i).attributes ≡ (recipe_at qs i).attributes
  attributes_same i = ap (λ (o : Outline). o.attributes) (at i)

  -- and their docs, helps and patterns have values, or have none
  module _ (value : Expression → Option (List Text)) where
    pattern_alike : (i : ℕ) (at : Place) (text : Text) → HasPattern value (recipe_at rs i) at text → HasPattern value (recipe_at qs i) at text
    pattern_alike i at text p = record {
      property = p.property;
      there = subst (λ xs. Contains (flat_map (λ (named : NamedAttribute Expression). patterns_in named.attribute) xs) p.property) (attributes_same i) p.there;
      at_is = p.at_is;
      says = p.says;
    }

    valued_alike : (i : ℕ) (c : Cause) → Unvalued value (recipe_at rs i) c → Unvalued value (recipe_at qs i) c
    valued_alike i c (of_value {e} there none) = of_value (subst (λ xs. Contains (flat_map (λ (named : NamedAttribute Expression). compiled_expressions named.attribute) xs) e) (attributes_same i) there) none
    valued_alike i c (of_pattern {at} {text} p none) = of_pattern (pattern_alike i at text p) none

    -- so they break the same rules of one recipe
    pub rules_alike : (answers : SyntaxAnswers) (m : Known) (s : Settings) (c : Cause) → InOne (BreaksRecipe value answers m s) rs c → InOne (BreaksRecipe value answers m s) qs c
    rules_alike answers m s c (in_recipe i h (of_names w)) = in_recipe i (inside i h) (of_names (read_alike answers m s i c w))
    rules_alike answers m s c (in_recipe i h (of_values w)) = in_recipe i (inside i h) (of_values (valued_alike i c w))

    pub limits_alike : (c : Cause) → InOne (IsPastLimits value) rs c → InOne (IsPastLimits value) qs c
    limits_alike c (in_recipe i h (past_limits {at} {text} p is refused)) = in_recipe i (inside i h) (past_limits (pattern_alike i at text p) is refused)

  -- where paths lead to the same, the same recipes stand, and those that are led to from a recipe that stands take the same arguments, the dependencies of recipes that are alike break the same rules
  module _ (Leads Leads-2 : Namepath → Type 0) (Stands Stands-2 : Text → Type 0) (Takes Takes-2 : Namepath → ℕ → ℕ → Type 0) (leads_back : (path : Namepath) → Leads-2 path → Leads path) (stands_on : (name : Text) → Stands name → Stands-2 name)
      (takes_on : (d : UnresolvedDependency) → StandsWith Stands rs d → (least most : ℕ) → Takes d.recipe least most → Takes-2 d.recipe least most) where
    stands_with : (d : UnresolvedDependency) → StandsWith Stands rs d → StandsWith Stands-2 qs d
    stands_with d s = record { from = s.from; there = inside s.from s.there; depends = gives s.from d s.depends; stands = subst Stands-2 (name s.from) (stands_on (name_of_recipe (recipe_at rs s.from)) s.stands) }

    pub dependencies_alike : (lists : Bool) (c : Cause) → Dependencies Leads Stands Takes lists rs c → Dependencies Leads-2 Stands-2 Takes-2 lists qs c
    dependencies_alike lists _ (unknown_dependency {recipe} {unknown} d none) = unknown_dependency (depends_by_alike recipe unknown d) (λ l. none (leads_back unknown l))
    dependencies_alike lists _ (circular {recipe} {circle} {path} c d) = circular (circle_alike recipe circle c) (record {
      from = d.from;
      there = inside d.from d.there;
      dependent_is = sym (name d.from) ∙ d.dependent_is;
      depends = named d.from path d.depends;
      names = d.names;
    })
    dependencies_alike lists _ (starred {d} s off star) = starred (stands_with d s) off star
    dependencies_alike lists _ (argument_count {d} {found} {least} {most} s takes count wrong) = argument_count (stands_with d s) (takes_on d s least most takes) count wrong

-- Contents that are alike: so are their recipes, and their functions and variables without numbers, their aliases, their names, the docs of their modules, what they set and where they need lists are the same.
pub record AreAlikeContents (m n : Contents) : Type 0 where
  pub recipes : AreAlike m.recipes n.recipes
  pub functions : map bare_function m.functions ≡ map bare_function n.functions
  pub variables : map located_assignment m.variables ≡ map located_assignment n.variables
  pub aliases : m.aliases ≡ n.aliases
  pub modules : m.modules ≡ n.modules
  pub named : m.named ≡ n.named
  pub docs : m.docs ≡ n.docs
  pub unexports : m.unexports ≡ n.unexports
  pub sets : m.sets ≡ n.sets
  pub lists : m.lists ≡ n.lists

signature_bare : (f : FunctionDefinition) → signature (bare_function f) ≡ signature f
signature_bare f = λ i. record { name = f.name; parameters = names_bare f.parameters i }
  where
    names_bare : (ps : List FunctionParameter) → map (λ (p : FunctionParameter). p.name) (map bare_function_parameter ps) ≡ map (λ (p : FunctionParameter). p.name) ps
    names_bare [] = refl
    names_bare (p ∷ ps) = ap (λ (ns : List Name). p.name ∷ ns) (names_bare ps)

signatures_bare : (fs : List FunctionDefinition) → signatures (map bare_function fs) ≡ signatures fs
signatures_bare [] = refl
signatures_bare (f ∷ fs) = λ i. signature_bare f i ∷ signatures_bare fs i

variables_located : (vs : List Assignment) → variable_names (map located_assignment vs) ≡ variable_names vs
variables_located [] = refl
variables_located (v ∷ vs) = ap (λ (ns : List Name). v.name ∷ ns) (variables_located vs)

-- recipes that are kept are told by their outlines
abbrev claim_by : Outline → Claim
claim_by o = record { name = lexeme o.token; depth = o.depth }

claims_read : (rs : List (Recipe UnresolvedDependency)) → map claim_of_recipe rs ≡ map claim_by (outlines_of rs)
claims_read [] = refl
claims_read (r ∷ rs) = ap (λ (cs : List Claim). claim_of_recipe r ∷ cs) (claims_read rs)

module _ (all xs : List (Recipe UnresolvedDependency)) (x : Recipe UnresolvedDependency) where
  outline_if : (b : Bool) → outlines_of (left_of claim_of_recipe all xs) ≡ left_of claim_by (outlines_of all) (outlines_of xs)
      → outlines_of (if b then left_of claim_of_recipe all xs else x ∷ left_of claim_of_recipe all xs) ≡ (if b then left_of claim_by (outlines_of all) (outlines_of xs) else outline_of x ∷ left_of claim_by (outlines_of all) (outlines_of xs))
  outline_if true rest = rest
  outline_if false rest = ap (λ (os : List Outline). outline_of x ∷ os) rest

outlines_left : (all xs : List (Recipe UnresolvedDependency)) → outlines_of (left_of claim_of_recipe all xs) ≡ left_of claim_by (outlines_of all) (outlines_of xs)
outlines_left all [] = refl
outlines_left all (x ∷ xs) =
    outline_if all xs x (gives_way (map claim_of_recipe all) (map claim_of_recipe xs) (claim_of_recipe x)) (outlines_left all xs)
    ∙ ap (λ b. if b then left_of claim_by (outlines_of all) (outlines_of xs) else outline_of x ∷ left_of claim_by (outlines_of all) (outlines_of xs)) (λ i. gives_way (claims_read all i) (claims_read xs i) (claim_of_recipe x))

-- what is kept of recipes that are alike is alike
pub kept_alike_recipes : (rs qs : List (Recipe UnresolvedDependency)) → AreAlike rs qs → AreAlike (kept_recipes rs) (kept_recipes qs)
kept_alike_recipes rs qs alike = outlines_left rs rs ∙ (λ i. left_of claim_by (alike i) (alike i)) ∙ sym (outlines_left qs qs)

-- the expressions of recipes that are evaluated while compiling are told by their outlines
abbrev outline_expressions : Outline → List Expression
outline_expressions o = flat_map (λ (named : NamedAttribute Expression). compiled_expressions named.attribute) o.attributes

expressions_read : (rs : List (Recipe UnresolvedDependency)) → flat_map recipe_expressions rs ≡ flat_map outline_expressions (outlines_of rs)
expressions_read [] = refl
expressions_read (r ∷ rs) = ap (λ es. recipe_expressions r ++ es) (expressions_read rs)

-- they break the same rules
module _ (layers : Layers) (m n : Contents) (alike : AreAlikeContents m n) where
  headers_alike : (c : Cause) → BreaksHeaders layers.syntax.conflicts m c → BreaksHeaders layers.syntax.conflicts n c
  headers_alike c (of_parameters b) = of_parameters (parameters_alike m.recipes n.recipes alike.recipes c b)
  headers_alike c (of_sets b) = of_sets (subst (λ (ss : List Set). BreaksSettings layers.syntax.conflicts ss c) alike.sets b)
  headers_alike c (of_unexports b) = of_unexports (subst (λ (ns : List Name). BreaksUnexports ns c) alike.unexports b)
  headers_alike c (of_named b) = of_named (subst (λ (ns : List Naming). BreaksNamings ns c) alike.named b)

  signed_alike : signatures m.functions ≡ signatures n.functions
  signed_alike = sym (signatures_bare m.functions) ∙ ap signatures alike.functions ∙ signatures_bare n.functions

  defined_same : defined_in m ≡ defined_in n
  defined_same = ap (λ ns. all_defined ns m.recipes) alike.named ∙ defined_alike m.recipes n.recipes alike.recipes n.named

  pub known_alike : known_of layers.syntax m ≡ known_of layers.syntax n
  known_alike = λ i. known layers.syntax (variables_under (alike.variables i)) (functions_under (alike.functions i))

  variables_alike : variable_names m.variables ≡ variable_names n.variables
  variables_alike = sym (variables_located m.variables) ∙ ap variable_names alike.variables ∙ variables_located n.variables

  names_alike : (c : Cause) → BreaksDefinitions m c → BreaksDefinitions n c
  names_alike c (of_variables b) = of_variables (subst (λ (ns : List Name). BreaksVariables (allows_variables n.sets) (variable_names n.variables) ns c) alike.unexports
      (subst (λ (ns : List Name). BreaksVariables (allows_variables n.sets) ns m.unexports c) variables_alike (subst (λ (ss : List Set). BreaksVariables (allows_variables ss) (variable_names m.variables) m.unexports c) alike.sets b)))
  names_alike c (of_functions b) = of_functions (subst (λ (ss : List Signature). BreaksFunctions ss c) signed_alike b)

  bodies_alike : (s : Settings) (c : Cause) → BreaksBodies layers.syntax s m c → BreaksBodies layers.syntax s n c
  bodies_alike s c (of_shells b) = of_shells (shells_alike m.recipes n.recipes alike.recipes layers.syntax s c b)
  bodies_alike s c (of_lists b) = of_lists (subst (λ (us : List ListUse). BreaksLists s.lists (texts_of_names (function_names (signatures n.functions))) us c) alike.lists
      (subst (λ (ss : List Signature). BreaksLists s.lists (texts_of_names (function_names ss)) m.lists c) signed_alike b))
  bodies_alike s c (of_defined b) = of_defined (subst (λ ds. BreaksRedefinition s.allow_duplicate_recipes ds c) defined_same b)

  -- they have the same constants
  constants_same : constant_expressions m ≡ constant_expressions n
  constants_same =
      let recipes : flat_map recipe_expressions m.recipes ≡ flat_map recipe_expressions n.recipes = expressions_read m.recipes ∙ ap (flat_map outline_expressions) alike.recipes ∙ sym (expressions_read n.recipes) in
      λ i. flat_map set_expressions (alike.sets i) ++ recipes i ++ alike.docs i

  asks_alike : (wanted : Wanted) → AsksConstants layers m wanted → AsksConstants layers n wanted
  asks_alike wanted asks =
      subst (λ (k : Known). AsksFor k layers.overrides (constant_expressions n) (sets_lists n.sets) wanted) known_alike
      (subst (λ es. AsksFor (known_of layers.syntax m) layers.overrides es (sets_lists n.sets) wanted) constants_same
      (subst (λ (ss : List Set). AsksFor (known_of layers.syntax m) layers.overrides (constant_expressions m) (sets_lists ss) wanted) alike.sets asks))

  constants_alike : (values : Values) → AreConstants layers m values → AreConstants layers n values
  constants_alike values c = record { wanted = c.wanted; asked = asks_alike c.wanted c.asked; answered = c.answered }

  functions_alike : functions_asked m ≡ functions_asked n
  functions_alike = λ i. functions_by_name (functions_under (alike.functions i))

  settings_alike : (values : Values) → settings_among layers m values ≡ settings_among layers n values
  settings_alike values = λ i. layers.evaluator.settings (functions_alike i) values (map bare_set (alike.sets i))

  -- they are evaluated to the same
  pub evaluated_alike : (it : Evaluated) → IsEvaluated layers m it → IsEvaluated layers n it
  evaluated_alike it is = record { constants = constants_alike it.constants is.constants; settings = sym (settings_alike it.constants) ∙ is.settings }

  values_alike : (c : Cause) → BreaksConstants layers m c → BreaksConstants layers n c
  values_alike c (in_setting {e} there b) =
      in_setting (subst (λ (ss : List Set). Contains (flat_map set_expressions ss) e) alike.sets there) (subst (λ (k : Known). Misnames k none_hidden e c) known_alike b)
  values_alike _ (constants_fault {wanted} asks none) = constants_fault (asks_alike wanted asks) none
  values_alike _ (settings_fault {values} are none) = settings_fault (constants_alike values are) (sym (settings_alike values) ∙ none)

  pub docs_alike : (values : Values) (c : Cause) → BreaksDocs layers.syntax layers.evaluator m values c → BreaksDocs layers.syntax layers.evaluator n values c
  docs_alike values c (in_doc {e} there b) =
      in_doc (subst (λ (es : List Expression). Contains es e) alike.docs there) (subst (λ (k : Known). Misnames k none_hidden e c) known_alike b)
  docs_alike values _ (doc_fault {e} there none) =
      doc_fault (subst (λ (es : List Expression). Contains es e) alike.docs there)
      ((λ i. layers.evaluator.value (sym functions_alike i) values (bare e)) ∙ none)

  bodies_and_docs_alike : (it : Evaluated) (c : Cause) → BreaksBodiesAndDocs layers m it c → BreaksBodiesAndDocs layers n it c
  bodies_and_docs_alike it c (in_docs b) = in_docs (docs_alike it.constants c b)
  bodies_and_docs_alike it c (in_bodies b) = in_bodies (bodies_alike it.settings c b)

  under_alike : (broken other : Evaluated → Cause → Type 0) → ((it : Evaluated) (c : Cause) → broken it c → other it c) → (c : Cause) → WhereEvaluated (IsEvaluated layers m) broken c → WhereEvaluated (IsEvaluated layers n) other c
  under_alike broken other each c (under {a = it} is b) = under (evaluated_alike it is) (each it c b)

  -- with these links the one breaks what the other does
  pub breaks_alike : (links other : Links) → ((it : Evaluated) (g : Group) (c : Cause) → links layers it g c → other layers it g c) → (g : Group) (c : Cause) → Breaks layers links g m c → Breaks layers other g n c
  breaks_alike links other each OfHeaders c b = headers_alike c b
  breaks_alike links other each OfNames c b = names_alike c b
  breaks_alike links other each OfExpressions c b = subst (λ (k : Known). Expressions k c) known_alike b
  breaks_alike links other each OfConstants c b = values_alike c b
  breaks_alike links other each OfBodies c b = under_alike (BreaksBodiesAndDocs layers m) (BreaksBodiesAndDocs layers n) bodies_and_docs_alike c b
  breaks_alike links other each OfDependencies c b = under_alike (λ (it : Evaluated). links layers it OfDependencies) (λ (it : Evaluated). other layers it OfDependencies) (λ it. each it OfDependencies) c b
  breaks_alike links other each OfRecipes c b = under_alike (λ (it : Evaluated). links layers it OfRecipes) (λ (it : Evaluated). other layers it OfRecipes) (λ it. each it OfRecipes) c b
  breaks_alike links other each OfAliases c b = under_alike (λ (it : Evaluated). links layers it OfAliases) (λ (it : Evaluated). other layers it OfAliases) (λ it. each it OfAliases) c b

pub alike_back : (m n : Contents) → AreAlikeContents m n → AreAlikeContents n m
alike_back m n alike = record {
  recipes = sym alike.recipes;
  functions = sym alike.functions;
  variables = sym alike.variables;
  aliases = sym alike.aliases;
  modules = sym alike.modules;
  named = sym alike.named;
  docs = sym alike.docs;
  unexports = sym alike.unexports;
  sets = sym alike.sets;
  lists = sym alike.lists;
}

-- and keep the same
pub kept_alike : (layers : Layers) (links other : Links) (m n : Contents) → AreAlikeContents m n → ((it : Evaluated) (g : Group) (c : Cause) → other layers it g c → links layers it g c) → (g : Group) → Keeps (Breaks layers links g m) → Keeps (Breaks layers other g n)
kept_alike layers links other m n alike each g kept c b = kept c (breaks_alike layers n m (alike_back m n alike) other links each g c b)
