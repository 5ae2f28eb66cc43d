-- The front of the words that names a recipe.
use Rattle.std.specs.Prelude.{◌≡◌, ◌⊎◌, Bool, true, false, not, ◌&&◌, Option, Some, None, List, [], ◌∷◌, ◌++◌}
use Rattle.std.specs.Bool.{MatchBool}
use Rattle.just_ast_definitions.specs.Parameter.{least_arguments}
use Rattle.just_names.specs.Texts.{Text, text_of}
use Rattle.just_recipe.specs.declared.dependency.Dependency.{Dependency}
use Rattle.just_recipe.specs.declared.recipe.Recipe.{Recipe}
use Rattle.just_tail.specs.Words.{Words}
use Rattle.just_justfile.specs.declared.justfile.Justfile.{Justfile, out-Justfile}
use Rattle.just_justfile.specs.declared.justfile.RecipeKey.{RecipeKey}
use Rattle.just_justfile.specs.Closed.{HeldRecipes, default_recipe, resolved_name, path_on}
use Rattle.just_invocations.specs.Words.{IsPathWord, has_colon, is_empty}
use Rattle.just_invocations.specs.Cause.{InvocationFault, unknown_recipe, unknown_submodule, expected_submodule, recipe_disabled, alias_disabled, module_absent, no_recipes, no_default, default_requires}
use Rattle.just_invocations.specs.Meaning.{Meaning, a_module, a_recipe, disabled_recipe, disabled_alias, absent_module, nothing, meaning, module_path_text}

-- the module's default, which needs no argument
abbrev pub TakesDefault : HeldRecipes → Justfile → Recipe Dependency → Type 0
TakesDefault recipes here r = (default_recipe here recipes ≡ Some r) × (least_arguments r.parameters ≡ 0)

-- a name of this meaning leads to the recipe: to a module, from which the names lead on, or to the recipe itself, if no name follows
abbrev pub MeaningLeads : Meaning → (Justfile → Type 0) → Words → Recipe Dependency → Type 0
MeaningLeads (a_module next) On names r = On next
MeaningLeads (a_recipe found) On names r = (names ≡ []) × (found ≡ r)
MeaningLeads (disabled_recipe modules) On names r = ⊥
MeaningLeads (disabled_alias modules) On names r = ⊥
MeaningLeads absent_module On names r = ⊥
MeaningLeads nothing On names r = ⊥

-- the names lead from a module to the recipe, before the rest of the words; they may end in a module only where nothing follows them
abbrev pub WordsLead : Justfile → HeldRecipes → Justfile → Words → Words → Recipe Dependency → Type 0
WordsLead root recipes here [] rest r = (rest ≡ []) × TakesDefault recipes here r
WordsLead root recipes here (n ∷ ns) rest r =
    MeaningLeads (meaning root recipes here n) (λ next. WordsLead root recipes next ns rest r) ns r

-- the word is a path that leads to the recipe
abbrev pub PathLeads : Justfile → HeldRecipes → Bool → Text → Recipe Dependency → Type 0
PathLeads root recipes last word r = (names : Words) × IsPathWord last word names × WordsLead root recipes root names [] r

-- the front of the words that names the recipe, before the rest of them
abbrev pub IsHead : Justfile → HeldRecipes → Words → Words → Recipe Dependency → Type 0
IsHead root recipes [] rest r = WordsLead root recipes root [] rest r
IsHead root recipes (w ∷ ws) rest r =
    MatchBool (has_colon w)
    ((ws ≡ []) × PathLeads root recipes (is_empty rest) w r)
    (WordsLead root recipes root (w ∷ ws) rest r)

-- why no default is taken, by the module's table and its default
abbrev pub NoDefault : List (Text × RecipeKey) → Option (Recipe Dependency) → InvocationFault → Type 0
NoDefault table (Some r) cause =
    ((least_arguments r.parameters ≡ 0) → ⊥) × (cause ≡ default_requires (resolved_name r) (least_arguments r.parameters))
NoDefault [] None cause = cause ≡ no_recipes
NoDefault (_ ∷ _) None cause = cause ≡ no_default

-- names of one word follow
abbrev pub goes_on : Bool → Words → Bool
goes_on one names = one && not (is_empty names)

-- Why a name of this meaning leads to no recipe: a module from which the names do not lead on, or the cause. `one` says that the names are one word, `go` that others of it follow, `path` are the names so far, and `place` is the name's path from the root.
abbrev pub MeaningMisleads : Meaning → (Justfile → Type 0) → Bool → Bool → Words → Text → InvocationFault → Type 0
MeaningMisleads (a_module next) On one go path place cause = On next
MeaningMisleads (a_recipe found) On one true path place cause = cause ≡ expected_submodule (text_of path false)
MeaningMisleads (a_recipe found) On one false path place cause = ⊥
MeaningMisleads (disabled_recipe modules) On one go path place cause = cause ≡ recipe_disabled (text_of path (not one)) modules
MeaningMisleads (disabled_alias modules) On one go path place cause = cause ≡ alias_disabled (text_of path (not one)) modules
MeaningMisleads absent_module On one go path place cause = cause ≡ module_absent place
MeaningMisleads nothing On one true path place cause = cause ≡ unknown_submodule (text_of path false)
MeaningMisleads nothing On one false path place cause = cause ≡ unknown_recipe (text_of path (not one))

-- the path of a name in a module, from the root
abbrev pub absolute_path_of : Justfile → Text → Text
absolute_path_of here name = module_path_text (path_on (out-Justfile here).module_path name)

-- why the names lead from a module to no recipe, after those of `path`; `one` says that they are one word
abbrev pub WordsMislead : Justfile → HeldRecipes → Justfile → Bool → Words → Words → InvocationFault → Type 0
WordsMislead root recipes here one path [] cause = NoDefault (out-Justfile here).recipes (default_recipe here recipes) cause
WordsMislead root recipes here one path (n ∷ ns) cause =
    MeaningMisleads (meaning root recipes here n) (λ next. WordsMislead root recipes next one (path ++ n ∷ []) ns cause)
    one (goes_on one ns) (path ++ n ∷ []) (absolute_path_of here n) cause

-- why the word is no path to a recipe
abbrev pub NoPath : Justfile → HeldRecipes → Bool → Text → InvocationFault → Type 0
NoPath root recipes last word cause =
    (((names : Words) → IsPathWord last word names → ⊥) × (cause ≡ unknown_recipe word))
    ⊎ ((names : Words) × IsPathWord last word names × WordsMislead root recipes root true [] names cause)

-- why the words begin with no head
abbrev pub NoHead : Justfile → HeldRecipes → Words → InvocationFault → Type 0
NoHead root recipes [] cause = WordsMislead root recipes root false [] [] cause
NoHead root recipes (w ∷ ws) cause =
    MatchBool (has_colon w)
    (NoPath root recipes (is_empty ws) w cause)
    (WordsMislead root recipes root false [] (w ∷ ws) cause)
