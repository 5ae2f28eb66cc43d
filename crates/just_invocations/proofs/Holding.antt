-- The recipes of invocations are held.
use Rattle.std.proofs.Common.{◌≡◌, ◌∙◌, ℕ, Bool, true, false, List, [], ◌∷◌, ◌++◌, map, is_some, Option, Some, None, refl, sym, ap, subst}
use Rattle.std.specs.Prelude.{if◌then◌else◌}
use Rattle.std.specs.Bool.{MatchBool}
use Rattle.std.specs.List.{All}
use Rattle.std.proofs.lemmas.List.Elements.{All-cons, All-head, All-nil, All-tail}
use Rattle.just_ast_definitions.specs.declared.alias.Alias.{Alias}
use Rattle.just_names.specs.Texts.{Text}
use Rattle.just_names.specs.declared.number.Number.{Number}
use Rattle.just_recipe.specs.Recipes.{find_number}
use Rattle.just_recipe.specs.declared.dependency.Dependency.{Dependency}
use Rattle.just_recipe.specs.declared.recipe.Recipe.{Recipe}
use Rattle.just_table.specs.Entries.{find}
use Rattle.just_tail.specs.Words.{Words}
use Rattle.just_justfile.proofs.Holding.{number_found}
use Rattle.just_justfile.specs.Closed.{HeldRecipes, IsHeld, recipe_aliased, recipe_named, recipe_of_alias, recipe_of_key, recipe_of_number}
use Rattle.just_justfile.specs.Walks.{module_named}
use Rattle.just_justfile.specs.declared.justfile.Justfile.{Justfile, out-Justfile}
use Rattle.just_justfile.specs.declared.justfile.RecipeKey.{RecipeKey}
use Rattle.just_invocations.specs.Words.{has_colon, is_empty}
use Rattle.just_evaluate.specs.Destination.{submodule_aliased}
use Rattle.just_invocations.specs.Meaning.{Meaning, a_module, a_recipe, disabled_recipe, disabled_alias, absent_module, nothing, disabling, found_or, meaning}
use Rattle.just_invocations.specs.Head.{MeaningLeads, WordsLead, PathLeads, IsHead}
use Rattle.just_invocations.specs.Split.{Counts, Invoked, invoked_of, Chain, IsSplit}
use Rattle.just_invocations.specs.declared.invocation.Invocation.{Invocation}

-- a recipe that the name means is held
abbrev MeansHeld : HeldRecipes → Meaning → Type 0
MeansHeld recipes (a_recipe r) = IsHeld recipes r
MeansHeld recipes (a_module m) = Unit {0}
MeansHeld recipes (disabled_recipe modules) = Unit {0}
MeansHeld recipes (disabled_alias modules) = Unit {0}
MeansHeld recipes absent_module = Unit {0}
MeansHeld recipes nothing = Unit {0}

by_module : (recipes : HeldRecipes) (o : Option Justfile) (m : Meaning) → MeansHeld recipes m → MeansHeld recipes (found_or a_module o m)
by_module recipes (Some x) m h = tt
by_module recipes None m h = h

by_disabled : (recipes : HeldRecipes) (o : Option (List Text)) (m : Meaning) → MeansHeld recipes m → MeansHeld recipes (found_or disabled_recipe o m)
by_disabled recipes (Some x) m h = tt
by_disabled recipes None m h = h

by_disabled_alias : (recipes : HeldRecipes) (o : Option (List Text)) (m : Meaning) → MeansHeld recipes m → MeansHeld recipes (found_or disabled_alias o m)
by_disabled_alias recipes (Some x) m h = tt
by_disabled_alias recipes None m h = h

by_absent : (recipes : HeldRecipes) (b : Bool) → MeansHeld recipes (if b then absent_module else nothing)
by_absent recipes true = tt
by_absent recipes false = tt

by_recipe : (recipes : HeldRecipes) (o : Option (Recipe Dependency)) (m : Meaning) → ((r : Recipe Dependency) → o ≡ Some r → IsHeld recipes r) → MeansHeld recipes m → MeansHeld recipes (found_or a_recipe o m)
by_recipe recipes (Some x) m found h = found x refl
by_recipe recipes None m found h = h

number_held : (recipes : HeldRecipes) (n : ℕ) (r : Recipe Dependency) → find_number recipes n ≡ Some r → IsHeld recipes r
number_held recipes n r e = ap (find_number recipes) (number_found recipes n r e) ∙ e

key_held : (recipes : HeldRecipes) (o : Option RecipeKey) (r : Recipe Dependency) → recipe_of_key recipes o ≡ Some r → IsHeld recipes r
key_held recipes (Some k) r e = number_held recipes k.number.0 r e
key_held recipes None r e = absurd (let f : ⊥ = (cc) in f)

alias_held : (recipes : HeldRecipes) (o : Option (Alias Number)) (r : Recipe Dependency) → recipe_of_alias recipes o ≡ Some r → IsHeld recipes r
alias_held recipes (Some a) r e = number_held recipes a.target.0 r e
alias_held recipes None r e = absurd (let f : ⊥ = (cc) in f)

default_held : (recipes : HeldRecipes) (o : Option Number) (r : Recipe Dependency) → recipe_of_number recipes o ≡ Some r → IsHeld recipes r
default_held recipes (Some k) r e = number_held recipes k.0 r e
default_held recipes None r e = absurd (let f : ⊥ = (cc) in f)

means_held : (root : Justfile) (recipes : HeldRecipes) (here : Justfile) (name : Text) → MeansHeld recipes (meaning root recipes here name)
means_held root recipes here name =
    by_module recipes (module_named name (out-Justfile here).modules) _
    (by_module recipes (submodule_aliased root here name) _
    (by_recipe recipes (recipe_named here recipes name) _ (key_held recipes (find name (out-Justfile here).recipes))
    (by_recipe recipes (recipe_aliased here recipes name) _ (alias_held recipes (find name (out-Justfile here).aliases.recipes))
    (by_disabled recipes (disabling (out-Justfile here).disabled_recipes name) _
    (by_disabled_alias recipes (disabling (out-Justfile here).aliases.disabled name) _
    (by_absent recipes (is_some (find name (out-Justfile here).absent_modules))))))))

leads_held_step : (recipes : HeldRecipes) (m : Meaning) (On : Justfile → Type 0) (names : Words) (r : Recipe Dependency) → MeansHeld recipes m → ((next : Justfile) → On next → IsHeld recipes r) → MeaningLeads m On names r → IsHeld recipes r
leads_held_step recipes (a_module next) On names r h on p = on next p
leads_held_step recipes (a_recipe found) On names r h on p = subst (IsHeld recipes) p.1 h
leads_held_step recipes (disabled_recipe modules) On names r h on p = absurd p
leads_held_step recipes (disabled_alias modules) On names r h on p = absurd p
leads_held_step recipes absent_module On names r h on p = absurd p
leads_held_step recipes nothing On names r h on p = absurd p

leads_held : (root : Justfile) (recipes : HeldRecipes) (here : Justfile) (names rest : Words) (r : Recipe Dependency) → WordsLead root recipes here names rest r → IsHeld recipes r
leads_held root recipes here [] rest r p = default_held recipes (out-Justfile here).default r p.1.0
leads_held root recipes here (n ∷ ns) rest r p =
    leads_held_step recipes (meaning root recipes here n) (λ next. WordsLead root recipes next ns rest r) ns r (means_held root recipes here n) (λ next. leads_held root recipes next ns rest r) p

head_held_step : (root : Justfile) (recipes : HeldRecipes) (w : Text) (ws rest : Words) (r : Recipe Dependency) (colon : Bool) →
    MatchBool colon ((ws ≡ []) × PathLeads root recipes (is_empty rest) w r) (WordsLead root recipes root (w ∷ ws) rest r) → IsHeld recipes r
head_held_step root recipes w ws rest r true p = leads_held root recipes root p.1.0 [] r p.1.2
head_held_step root recipes w ws rest r false p = leads_held root recipes root (w ∷ ws) rest r p

head_held : (root : Justfile) (recipes : HeldRecipes) (words rest : Words) (r : Recipe Dependency) → IsHead root recipes words rest r → IsHeld recipes r
head_held root recipes [] rest r p = leads_held root recipes root [] rest r p
head_held root recipes (w ∷ ws) rest r p = head_held_step root recipes w ws rest r (has_colon w) p

-- the recipes of invocations are
abbrev AreHeld : HeldRecipes → List Invoked → Type 0
AreHeld recipes is = All (λ (i : Invoked). IsHeld recipes i.recipe) is

pub chain_held : (counts : Counts) (root : Justfile) (recipes : HeldRecipes) (words : Words) (is : List Invoked) (rest : Words) → Chain counts root recipes words is rest → AreHeld recipes is
chain_held counts root recipes words [] rest p = All-nil (λ (i : Invoked). IsHeld recipes i.recipe)
chain_held counts root recipes words (i ∷ is) rest p =
    All-cons (λ (i : Invoked). IsHeld recipes i.recipe) i is (head_held root recipes p.2.head (p.2.tail ++ p.1) i.recipe p.2.names) (chain_held counts root recipes p.1 is rest p.3)

pub split_held : (counts : Counts) (root : Justfile) (recipes : HeldRecipes) (words : Words) (is : List Invoked) → IsSplit counts root recipes words is → AreHeld recipes is
split_held counts root recipes [] is p =
    subst (AreHeld recipes) (sym p.1) (All-cons (λ (i : Invoked). IsHeld recipes i.recipe) p.0 [] (head_held root recipes p.2.head (p.2.tail ++ []) p.0.recipe p.2.names) (All-nil (λ (i : Invoked). IsHeld recipes i.recipe)))
split_held counts root recipes (w ∷ ws) is p = chain_held counts root recipes (w ∷ ws) is [] p

-- so are those of invocations that are read
pub all_held : (recipes : HeldRecipes) (is : List Invocation) → AreHeld recipes (map invoked_of is) → All (λ (i : Invocation). IsHeld recipes i.recipe.now) is
all_held recipes [] h = All-nil (λ (i : Invocation). IsHeld recipes i.recipe.now)
all_held recipes (i ∷ is) h =
    let held : IsHeld recipes (invoked_of i).recipe = All-head (λ (i : Invoked). IsHeld recipes i.recipe) (invoked_of i) (map invoked_of is) h in
    All-cons (λ (i : Invocation). IsHeld recipes i.recipe.now) i is held (all_held recipes is (All-tail (λ (i : Invoked). IsHeld recipes i.recipe) (invoked_of i) (map invoked_of is) h))
