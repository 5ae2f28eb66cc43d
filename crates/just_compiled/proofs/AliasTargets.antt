-- The target of an alias leads to something where it means something over the tables of a module.
use Rattle.std.proofs.Common.{◌≡◌, ◌≢◌, ◌∙◌, ◌⊎◌, ℕ, ◌<◌, List, [], ◌∷◌, map, length, Bool, true, false, is_some, if◌then◌else◌, Option, None, Some, inl, inr, refl, sym, ap}
use Rattle.std.specs.Option.{option_map}
use Rattle.std.proofs.lemmas.List.{get_or_default}
use Rattle.just_graph.proofs.Members.{contained, in_map, is_in}
use Rattle.just_ast_definitions.specs.declared.alias.Alias.{Alias}
use Rattle.just_errors.specs.Causes.{Cause, Keeps}
use Rattle.just_justfile.specs.Walks.{Absent, End, Here, Inside, Nowhere, beyond, end_of_names, module_by, module_named, recipe_by}
use Rattle.just_justfile.specs.declared.disabled.Disabled.{Disabled}
use Rattle.just_justfile.specs.declared.justfile.Justfile.{Justfile, out-Justfile}
use Rattle.just_justfile.specs.declared.justfile.RecipeKey.{RecipeKey}
use Rattle.just_justfile.specs.declared.resolution.Resolution.{Resolution}
use Rattle.just_justfile.specs.declared.resolution.Resolution.TheVariants as resolution
use Rattle.just_module_contents.specs.Recipes.{name_of_recipe, no_recipe, recipe_at}
use Rattle.just_module_contents.specs.Rules.{BreaksAliasTargets, unknown_target}
use Rattle.just_module_contents.specs.Standing.{AreStanding}
use Rattle.just_module_aliases.specs.Aliased.{Targets, UnknownTargets, as_module, as_recipe, alias_meant, alias_targets}
use Rattle.just_module_recipes.specs.Linked.{HasDisabled, name_of_disabled}
use Rattle.just_module_recipes.specs.Links.{Around, Disables, HasTarget, PathLeadsTo, IsNameOf, Stands, far, near, to_module, to_recipe}
use Rattle.just_module_aliases.specs.declared.aliases.AliasMeaning.{AliasMeaning}
use Rattle.just_module_aliases.proofs.Aliasing.{means_none}
use Rattle.just_names.specs.Name.{text_of_name}
use Rattle.just_names.specs.Texts.{Text}
use Rattle.just_names.specs.declared.name.Name.{Name}
use Rattle.just_names.specs.declared.name.Namepath.{Namepath}
use Rattle.just_names.specs.declared.number.Number.{Number}
use Rattle.just_paths.specs.declared.modulepath.Modulepath.{Modulepath}
use Rattle.just_recipe.specs.declared.dependency.UnresolvedDependency.{UnresolvedDependency}
use Rattle.just_recipe.specs.declared.recipe.Recipe.{Recipe}
use Rattle.just_table.specs.Entries.{find}
use Rattle.just_compiled.specs.Analysis.{recipe_key_of, name_of_key, recipe_table}
use Rattle.just_compiled.proofs.Bridges.{one_text, texts_one}
use Rattle.just_compiled.proofs.RecipeKeys.{found_among, key_found, not_found}
use Rattle.just_compiled.proofs.StandingRecipes.{disabled_or, from_disabled, from_standing, into_standing}

-- a path means something where it leads to a module or to a recipe
module_meant : (rm : Option (Resolution Modulepath)) (other : Option AliasMeaning) → as_module rm other ≡ None → (rm ≡ None) × (other ≡ None)
module_meant None other e = (refl, e)
module_meant (Some (resolution.Disabled set)) other e = cc
module_meant (Some (resolution.Resolved path)) other e = cc

recipe_meant : (r : Option (Resolution Number)) → as_recipe r ≡ None → r ≡ None
recipe_meant None e = refl
recipe_meant (Some (resolution.Disabled set)) e = cc
recipe_meant (Some (resolution.Resolved number)) e = cc

-- what a look-up that finds nothing has not found
neither : (o : Option RecipeKey) (q : Option Disabled) → (elim o as (λ _. Option (Resolution Number)) [ Some key ↦ Some (resolution.Resolved key.number) | None ↦ option_map (λ (it : Disabled). resolution.Disabled it.modules) q ]) ≡ None → (o ≡ None) × (q ≡ None)
neither None None e = (refl, refl)
neither None (Some d) e = cc
neither (Some key) q e = cc

-- what is found through modules does not depend on the tables where a walk begins
through : (e : End) (rs : List (Text × RecipeKey)) (ds : List (Text × Disabled)) (last : Text) → recipe_by e rs ds last ≡ None → recipe_by e [] [] last ≡ None
through Here rs ds last f = refl
through (Inside j) rs ds last f = f
through (Absent names) rs ds last f = f
through Nowhere rs ds last f = f

-- a name leads somewhere else, or nowhere
not_here : (x : Text) (names : List Text) (absent : List (Text × Text)) (modules : List Justfile) → end_of_names absent modules (x ∷ names) ≡ Here → ⊥
not_here x names absent modules e = go (is_some (find x absent)) (module_named x modules) e
  where
    past : (j : Justfile) (e : End) → beyond x j e ≡ Here → ⊥
    past j Here f = cc
    past j (Inside k) f = cc
    past j (Absent ns) f = cc
    past j Nowhere f = cc

    go : (b : Bool) (found : Option Justfile) → (elim found as (λ _. End) [ Some j ↦ beyond x j (end_of_names (out-Justfile j).absent_modules (out-Justfile j).modules names) | None ↦ if b then Absent (x ∷ []) else Nowhere ]) ≡ Here → ⊥
    go b (Some j) f = past j (end_of_names (out-Justfile j).absent_modules (out-Justfile j).modules names) f
    go true None f = cc
    go false None f = cc

module _ (recipes standing : List (Recipe UnresolvedDependency)) (it : Around) (disabled : List (Text × Disabled)) (stand : AreStanding (Stands recipes it) recipes standing) (are : HasDisabled (Disables recipes it) recipes disabled) where
  abbrev t : Targets
  t = alias_targets it.absent disabled it.modules (recipe_table standing)

  -- a recipe of the module is in one of the tables under its name
  in_tables : (j : ℕ) → j < length recipes → find (name_of_recipe (recipe_at recipes j)) (recipe_table standing) ≡ None → find (name_of_recipe (recipe_at recipes j)) disabled ≡ None → ⊥
  in_tables j there none lost =
      let r = recipe_at recipes j in
      let i = is_in r recipes (j, there, get_or_default recipes j r no_recipe there) in
      elim (disabled_or (Disables recipes it) are.1 r i) [
        | inl stands ↦ not_found name_of_key (name_of_recipe r) [] (map recipe_key_of standing) none (recipe_key_of r) (in_map recipe_key_of r standing (into_standing (Stands recipes it) stand r i stands)) refl
        | inr d ↦ not_found name_of_disabled (name_of_recipe r) [] are.0 (ap (find (name_of_recipe r)) (sym are.2) ∙ lost) d.0 d.1 d.2
      ]

  -- what is in one of the tables is a recipe of the module
  from_tables : (name : Text) (o : Option RecipeKey) (q : Option Disabled) → find name (recipe_table standing) ≡ o → find name disabled ≡ q → (o ≡ None) × (q ≡ None) ⊎ ((j : ℕ) × (j < length recipes) × (name_of_recipe (recipe_at recipes j) ≡ name))
  from_tables name (Some key) q e f =
      let k = key_found standing name key e in
      let s = from_standing (Stands recipes it) stand k.0 k.1 in
      let at = contained k.0 recipes s.0 in
      inr (at.0, at.1, ap (λ (x : Recipe UnresolvedDependency). name_of_recipe x) (get_or_default recipes at.0 no_recipe k.0 at.1 ∙ at.2) ∙ k.3)
  from_tables name None (Some d) e f = elim (found_among name_of_disabled name d [] are.0 (ap (find name) (sym are.2) ∙ f)) [
    | inr wrong ↦ absurd (cc)
    | inl k ↦ (
        let r = from_disabled (Disables recipes it) are.1 d k.0 in
        let at = contained r.0 recipes r.1 in
        inr (at.0, at.1, ap (λ (x : Recipe UnresolvedDependency). name_of_recipe x) (get_or_default recipes at.0 no_recipe r.0 at.1 ∙ at.2) ∙ sym r.2.name ∙ k.1))
  ]
  from_tables name None None e f = inl (refl, refl)

  module _ (path : Namepath) where
    abbrev before : End
    before = end_of_names it.absent it.modules (map text_of_name path.front)

    abbrev last : Text
    last = text_of_name path.last

    near_lost : (j : ℕ) → IsNameOf recipes path j → recipe_by before (recipe_table standing) disabled last ≡ None → ⊥
    near_lost j names e =
        let one = one_text path.front path.last (name_of_recipe (recipe_at recipes j)) names.named in
        let here : before ≡ Here = ap (λ front. end_of_names it.absent it.modules (map text_of_name front)) one.0 in
        let f = neither (find last (recipe_table standing)) (find last disabled) (ap (λ e. recipe_by e (recipe_table standing) disabled last) (sym here) ∙ e) in
        in_tables j names.there (ap (λ name. find name (recipe_table standing)) (sym one.1) ∙ f.0) (ap (λ name. find name disabled) (sym one.1) ∙ f.1)

    -- a path that means nothing leads to nothing
    pub nothing_meant : alias_meant t path ≡ None → HasTarget recipes it path → ⊥
    nothing_meant e target =
        let none = module_meant (module_by before it.absent it.modules path) (as_recipe (recipe_by before (recipe_table standing) disabled last)) e in
        let lost = recipe_meant (recipe_by before (recipe_table standing) disabled last) none.1 in
        go target none.0 lost
      where
        go : HasTarget recipes it path → module_by before it.absent it.modules path ≡ None → recipe_by before (recipe_table standing) disabled last ≡ None → ⊥
        go (to_module some) none lost = some none
        go (to_recipe (near j names)) none lost = near_lost j names lost
        go (to_recipe (far some)) none lost = some (through before (recipe_table standing) disabled last lost)

    near_or : (front : List Name) → path.front ≡ front → recipe_by before (recipe_table standing) disabled last ≢ None → PathLeadsTo recipes it path
    near_or [] e some = elim (from_tables last (find last (recipe_table standing)) (find last disabled) refl refl) [
      | inl none ↦ absurd (some (
          ap (λ front. recipe_by (end_of_names it.absent it.modules (map text_of_name front)) (recipe_table standing) disabled last) e
          ∙ (λ i. elim (none.0 i) as (λ _. Option (Resolution Number)) [ Some key ↦ Some (resolution.Resolved key.number) | None ↦ option_map (λ (it : Disabled). resolution.Disabled it.modules) (none.1 i) ])))
      | inr at ↦ near at.0 (record { there = at.1; named = texts_one path e ∙ ap (λ t. t ∷ []) (sym at.2) })
    ]
    near_or (x ∷ front) e some = far (λ f. some (walked before (ap (λ ns. end_of_names it.absent it.modules (map text_of_name ns)) e) f))
      where
        walked : (end : End) → end ≡ end_of_names it.absent it.modules (text_of_name x ∷ map text_of_name front) → recipe_by end [] [] last ≡ None → recipe_by end (recipe_table standing) disabled last ≡ None
        walked Here at f = absurd (not_here (text_of_name x) (map text_of_name front) it.absent it.modules (sym at))
        walked (Inside j) at f = f
        walked (Absent names) at f = f
        walked Nowhere at f = f

    -- and one that leads to nothing means nothing
    pub meant_nothing : (HasTarget recipes it path → ⊥) → alias_meant t path ≡ None
    meant_nothing lost = go (module_by before it.absent it.modules path) refl (recipe_by before (recipe_table standing) disabled last) refl
      where
        go : (rm : Option (Resolution Modulepath)) → module_by before it.absent it.modules path ≡ rm → (r : Option (Resolution Number)) → recipe_by before (recipe_table standing) disabled last ≡ r → as_module rm (as_recipe r) ≡ None
        go (Some x) e r f = absurd (lost (to_module (λ g. let wrong : Some x ≡ None = sym e ∙ g in cc)))
        go None e (Some x) f = absurd (lost (to_recipe (near_or path.front refl (λ g. let wrong : Some x ≡ None = sym f ∙ g in cc))))
        go None e None f = refl

  -- so the same targets are unknown
  pub unknown_on : (aliases : List (Alias Namepath)) (c : Cause) → UnknownTargets t aliases c → BreaksAliasTargets (HasTarget recipes it) aliases c
  unknown_on aliases _ (unknown_target {alias} there lost) = unknown_target there (nothing_meant alias.target (means_none (alias_meant t alias.target) lost))

  pub targets_known : (aliases : List (Alias Namepath)) → Keeps (UnknownTargets t aliases) → Keeps (BreaksAliasTargets (HasTarget recipes it) aliases)
  targets_known aliases kept _ (unknown_target {alias} there lost) = kept _ (unknown_target there (λ some. some (meant_nothing alias.target lost)))
