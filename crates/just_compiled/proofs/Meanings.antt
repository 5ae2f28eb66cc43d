-- What a path means, by where all its names lead.
use Rattle.std.proofs.Common.{◌≡◌, ◌≢◌, ◌⊎◌, ◌∙◌, Bool, true, false, List, [], ◌∷◌, ◌++◌, map, Option, None, Some, inl, inr, refl, sym, ap, if◌then◌else◌, is_some}
use Rattle.std.proofs.lemmas.List.{map-append}
use Rattle.just_justfile.specs.Walks.{Absent, End, Here, Inside, Nowhere, beyond, end_of_names, module_by, module_named, only, path_along, recipe_by}
use Rattle.just_justfile.specs.declared.disabled.Disabled.{Disabled}
use Rattle.just_justfile.specs.declared.justfile.Justfile.{Justfile, out-Justfile}
use Rattle.just_justfile.specs.declared.justfile.RecipeKey.{RecipeKey}
use Rattle.just_justfile.specs.declared.resolution.Resolution.{Resolution}
use Rattle.just_justfile.specs.declared.resolution.Resolution.TheVariants as resolution
use Rattle.just_module_aliases.specs.Aliased.{Targets, as_module, as_recipe, alias_meant}
use Rattle.just_module_aliases.specs.declared.aliases.AliasMeaning.{AliasMeaning}
use Rattle.just_module_aliases.specs.declared.aliases.AliasMeaning.TheVariants as meaning
use Rattle.just_names.specs.Name.{text_of_name, texts_of_path}
use Rattle.just_names.specs.Texts.{Text}
use Rattle.just_names.specs.declared.name.Namepath.{Namepath}
use Rattle.just_paths.specs.declared.modulepath.Modulepath.{Modulepath}
use Rattle.just_table.specs.Entries.{find}

-- where a name leads after these, by the module of the name
abbrev last_by : List Text → Text → Bool → Option Justfile → End
last_by front last absent found = elim found as (λ _. End) [
  | Some j ↦ Inside j
  | None ↦ if absent then Absent (front ++ last ∷ []) else Nowhere
]

abbrev last_end : List Text → Text → List (Text × Text) → List Justfile → End
last_end front last absent modules = last_by front last (is_some (find last absent)) (module_named last modules)

-- where names lead, by where all but the last of them lead
abbrev pub on_from : End → List Text → Text → List (Text × Text) → List Justfile → End
on_from Here front last absent modules = last_end front last absent modules
on_from (Inside j) front last absent modules = last_end front last (out-Justfile j).absent_modules (out-Justfile j).modules
on_from (Absent names) front last absent modules = Absent names
on_from Nowhere front last absent modules = Nowhere

beyond_last : (x : Text) (j : Justfile) (front : List Text) (last : Text) (absent : Bool) (found : Option Justfile) → beyond x j (last_by front last absent found) ≡ last_by (x ∷ front) last absent found
beyond_last x j front last absent (Some k) = refl
beyond_last x j front last true None = refl
beyond_last x j front last false None = refl

beyond_on : (x : Text) (j : Justfile) (e : End) (front : List Text) (last : Text) (absent : List (Text × Text)) (modules : List Justfile)
    → beyond x j (on_from e front last (out-Justfile j).absent_modules (out-Justfile j).modules) ≡ on_from (beyond x j e) (x ∷ front) last absent modules
beyond_on x j Here front last absent modules = beyond_last x j front last (is_some (find last (out-Justfile j).absent_modules)) (module_named last (out-Justfile j).modules)
beyond_on x j (Inside k) front last absent modules = beyond_last x j front last (is_some (find last (out-Justfile k).absent_modules)) (module_named last (out-Justfile k).modules)
beyond_on x j (Absent names) front last absent modules = refl
beyond_on x j Nowhere front last absent modules = refl

-- where names lead of which the first is this, by the module of the first
abbrev first_end : List Text → Text → Bool → Option Justfile → End
first_end names x absent found = elim found as (λ _. End) [
  | Some j ↦ beyond x j (end_of_names (out-Justfile j).absent_modules (out-Justfile j).modules names)
  | None ↦ if absent then Absent (x ∷ []) else Nowhere
]

pub end_last : (front : List Text) (last : Text) (absent : List (Text × Text)) (modules : List Justfile) → end_of_names absent modules (front ++ last ∷ []) ≡ on_from (end_of_names absent modules front) front last absent modules
end_last [] last absent modules = refl
end_last (x ∷ front) last absent modules = go (λ j. end_last front last (out-Justfile j).absent_modules (out-Justfile j).modules) (is_some (find x absent)) (module_named x modules)
  where
    go : ((j : Justfile) → end_of_names (out-Justfile j).absent_modules (out-Justfile j).modules (front ++ last ∷ []) ≡ on_from (end_of_names (out-Justfile j).absent_modules (out-Justfile j).modules front) front last (out-Justfile j).absent_modules (out-Justfile j).modules)
        → (b : Bool) (found : Option Justfile) → first_end (front ++ last ∷ []) x b found ≡ on_from (first_end front x b found) (x ∷ front) last absent modules
    go inner b (Some j) = ap (beyond x j) (inner j) ∙ beyond_on x j (end_of_names (out-Justfile j).absent_modules (out-Justfile j).modules front) front last absent modules
    go inner true None = refl
    go inner false None = refl

-- what a path means, by where its names lead, and by what the recipe to which it leads means
abbrev pub meaning_at : End → Option AliasMeaning → Option AliasMeaning
meaning_at Here other = other
meaning_at (Inside j) other = Some (meaning.Module (out-Justfile j).module_path)
meaning_at (Absent names) other = Some (meaning.Disabled (only (path_along names)))
meaning_at Nowhere other = other

-- what the last name leads to, by the module of the name
abbrev module_found : List Text → Bool → Option Justfile → Option (Resolution Modulepath)
module_found names absent found = elim found as (λ _. Option (Resolution Modulepath)) [
  | Some j ↦ Some (resolution.Resolved (out-Justfile j).module_path)
  | None ↦ if absent then Some (resolution.Disabled (only (path_along names))) else None
]

found_means : (front : List Text) (last : Text) (absent : Bool) (found : Option Justfile) (other : Option AliasMeaning) → as_module (module_found (front ++ last ∷ []) absent found) other ≡ meaning_at (last_by front last absent found) other
found_means front last absent (Some j) other = refl
found_means front last true None other = refl
found_means front last false None other = refl

module _ (path : Namepath) where
  abbrev front : List Text
  front = map text_of_name path.front

  abbrev last : Text
  last = text_of_name path.last

  pub texts_are : texts_of_path path ≡ front ++ last ∷ []
  texts_are = map-append text_of_name path.front (path.last ∷ [])

  module _ (absent : List (Text × Text)) (modules : List Justfile) where
    abbrev before : End
    before = end_of_names absent modules front

    -- where all names of the path lead
    pub end_is : end_of_names absent modules (texts_of_path path) ≡ on_from before front last absent modules
    end_is = ap (end_of_names absent modules) texts_are ∙ end_last front last absent modules

    module _ (disabled : List (Text × Disabled)) (recipes : List (Text × RecipeKey)) where
      by_end : (e : End) → as_module (module_by e absent modules path) (as_recipe (recipe_by e recipes disabled last)) ≡ meaning_at (on_from e front last absent modules) (as_recipe (recipe_by e recipes disabled last))
      by_end Here = ap (λ names. as_module (module_found names (is_some (find last absent)) (module_named last modules)) (as_recipe (recipe_by Here recipes disabled last))) texts_are
          ∙ found_means front last (is_some (find last absent)) (module_named last modules) (as_recipe (recipe_by Here recipes disabled last))
      by_end (Inside j) = ap (λ names. as_module (module_found names (is_some (find last (out-Justfile j).absent_modules)) (module_named last (out-Justfile j).modules)) (as_recipe (recipe_by (Inside j) recipes disabled last))) texts_are
          ∙ found_means front last (is_some (find last (out-Justfile j).absent_modules)) (module_named last (out-Justfile j).modules) (as_recipe (recipe_by (Inside j) recipes disabled last))
      by_end (Absent names) = refl
      by_end Nowhere = refl

      -- what a path means is where its names lead, or the recipe to which it leads
      pub meant_is : as_module (module_by before absent modules path) (as_recipe (recipe_by before recipes disabled last)) ≡ meaning_at (end_of_names absent modules (texts_of_path path)) (as_recipe (recipe_by before recipes disabled last))
      meant_is = by_end before ∙ ap (λ e. meaning_at e (as_recipe (recipe_by before recipes disabled last))) (sym end_is)

    some_found : (b : Bool) (found : Option Justfile) → module_found (texts_of_path path) b found ≢ None → last_by front last b found ≢ Nowhere
    some_found b (Some j) some e = cc
    some_found true None some e = cc
    some_found false None some e = some refl

    found_some : (b : Bool) (found : Option Justfile) → last_by front last b found ≢ Nowhere → module_found (texts_of_path path) b found ≢ None
    found_some b (Some j) some e = cc
    found_some true None some e = cc
    found_some false None some e = some refl

    some_module : (e : End) → module_by e absent modules path ≢ None → on_from e front last absent modules ≢ Nowhere
    some_module Here some = some_found (is_some (find last absent)) (module_named last modules) some
    some_module (Inside j) some = some_found (is_some (find last (out-Justfile j).absent_modules)) (module_named last (out-Justfile j).modules) some
    some_module (Absent names) some = absurd (some refl)
    some_module Nowhere some = absurd (some refl)

    -- a path that leads to a module, present or absent, leads somewhere
    pub module_somewhere : module_by before absent modules path ≢ None → end_of_names absent modules (texts_of_path path) ≢ Nowhere
    module_somewhere some e = some_module before some (sym end_is ∙ e)

    module_or : (e : End) → on_from e front last absent modules ≢ Nowhere → (module_by e absent modules path ≢ None) ⊎ (recipe_by e [] [] last ≢ None)
    module_or Here some = inl (found_some (is_some (find last absent)) (module_named last modules) some)
    module_or (Inside j) some = inl (found_some (is_some (find last (out-Justfile j).absent_modules)) (module_named last (out-Justfile j).modules) some)
    module_or (Absent names) some = inr (λ e. cc)
    module_or Nowhere some = absurd (some refl)

    -- and one that leads somewhere leads to a module, or through one without a file
    pub somewhere_or : end_of_names absent modules (texts_of_path path) ≢ Nowhere → (module_by before absent modules path ≢ None) ⊎ (recipe_by before [] [] last ≢ None)
    somewhere_or some = module_or before (λ e. some (end_is ∙ e))

-- what a path means as the target of an alias
pub meant_by : (t : Targets) (path : Namepath) → alias_meant t path ≡ meaning_at (end_of_names t.absent t.modules (texts_of_path path)) (as_recipe (recipe_by (end_of_names t.absent t.modules (map text_of_name path.front)) t.recipes t.disabled (text_of_name path.last)))
meant_by t path = meant_is path t.absent t.modules t.disabled t.recipes
