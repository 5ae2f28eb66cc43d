-- What a path resolves to, by where its names before the last lead.
use Rattle.std.proofs.Common.{◌≡◌, ℕ, List, map, take, Some, sym, ap, ◌∙◌}
use Rattle.std.proofs.lemmas.List.{take-map}
use Rattle.std.specs.BTreeSet.{BTreeSet}
use Rattle.just_names.specs.Name.{text_of_name}
use Rattle.just_names.specs.Texts.{Text}
use Rattle.just_names.specs.declared.name.Name.{Name}
use Rattle.just_names.specs.declared.name.Namepath.{Namepath}
use Rattle.just_paths.specs.declared.modulepath.Modulepath.{Modulepath}
use Rattle.just_justfile.specs.declared.disabled.Disabled.{Disabled}
use Rattle.just_justfile.specs.declared.justfile.Justfile.{Justfile}
use Rattle.just_justfile.specs.declared.justfile.RecipeKey.{RecipeKey}
use Rattle.just_justfile.specs.declared.resolution.Resolution.TheVariants as resolution
use Rattle.just_justfile.specs.Walks.{Absent, end_of_names, only, path_along, recipe_by, resolved_recipe}

-- through a module without a file
pub recipe_absent : (absent : List (Text × Text)) (disabled : List (Text × Disabled)) (modules : List Justfile) (recipes : List (Text × RecipeKey)) (path : Namepath) (front : List Name) (count : ℕ) (walked : Modulepath) (set : BTreeSet Modulepath)
    → front ≡ path.front → end_of_names absent modules (map text_of_name front) ≡ Absent (take count (map text_of_name front)) → walked ≡ path_along (map text_of_name (take count front)) → set ≡ only walked
    → Some (resolution.Disabled set) ≡ resolved_recipe absent disabled modules recipes path
recipe_absent absent disabled modules recipes path front count walked set same end is alone =
    (λ i. Some (resolution.Disabled (alone i))) ∙ (λ i. Some (resolution.Disabled (only (is i)))) ∙ (λ i. Some (resolution.Disabled (only (path_along (sym (take-map text_of_name count front) i)))))
    ∙ sym (ap (λ e. recipe_by e recipes disabled (text_of_name path.last)) (ap (λ (xs : List Name). end_of_names absent modules (map text_of_name xs)) (sym same) ∙ end))
