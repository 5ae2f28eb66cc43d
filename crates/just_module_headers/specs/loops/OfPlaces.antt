-- What private functions say beside `OfPlaces.antt`.
use Rattle.std.specs.Prelude.{ℕ, Bool, List}
use Rattle.just_graph.specs.Graph.{targets}
use Rattle.just_parts.specs.Items.{Item}
use Rattle.just_recipe.specs.declared.dependency.UnresolvedDependency.{UnresolvedDependency}
use Rattle.just_recipe.specs.declared.recipe.Recipe.{Recipe}
use Rattle.just_names.specs.declared.name.Name.{Name}
use Rattle.just_module_contents.specs.Labels.{label_by}
use Rattle.just_module_contents.specs.declared.labels.Label.{Label}
use Rattle.just_module_contents.specs.Contents.{Contents}
use Rattle.just_module_headers.specs.Files.{asts_in}
use Rattle.just_module_contents.specs.Named.{contents_from, name_by, said_from, recipes_from}
use Rattle.just_module_headers.specs.declared.files.Files.{Files}
use Rattle.just_module_headers.specs.declared.join.Joined.{Joined}

-- the recipes of the module at a place, and the names of the modules in it
abbrev pub recipes_of_place : (Item → Bool) → Files → Joined → ℕ → List (Recipe UnresolvedDependency)
recipes_of_place enabled files joined p = recipes_from enabled (asts_in files) (targets joined.files.items p)

abbrev pub names_of_place : (Item → Bool) → Files → Joined → ℕ → List Name
names_of_place enabled files joined p = said_from name_by enabled (asts_in files) (targets joined.files.items p)

-- the labels of the modules in it
abbrev pub labels_of_place : (Item → Bool) → Files → Joined → ℕ → List Label
labels_of_place enabled files joined p = said_from label_by enabled (asts_in files) (targets joined.files.items p)

-- all that the rules read of it
abbrev pub contents_of_place : (Item → Bool) → Files → Joined → ℕ → Contents
contents_of_place enabled files joined p = contents_from enabled (asts_in files) (targets joined.files.items p)
