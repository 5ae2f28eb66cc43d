-- Recipes that are linked with numbers beside them are linked with those of what each needs.
use Rattle.std.proofs.Common.{Bool, List, [], append-nil, subst, subst₂, sym}
use Rattle.just_compiled.proofs.Linking.{linked_same}
use Rattle.just_module_recipes.specs.Completing.{StandBeside, completion}
use Rattle.just_module_recipes.specs.Linked.{AddsLinked, AreLinked, HasNumber}
use Rattle.just_module_recipes.specs.Links.{Around, Stands}
use Rattle.just_names.specs.declared.number.Number.{Number}
use Rattle.just_paths.specs.declared.modulepath.Modulepath.{Modulepath}
use Rattle.just_recipe.specs.declared.dependency.Dependency.{Dependency}
use Rattle.just_recipe.specs.declared.dependency.UnresolvedDependency.{UnresolvedDependency}
use Rattle.just_recipe.specs.declared.recipe.Recipe.{Recipe}
use Rattle.just_recipe_needs.specs.Needed.{HaveReferences}

module _ (Needs : Recipe UnresolvedDependency → List Number → Type 0) (rs : List (Recipe UnresolvedDependency)) (needed : List (List Number)) (have : HaveReferences Needs rs needed) where
  beside : (r : Recipe UnresolvedDependency) (numbers : List Number) → StandBeside rs needed r numbers → Needs r numbers
  beside r numbers s = subst₂ Needs s.recipe_is (sym s.numbers_are) (have.each s.place s.there)

  pub adds_so : (by : Recipe UnresolvedDependency → Recipe UnresolvedDependency) (lists : Bool) (it : Around) (path : Modulepath) (all : List (Recipe Dependency)) → AddsLinked (completion by (StandBeside rs needed)) lists rs it path all → AddsLinked (completion by Needs) lists rs it path all
  adds_so by lists it path all adds = record {
    added = adds.added;
    appended = adds.appended;
    linked = subst (λ xs. AreLinked (Stands rs it) (HasNumber rs it) (completion by Needs) lists xs rs path adds.added) (append-nil all)
        (linked_same (Stands rs it) (Stands rs it) (λ name s. s) (λ name s. s) (HasNumber rs it) (HasNumber rs it) (λ at n h. h) by (StandBeside rs needed) Needs beside lists all [] rs path adds.added adds.linked);
  }
