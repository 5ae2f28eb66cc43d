-- A recipe that is completed, linked and placed is resolved.
use Rattle.std.proofs.Common.{◌≡◌, ◌∙◌, Bool, List, ap, subst, sym}
use Rattle.just_module_contents.specs.Recipes.{name_of_recipe}
use Rattle.just_module_contents.specs.Resolved.{path_to}
use Rattle.just_module_recipes.specs.Completed.{with_needed}
use Rattle.just_module_recipes.specs.Completing.{Completion}
use Rattle.just_paths.specs.declared.modulepath.Modulepath.{Modulepath}
use Rattle.just_recipe.specs.Resolved.{resolved}
use Rattle.just_recipe.specs.declared.dependency.Dependency.{Dependency}
use Rattle.just_recipe.specs.declared.dependency.UnresolvedDependency.{UnresolvedDependency}
use Rattle.just_recipe.specs.declared.recipe.Recipe.{Recipe}
use Rattle.just_recipe_resolver.specs.Resolved.{IsResolvedTo, links_to}
use Rattle.just_recipe_resolver.specs.loops.Resolved.{IsCompleted}

module _ (completed : Completion) (lists : Bool) (path : Modulepath) (r : Recipe UnresolvedDependency) (targets : List (Recipe Dependency)) (m : Recipe UnresolvedDependency) (links : List Dependency) (made : Recipe Dependency) where
  pub placed_so : IsCompleted completed r m → links ≡ links_to lists m.dependencies targets → made ≡ resolved m links path (path_to path (name_of_recipe m)) → IsResolvedTo completed lists path r targets made
  placed_so done l e =
      let whole : made ≡ resolved (with_needed (completed.by r) done.numbers) links path (path_to path (name_of_recipe (completed.by r))) = e ∙ (λ i. resolved (done.made_is i) links path (path_to path (name_of_recipe (done.made_is i)))) in
      record {
        resolved = record {
          name = ap (λ (x : Recipe Dependency). x.name) whole;
          number = ap (λ (x : Recipe Dependency). x.number) whole;
          parameters = ap (λ (x : Recipe Dependency). x.parameters) whole;
          priors = ap (λ (x : Recipe Dependency). x.priors) whole;
          private = ap (λ (x : Recipe Dependency). x.private) whole;
          attributes = ap (λ (x : Recipe Dependency). x.attributes) whole;
          body = ap (λ (x : Recipe Dependency). x.body) whole;
          doc = ap (λ (x : Recipe Dependency). x.doc) whole;
          quiet = ap (λ (x : Recipe Dependency). x.quiet) whole;
          shebang = ap (λ (x : Recipe Dependency). x.shebang) whole;
          file_depth = ap (λ (x : Recipe Dependency). x.file_depth) whole;
          import_offsets = ap (λ (x : Recipe Dependency). x.import_offsets) whole;
          module_path = ap (λ (x : Recipe Dependency). x.module_path) whole;
          recipe_path = ap (λ (x : Recipe Dependency). x.recipe_path) whole;
        };
        references = subst (completed.Needs r) (sym (ap (λ (x : Recipe Dependency). x.variable_references) whole)) done.needed;
        dependencies = ap (λ (x : Recipe Dependency). x.dependencies) whole ∙ (l ∙ ap (λ (x : Recipe UnresolvedDependency). links_to lists x.dependencies targets) done.made_is);
      }
