-- A plan keeps all rules.
use Rattle.std.proofs.Common.{Bool, List, [], length, get_or, subst, sym}
use Rattle.std.specs.BTreeSet.{BTreeSet}
use Rattle.std.proofs.lemmas.List.Elements.{All-contains}
use Rattle.just_errors.specs.Causes.{Cause, Keeps}
use Rattle.just_graph.proofs.Members.{from_map, is_in}
use Rattle.just_module_contents.specs.Recipes.{named_paths, recipe_at}
use Rattle.just_module_contents.specs.Rules.{IsOutside, argument_count, circular, starred, unknown_dependency}
use Rattle.just_module_recipes.specs.Links.{Around, BreaksLinks, PathLeadsTo}
use Rattle.just_module_recipes.specs.loops.Making.{AreExact, AreGivenSets, IsGiven}
use Rattle.just_module_recipes.specs.loops.Rows.{AreRecipeRows, Circular, IsTargetOf, Lost, circle, lost}
use Rattle.just_module_recipes.specs.declared.targets.Target.{Target}
use Rattle.just_module_recipes.proofs.Finding.{leads}
use Rattle.just_module_recipes.proofs.Finished.{stands_empty}
use Rattle.just_module_recipes.proofs.Zipped.{zip_forth}
use Rattle.just_paths.specs.declared.modulepath.Modulepath.{Modulepath}
use Rattle.just_recipe.specs.declared.dependency.UnresolvedDependency.{UnresolvedDependency}
use Rattle.just_recipe.specs.declared.recipe.Recipe.{Recipe}

module _ (lists : Bool) (rs : List (Recipe UnresolvedDependency)) (it : Around) where
  -- what is told on the way is broken
  pub lost_breaks : (c : Cause) → Lost rs it c → BreaksLinks lists rs it c
  lost_breaks _ (lost by none) = unknown_dependency by none

  pub circle_breaks : (c : Cause) → Circular rs c → BreaksLinks lists rs it c
  circle_breaks _ (circle c d) = circular c d

  -- what has rows, no circle and arguments as they are taken keeps all rules
  pub links_kept : (rows : List (List Target)) → AreRecipeRows rs it (length rs) rows → Keeps (Circular rs) → (sets : List (BTreeSet Modulepath)) → AreExact rs it sets → AreGivenSets lists rs it sets (length rs) → Keeps (BreaksLinks lists rs it)
  links_kept rows are circles sets exact given _ (unknown_dependency {recipe} {unknown} by none) =
      let d = from_map (λ (x : UnresolvedDependency). x.recipe) unknown (recipe_at rs by.from).dependencies (is_in unknown (named_paths (recipe_at rs by.from)) by.depends) in
      let t = zip_forth (IsTargetOf rs it) (recipe_at rs by.from).dependencies (get_or rows by.from []) d.0 (are.each by.from by.there) d.1 in
      none (subst (PathLeadsTo rs it) (sym d.2) (leads rs it d.0.recipe t.0 t.2))
  links_kept rows are circles sets exact given c (circular k d) = circles _ (circle k d)
  links_kept rows are circles sets exact given _ (starred {d} s off on) =
      let g : IsGiven lists rs it d = All-contains (IsGiven lists rs it) (recipe_at rs s.from).dependencies d (given s.from s.there (stands_empty rs it sets exact s.from s.there s.stands)) s.depends in
      g.star off on
  links_kept rows are circles sets exact given _ (argument_count {d} {found} {least} {most} s takes is wrong) =
      let g : IsGiven lists rs it d = All-contains (IsGiven lists rs it) (recipe_at rs s.from).dependencies d (given s.from s.there (stands_empty rs it sets exact s.from s.there s.stands)) s.depends in
      g.count least most takes (subst (λ n. IsOutside n least most) (sym is) wrong)
