-- What is analyzed can run.
use Rattle.std.proofs.Common.{◌≡◌, ◌∙◌, List, [], Option, Some, inl, inr, refl, sym, ap, subst}
use Rattle.std.specs.List.{Contains}
use Rattle.just_compiled.proofs.Building.{of_module}
use Rattle.just_compiled.proofs.InOrder.{in_order}
use Rattle.just_compiled.proofs.Placing.{standing}
use Rattle.just_compiled.proofs.RecipeNeeds.{has_needs}
use Rattle.just_compiled.specs.Justfiles.{Built, Made, contents_read}
use Rattle.just_compiler.proofs.Meant.{built_once, rooted}
use Rattle.just_compiler.specs.Analyzed.{IsAnalyzed}
use Rattle.just_compiler.specs.Readings.{Overrides, given_in, root_heading}
use Rattle.just_graph.proofs.Index.{some_same}
use Rattle.just_graph.proofs.Members.{In, contained, from_flat, is_in}
use Rattle.just_justfile.proofs.Returning.{found_by_path}
use Rattle.just_justfile.specs.Closed.{AreClosed, StandsIn}
use Rattle.just_justfile.specs.Running.{CanRun, HasNeeds}
use Rattle.just_justfile.specs.Walks.{inner_along}
use Rattle.just_justfile.specs.declared.justfile.Justfile.{Justfile, out-Justfile}
use Rattle.just_loader.specs.Reached.{World}
use Rattle.just_module_headers.specs.Reading.{reading_of}
use Rattle.just_module_tree.proofs.Agreeing.{find_reached}
use Rattle.just_module_tree.specs.Modules.{Heading}
use Rattle.just_names.specs.Texts.{Text}
use Rattle.just_names.specs.declared.number.Number.{Number}
use Rattle.just_parts.specs.Asts.{AstKey}
use Rattle.just_parts.specs.Evaluator.{Evaluator}
use Rattle.just_parts.specs.Items.{Ast}
use Rattle.just_paths.specs.declared.modulepath.Modulepath.{Modulepath}
use Rattle.just_recipe.specs.declared.dependency.Dependency.{Dependency}
use Rattle.just_recipe.specs.declared.recipe.Recipe.{Recipe}

-- of one path there is one module in a root
one_of_path : (recipes : List (Recipe Dependency)) (root i j : Justfile) → AreClosed recipes root → (out-Justfile root).module_path.components ≡ [] → StandsIn root i → StandsIn root j → (out-Justfile i).module_path ≡ (out-Justfile j).module_path → i ≡ j
one_of_path recipes root i j closed top stands other same =
    some_same (sym (found_by_path recipes root i closed top stands) ∙ ap (λ (p : Modulepath). inner_along root p.components) same ∙ found_by_path recipes root j closed top other)

module _ (evaluator : Evaluator) (overrides : Overrides) (w : World) (asts : AstKey → Option Ast) (paths : (k : AstKey) (a : Ast) → asts k ≡ Some a → a.module_path ≡ k.0) (loaded : List Text) (justfile : Justfile) (recipes : List (Recipe Dependency)) (overridden : List (Number × Text))
    (analyzed : IsAnalyzed (given_in evaluator overrides w) asts loaded (root_heading w) justfile recipes overridden) where
  -- each recipe has what it needs of the module of its path
  needs : (j : Justfile) (r : Recipe Dependency) → StandsIn justfile j → Contains recipes r → r.module_path ≡ Some (out-Justfile j).module_path → HasNeeds w.answers j r
  needs j r stands there path =
      let given = given_in evaluator overrides w in
      let of = from_flat (λ (b : Built). b.1.recipes) r analyzed.built (subst (In r) analyzed.all (is_in r recipes there)) in
      let told = contained of.0 analyzed.built of.1 in
      let h = analyzed.each of.0 told in
      let found = find_reached (reading_of given.syntax.enabled asts) analyzed.are_modules h.1 in
      let s = standing given asts paths loaded analyzed.built analyzed.compiled found.has in
      let key : found.m.heading.key ≡ of.0.0 = ap (λ (x : Heading). x.key) found.is.heading ∙ h.2 in
      let made : of.0.1 ≡ s.made = built_once analyzed.built analyzed.once of.0.0 of.0.1 s.made told (subst (λ k. Contains analyzed.built (k, s.made)) key s.said) in
      let top : s.top ≡ justfile = elim s.among [ inl same ↦ same | inr wrong ↦ absurd wrong ] in
      let added : In r s.made.recipes = subst (In r) (ap (λ (y : Made). y.recipes) made) of.2 in
      let from = s.compiled.linked.only r (contained r s.made.recipes added) in
      let one : s.it ≡ j = one_of_path recipes justfile s.it j analyzed.closed (rooted evaluator overrides w asts paths loaded justfile recipes overridden analyzed) (subst (λ (t : Justfile). StandsIn t s.it) top s.stands) stands
      (s.path ∙ some_same (sym from.1.made_of.resolved.module_path ∙ path)) in
      subst (λ (k : Justfile). HasNeeds w.answers k r) one (has_needs given asts loaded analyzed.built s.compiled r (contained r s.made.recipes added))

  -- so the root can run
  pub can_run : CanRun w.answers justfile recipes
  can_run = record {
    rooted = record { closed = analyzed.closed; placed = analyzed.placed };
    ordered = λ j stands.
        let given = given_in evaluator overrides w in
        let of = of_module given asts loaded analyzed.built analyzed.compiled justfile (inl refl) j stands in
        in_order given.syntax (contents_read given.syntax.enabled asts of.m.files) j of.compiled.variables;
    numbers = analyzed.numbers;
    needs = needs;
  }
