-- The rules of the arguments of dependencies.
use Rattle.std.proofs.Common.{◌≡◌, ℕ, ◌+◌, ◌<◌, ◌≤◌, Bool, true, false, List, [], length, take, get_or, None, Some, refl, sym, ◌∙◌, ap, subst, subst₂, arith, inl, inr}
use Rattle.std.specs.BTreeSet.{BTreeSet}
use Rattle.std.specs.List.{All}
use Rattle.std.proofs.lemmas.Bool.{cases_lt}
use Rattle.std.proofs.lemmas.List.Elements.{All-push}
use Rattle.just_ast_definitions.specs.Parameter.{least_arguments, most_arguments}
use Rattle.just_ast_definitions.specs.declared.parameter.Parameter.{Parameter}
use Rattle.just_errors.specs.Causes.{Broken, Cause, Keeps}
use Rattle.just_errors.specs.declared.compile_error.CompileErrorKind.TheVariants as kind
use Rattle.just_justfile.specs.declared.resolution.Resolution.TheVariants as resolution
use Rattle.just_module_contents.specs.Recipes.{name_of_recipe, names_of, recipe_at}
use Rattle.just_module_contents.specs.Rules.{IsOutside, StandsWith, argument_count, starred}
use Rattle.just_module_recipes.specs.Given.{Misgiven, of_count, of_star}
use Rattle.just_module_recipes.specs.Links.{Around, BreaksLinks, HasParameters, Stands, Takes, found_by, of_far, of_near}
use Rattle.just_module_recipes.specs.loops.Making.{AreGivenSets, IsGiven, IsThere, parameters_in, parameters_of}
use Rattle.just_module_recipes.specs.Rows.{keys_at}
use Rattle.just_module_recipes.specs.loops.Rows.{IsTarget}
use Rattle.just_module_recipes.specs.declared.targets.Target.{Target}
use Rattle.just_module_recipes.specs.declared.targets.Target.TheVariants.{Near, Far, Gone}
use Rattle.just_module_recipes.proofs.Finding.{near_only, nowhere}
use Rattle.just_module_recipes.proofs.Held.{held_some}
use Rattle.just_module_recipes.proofs.SameSets.{taken}
use Rattle.just_names.specs.Index.{AreDifferent}
use Rattle.just_names.specs.Token.{Place}
use Rattle.just_names.specs.declared.name.Namepath.{Namepath}
use Rattle.just_names.specs.declared.number.Number.{Number}
use Rattle.just_paths.specs.declared.modulepath.Modulepath.{Modulepath}
use Rattle.just_recipe.specs.Starred.{has_star}
use Rattle.just_recipe.specs.declared.dependency.UnresolvedDependency.{UnresolvedDependency}
use Rattle.just_recipe.specs.declared.recipe.Recipe.{Recipe}

-- what is told of arguments
module _ (lists : Bool) (d : UnresolvedDependency) (least most : ℕ) where
  pub star_told : (place : Place) → lists ≡ false → has_star d.arguments ≡ true → place ≡ d.recipe.last.token → Misgiven lists d least most (Broken place kind.MappedDependencyWithoutListsSetting)
  star_told place off on told = subst (λ (p : Place). Misgiven lists d least most (Broken p kind.MappedDependencyWithoutListsSetting)) (sym told) (of_star off on)

  pub count_told : (found : ℕ) (path : Namepath) (place : Place) → found ≡ length d.arguments → IsOutside found least most → path ≡ d.recipe → place ≡ d.recipe.last.token → Misgiven lists d least most (Broken place (kind.DependencyArgumentCountMismatch path found least most))
  count_told found path place given wrong copied told =
      subst (λ n. Misgiven lists d least most (Broken place (kind.DependencyArgumentCountMismatch path n least most))) (sym given)
      (subst₂ (λ (p : Place) (x : Namepath). Misgiven lists d least most (Broken p (kind.DependencyArgumentCountMismatch x (length d.arguments) least most))) (sym told) (sym copied) (of_count (subst (λ n. IsOutside n least most) given wrong)))

  pub rightly_given : (found : ℕ) → found ≡ length d.arguments → (lists ≡ false → has_star d.arguments ≡ true → ⊥) → (IsOutside found least most → ⊥) → Keeps (Misgiven lists d least most)
  rightly_given found given star right c (of_star off on) = star off on
  rightly_given found given star right c (of_count wrong) = right (subst (λ n. IsOutside n least most) (sym given) wrong)

module _ (lists : Bool) (rs : List (Recipe UnresolvedDependency)) (it : Around) (d : UnresolvedDependency) where
  -- what a target says of the parameters
  has_parameters : (t : Target) → IsTarget rs it d.recipe t → IsThere rs it.held t → HasParameters rs it d.recipe (parameters_of rs it.held t)
  has_parameters (Near j) n h = of_near j n refl
  has_parameters (Far n) f h = let x = held_some it.held n.0 h in of_far n x.0 f x.1 (ap parameters_in (sym x.1))
  has_parameters (Gone set) f h = absurd h

  -- and that there are no others
  only_parameters : AreDifferent (names_of rs) → (t : Target) → IsTarget rs it d.recipe t → IsThere rs it.held t → (ps : List Parameter) → HasParameters rs it d.recipe ps → ps ≡ parameters_of rs it.held t
  only_parameters different t k h ps (of_near j n e) = let same : t ≡ Near j = near_only rs it different d.recipe t j k n in sym e ∙ ap (parameters_of rs it.held) (sym same)
  only_parameters different t k h ps (of_far n r f g e) = let same = far_only t n k f in sym e ∙ (ap parameters_in (sym g) ∙ ap (parameters_of rs it.held) (sym same))
    where
      far_only : (t : Target) (n : Number) → IsTarget rs it d.recipe t → found_by it d.recipe ≡ Some (resolution.Resolved n) → t ≡ Far n
      far_only (Near j) n m e = let wrong : Some (resolution.Resolved n) ≡ None = sym e ∙ nowhere it d.recipe (name_of_recipe (recipe_at rs j)) m.named in absurd (cc)
      far_only (Far m) n f e = let both = sym f ∙ e in let same : m ≡ n = cc in ap Far same
      far_only (Gone set) n f e = let wrong = sym f ∙ e in absurd (cc)

  module _ (t : Target) (target : IsTarget rs it d.recipe t) (there : IsThere rs it.held t) where
    pub misgiven_told : StandsWith (Stands rs it) rs d → (least most : ℕ) → least ≡ least_arguments (parameters_of rs it.held t) → most ≡ most_arguments lists (parameters_of rs it.held t) → (c : Cause) → Misgiven lists d least most c → BreaksLinks lists rs it c
    misgiven_told s least most is_least is_most c (of_star off on) = starred s off on
    misgiven_told s least most is_least is_most c (of_count wrong) =
        let takes : Takes lists rs it d.recipe least most = record { parameters = parameters_of rs it.held t; has = has_parameters t target there; least_is = sym is_least; most_is = sym is_most } in
        argument_count s takes refl wrong

    -- where no rule of arguments is broken, there are no more than it takes
    pub fits_target : StandsWith (Stands rs it) rs d → Keeps (BreaksLinks lists rs it) → length d.arguments ≤ most_arguments lists (parameters_of rs it.held t)
    fits_target s kept =
        let takes : Takes lists rs it d.recipe (least_arguments (parameters_of rs it.held t)) (most_arguments lists (parameters_of rs it.held t)) = record { parameters = parameters_of rs it.held t; has = has_parameters t target there; least_is = refl; most_is = refl } in
        elim (cases_lt (most_arguments lists (parameters_of rs it.held t)) (length d.arguments)) [
          | inl wrong ↦ absurd (kept _ (argument_count s takes refl (inr wrong)))
          | inr few ↦ few
        ]

    pub is_given : AreDifferent (names_of rs) → (least most : ℕ) → least ≡ least_arguments (parameters_of rs it.held t) → most ≡ most_arguments lists (parameters_of rs it.held t) → Keeps (Misgiven lists d least most) → IsGiven lists rs it d
    is_given different least most is_least is_most kept = record {
      star = λ off on. kept _ (of_star off on);
      count = λ l m takes wrong.
          let same : takes.parameters ≡ parameters_of rs it.held t = only_parameters different t target there takes.parameters takes.has in
          let a : l ≡ least = sym takes.least_is ∙ (ap least_arguments same ∙ sym is_least) in
          let b : m ≡ most = sym takes.most_is ∙ (ap (most_arguments lists) same ∙ sym is_most) in
          kept _ (of_count (subst₂ (IsOutside (length d.arguments)) a b wrong));
    }

-- one recipe more
pub given_more : (lists : Bool) (rs : List (Recipe UnresolvedDependency)) (it : Around) (sets : List (BTreeSet Modulepath)) (n : ℕ) → AreGivenSets lists rs it sets n → (keys_at sets n ≡ [] → All (IsGiven lists rs it) (recipe_at rs n).dependencies) → AreGivenSets lists rs it sets (n + 1)
given_more lists rs it sets n old new i h e = elim (cases_lt i n) [
  | inl l ↦ old i l e
  | inr l ↦
      let same : n ≡ i = omega (arith, h, l) in
      subst (λ k. All (IsGiven lists rs it) (recipe_at rs k).dependencies) same (new (ap (keys_at sets) same ∙ e))
]

-- one dependency more
pub given_next : (lists : Bool) (rs : List (Recipe UnresolvedDependency)) (it : Around) (ds : List UnresolvedDependency) (at : ℕ) (d : UnresolvedDependency) → at < length ds → d ≡ get_or ds at d → All (IsGiven lists rs it) (take at ds) → IsGiven lists rs it d → All (IsGiven lists rs it) (take (at + 1) ds)
given_next lists rs it ds at d h read old new = subst (All (IsGiven lists rs it)) (sym (taken ds at d h read)) (All-push (IsGiven lists rs it) (take at ds) d old new)
