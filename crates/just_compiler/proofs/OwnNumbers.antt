-- The numbers of a module's own recipes among those of all.
use Rattle.std.proofs.Common.{◌≡◌, ◌∙◌, ℕ, zero, suc, ◌<◌, ◌==◌, Bool, true, false, cond, List, [], ◌∷◌, length, Option, None, Some, refl, sym, ap, subst, inl, inr, arith}
use Rattle.std.specs.List.{Contains}
use Rattle.std.proofs.lemmas.Bool.{eqb-true}
use Rattle.std.proofs.lemmas.List.Elements.{Contains-get_or}
use Rattle.just_compiled.proofs.Settling.{place_in}
use Rattle.just_module_contents.proofs.StandingOnes.{standing_in, stays}
use Rattle.just_errors.specs.Causes.{Keeps}
use Rattle.just_graph.proofs.Members.{In, contained, from_map, in_cases, in_map, is_in}
use Rattle.just_module_contents.specs.Constants.{Evaluated}
use Rattle.just_module_contents.specs.Contents.{Contents}
use Rattle.just_module_contents.specs.Defaults.{BreaksDefaults, IsDefaultAmong, IsDefaultBy, IsDefaultOf}
use Rattle.just_module_contents.specs.Recipes.{name_of_recipe, no_recipe, recipe_at}
use Rattle.just_module_contents.specs.Resolved.{AreNew, number_at, unresolved_numbers}
use Rattle.just_module_contents.specs.Kept.{kept_recipes}
use Rattle.just_module_contents.specs.Rules.{BreaksAliasTargets, BreaksBodies}
use Rattle.just_module_contents.specs.Standing.{AreStanding, falls, none, stands}
use Rattle.just_module_recipes.specs.loops.Broken.{BreaksRecipes}
use Rattle.just_module_recipes.proofs.Grounds.{recipes_kept}
use Rattle.just_module_recipes.specs.Completing.{Completion}
use Rattle.just_module_recipes.specs.Linked.{AddsLinked}
use Rattle.just_module_recipes.specs.Links.{Around, BreaksAliases, BreaksLinks, BreaksStanding, HasTarget, Stands, of_defaults, of_targets}
use Rattle.just_module_recipes.specs.loops.Links.{links_by}
use Rattle.just_names.specs.declared.number.Number.{Number}
use Rattle.just_parts.specs.Layers.{Layers}
use Rattle.just_paths.specs.declared.modulepath.Modulepath.{Modulepath}
use Rattle.just_recipe.specs.Recipes.{find_number, numbers}
use Rattle.just_recipe.specs.declared.dependency.Dependency.{Dependency}
use Rattle.just_recipe.specs.declared.dependency.UnresolvedDependency.{UnresolvedDependency}
use Rattle.just_recipe.specs.declared.recipe.Recipe.{Recipe}

-- recipes have one list of those that stand
pub one_standing : {P : List ℕ → Type 0} {rs xs ys : List (Recipe UnresolvedDependency)} → AreStanding P rs xs → AreStanding P rs ys → xs ≡ ys
one_standing a b = go a b refl
  where
    go : {P : List ℕ → Type 0} {rs qs xs ys : List (Recipe UnresolvedDependency)} → AreStanding P rs xs → AreStanding P qs ys → rs ≡ qs → xs ≡ ys
    go none none e = refl
    go none (stands is all) e = cc
    go none (falls is all) e = cc
    go (stands is all) none e = cc
    go {P} (stands {r} {rs} is all) (stands {r = q} {rs = qs} other more) e =
        let head : r ≡ q = cc in
        let rest : rs ≡ qs = cc in
        λ i. head i ∷ go all more rest i
    go {P} (stands {r} is all) (falls {r = q} isnt more) e = let head : r ≡ q = cc in absurd (isnt (subst (λ (x : Recipe UnresolvedDependency). P (name_of_recipe x)) head is))
    go (falls is all) none e = cc
    go {P} (falls {r} isnt all) (stands {r = q} is more) e = let head : r ≡ q = cc in absurd (isnt (subst (λ (x : Recipe UnresolvedDependency). P (name_of_recipe x)) (sym head) is))
    go (falls {rs} isnt all) (falls {rs = qs} other more) e = let rest : rs ≡ qs = cc in go all more rest

-- what is kept of aliases and defaults
aliases_kept : (m : Contents) (standing : List (Recipe UnresolvedDependency)) (it : Around) → AreStanding (Stands (kept_recipes m.recipes) it) (kept_recipes m.recipes) standing
    → Keeps (BreaksDefaults standing) → Keeps (BreaksAliasTargets (HasTarget (kept_recipes m.recipes) it) m.aliases) → Keeps (BreaksAliases (kept_recipes m.recipes) m.aliases it)
aliases_kept m standing it stand defaults targets c (of_targets k) = targets c k
aliases_kept m standing it stand defaults targets c (of_defaults other is k) = defaults c (subst (λ (rs : List (Recipe UnresolvedDependency)). BreaksDefaults rs c) (one_standing is stand) k)

-- what is kept of the recipes of a module
pub all_recipes_kept : (layers : Layers) (e : Evaluated) (m : Contents) (standing : List (Recipe UnresolvedDependency)) (it : Around) → Keeps (BreaksBodies layers.syntax e.settings m) → Keeps (BreaksLinks e.settings.lists (kept_recipes m.recipes) it)
    → AreStanding (Stands (kept_recipes m.recipes) it) (kept_recipes m.recipes) standing → Keeps (BreaksStanding layers e m it) → Keeps (BreaksDefaults standing)
    → Keeps (BreaksAliasTargets (HasTarget (kept_recipes m.recipes) it) m.aliases) → Keeps (BreaksRecipes layers e (links_by m it) (links_by m it) m)
all_recipes_kept layers e m standing it bodies dependencies stand own defaults targets =
    recipes_kept layers e (links_by m it) m bodies dependencies own (aliases_kept m standing it stand defaults targets)

-- a default of numbers is one of others that agree on the own recipes
module _ (ns ms : List ℕ) (own : List (Recipe UnresolvedDependency)) (into : (k : ℕ) → k < length own → Contains ns (number_at own k) → Contains ms (number_at own k)) (back : (k : ℕ) → k < length own → Contains ms (number_at own k) → Contains ns (number_at own k)) where
  default_alike : (default : Option Number) → IsDefaultOf ns own default → IsDefaultOf ms own default
  default_alike None d = λ k h c. d k h (back k h c)
  default_alike (Some number) (place, is, at) = (place, record { there = is.there; is_resolved = into place is.there is.is_resolved; least = λ k h c. is.least k h (back k h c) }, at)

number_of : (rs : List (Recipe UnresolvedDependency)) (k : ℕ) → k < length rs → In (number_at rs k) (unresolved_numbers rs)
number_of [] k h = absurd (omega (arith, h))
number_of (r ∷ rs) zero h = inl refl
number_of (r ∷ rs) (suc k) h = inr (number_of rs k (omega (arith, h)))

-- the number by which a recipe is found is one of them
found_or : (rs : List (Recipe Dependency)) (n : ℕ) (r x : Recipe Dependency) → (find_number rs n ≡ Some r → In n (numbers rs)) → (b : Bool) → (x.number.0 == n) ≡ b → cond b (Some x) (find_number rs n) ≡ Some r → In n (numbers (x ∷ rs))
found_or rs n r x ih true at f = inl (sym (eqb-true x.number.0 n at))
found_or rs n r x ih false at f = inr (ih f)

found_number : (rs : List (Recipe Dependency)) (n : ℕ) (r : Recipe Dependency) → find_number rs n ≡ Some r → In n (numbers rs)
found_number [] n r e = cc
found_number (x ∷ rs) n r e = found_or rs n r x (found_number rs n r) (x.number.0 == n) refl e

-- the own recipes are resolved where they stand
module _ (completed : Completion) (named : (r : Recipe UnresolvedDependency) → (completed.by r).number ≡ r.number) (lists : Bool) (recipes standing : List (Recipe UnresolvedDependency)) (it : Around) (path : Modulepath) (all : List (Recipe Dependency)) (own : List (Recipe UnresolvedDependency)) (default : Option Number)
    (stand : AreStanding (Stands recipes it) recipes standing) (linked : AddsLinked completed lists recipes it path all) (apart : AreNew it.held own) where
  standing_of : (n : ℕ) → (i : ℕ) → i < length recipes → Stands recipes it (name_of_recipe (recipe_at recipes i)) → n ≡ (recipe_at recipes i).number.0 → In n (unresolved_numbers standing)
  standing_of n i h is e = subst (λ x. In x (unresolved_numbers standing)) (sym e) (in_map (λ (x : Recipe UnresolvedDependency). x.number.0) (recipe_at recipes i) standing (stays stand (recipe_at recipes i) (is_in (recipe_at recipes i) recipes (Contains-get_or recipes i no_recipe h)) is))

  into : (k : ℕ) → k < length own → Contains (numbers all) (number_at own k) → Contains (unresolved_numbers standing) (number_at own k)
  into k h c =
      let n = number_at own k in
      let r = from_map (λ (x : Recipe Dependency). x.number.0) n all (is_in n (numbers all) c) in
      elim (in_cases r.0 it.held linked.added (subst (In r.0) linked.appended r.1)) [
        | inl old ↦ absurd (apart n (contained n (numbers it.held) (subst (λ x. In x (numbers it.held)) (sym r.2) (in_map (λ (x : Recipe Dependency). x.number.0) r.0 it.held old))) (contained n (unresolved_numbers own) (number_of own k h)))
        | inr new ↦
            let at = linked.linked.only r.0 (contained r.0 linked.added new) in
            contained n (unresolved_numbers standing) (standing_of n at.0 at.1.there at.1.stands (r.2 ∙ ap (λ (x : Number). x.0) (at.1.made_of.resolved.number ∙ named (recipe_at recipes at.0))))
      ]

  back : (k : ℕ) → k < length own → Contains (unresolved_numbers standing) (number_at own k) → Contains (numbers all) (number_at own k)
  back k h c =
      let n = number_at own k in
      let r = from_map (λ (x : Recipe UnresolvedDependency). x.number.0) n standing (is_in n (unresolved_numbers standing) c) in
      let s = standing_in stand r.0 r.1 in
      let i = place_in recipes r.0 s.0 in
      let made = linked.linked.each i.0 i.1 (subst (λ (x : Recipe UnresolvedDependency). Stands recipes it (name_of_recipe x)) (sym i.2) s.1) in
      contained n (numbers all) (subst (λ x. In x (numbers all)) (i.3 ∙ sym r.2) (found_number all (number_at recipes i.0) made.0 made.1))

  -- the default of those that are resolved is one among those that stand
  pub default_standing : IsDefaultBy standing (numbers all) own default → IsDefaultAmong standing own default
  default_standing d = record { marked = d.marked; unmarked = λ none. default_alike (numbers all) (unresolved_numbers standing) own into back default (d.unmarked none) }
