use Rattle.std.proofs.Common.{◌≡◌, ◌∙◌, List, ap, subst, subst₂, sym, rules}
use Rattle.std.specs.List.{All, Contains}
use Rattle.std.specs.Map.{values_of}
use Rattle.std.proofs.lemmas.List.{get_or_default}
use Rattle.std.proofs.lemmas.List.Elements.{Contains-get_or}
use Rattle.std.proofs.lemmas.Result.{IfErr-weaker}
use Rattle.just_errors.specs.Causes.{Keeps}
use Rattle.just_graph.proofs.Members.{In, contained, is_in}
use Rattle.just_graph.specs.Steps.{IsOnce}
use Rattle.just_module_contents.specs.Definitions.{recipes_in}
use Rattle.just_module_contents.specs.Kept.{kept_recipes}
use Rattle.just_module_contents.specs.Recipes.{names_of, no_recipe, recipe_at}
use Rattle.just_module_contents.specs.Resolved.{AreNew, HasPriors, unresolved_numbers}
use Rattle.just_module_contents.specs.Standing.{AreStanding}
use Rattle.just_module_contents.proofs.Keeping.{kept_all, kept_different, kept_in, kept_number, kept_once}
use Rattle.just_module_recipes.specs.Linked.{HasDisabled}
use Rattle.just_module_recipes.specs.Links.{BreaksLinks, Disables, Stands, around_recipes}
use Rattle.just_names.specs.Index.{AreDifferent}
use Rattle.just_recipe.specs.declared.dependency.UnresolvedDependency.{UnresolvedDependency}
use Rattle.just_recipe.specs.declared.recipe.Recipe.{Recipe}
use Rattle.just_recipe_resolution.specs.Basis.{AreRecipesCovered, Basis, IsRecipeCovered, basis_by, basis_of}
use Rattle.just_recipe_resolver.proofs.Along.{Added, OwnKept, Told, along}
use Rattle.just_recipe_resolver.proofs.recipe_resolver.RecipeResolver.resolve_recipes.Goals as goal

-- what covers recipes covers those that are kept
covers_kept : (basis other : Basis) → other ≡ basis → (all kept : List (Recipe UnresolvedDependency)) → kept ≡ kept_recipes all → AreRecipesCovered basis all → AreRecipesCovered other kept
covers_kept basis other same all kept is covered i h =
    let r = recipe_at kept i in
    let there : In r all = kept_in all r (subst (In r) is (is_in r kept (Contains-get_or kept i no_recipe h))) in
    let c = contained r all there in
    subst (λ (b : Basis). IsRecipeCovered b r) (sym same) (covers_one all r c covered)
  where
    covers_one : (all : List (Recipe UnresolvedDependency)) (r : Recipe UnresolvedDependency) → Contains all r → AreRecipesCovered basis all → IsRecipeCovered basis r
    covers_one all r c covered = subst (IsRecipeCovered basis) (get_or_default all c.0 no_recipe r c.1 ∙ c.2) (covered c.0 c.1)

pub resolve_kept-requires-clause-different : goal.resolve_kept-requires-clause-different
resolve_kept-requires-clause-different g c = subst (λ (rs : List (Recipe UnresolvedDependency)). AreDifferent (names_of rs)) (sym c.in_ok-kept.ensures) (kept_different (recipes_in c.in_ok-definitions.definitions))

pub resolve_kept-requires-clause-once : goal.resolve_kept-requires-clause-once
resolve_kept-requires-clause-once g c =
    let once = subst (λ (rs : List (Recipe UnresolvedDependency)). IsOnce (unresolved_numbers rs)) (sym c.in_ok-definitions.ensures) c.requires.once in
    subst (λ (rs : List (Recipe UnresolvedDependency)). IsOnce (unresolved_numbers rs)) (sym c.in_ok-kept.ensures) (kept_once (recipes_in c.in_ok-definitions.definitions) once)

pub resolve_kept-requires-clause-priors : goal.resolve_kept-requires-clause-priors
resolve_kept-requires-clause-priors g c =
    let priors = subst (λ (rs : List (Recipe UnresolvedDependency)). All HasPriors rs) (sym c.in_ok-definitions.ensures) c.requires.priors in
    subst (λ (rs : List (Recipe UnresolvedDependency)). All HasPriors rs) (sym c.in_ok-kept.ensures) (kept_all HasPriors (recipes_in c.in_ok-definitions.definitions) priors)

pub resolve_kept-requires-clause-apart : goal.resolve_kept-requires-clause-apart
resolve_kept-requires-clause-apart g c =
    let qs = recipes_in c.in_ok-definitions.definitions in
    let apart : AreNew c.args.recipes qs = subst (AreNew c.args.recipes) (sym c.in_ok-definitions.ensures) c.requires.apart in
    subst (λ (rs : List (Recipe UnresolvedDependency)). AreNew c.args.recipes rs) (sym c.in_ok-kept.ensures)
    (λ n a b. apart n a (contained n (unresolved_numbers qs) (kept_number qs n (is_in n (unresolved_numbers (kept_recipes qs)) b))))

pub resolve_kept-requires-clause-covered : goal.resolve_kept-requires-clause-covered
resolve_kept-requires-clause-covered g c =
    covers_kept (basis_by c.args.variable_resolver.now c.args.constants.now c.args.settings.now) (basis_of c.resolving_by-resolving.result) c.resolving_by-resolving.ensures.basis
    (values_of c.args.unresolved) (recipes_in c.in_ok-kept.kept) (c.in_ok-kept.ensures ∙ ap kept_recipes c.in_ok-definitions.ensures) c.requires.covered

pub returns-in_err-linked-clause-named : goal.returns-in_err-linked-clause-named
returns-in_err-linked-clause-named g c =
    let same = c.in_ok-kept.ensures ∙ ap kept_recipes c.in_ok-definitions.ensures in
    let it = around_recipes c.args.absent_modules.now c.args.modules.now c.args.recipes in
    let by = c.resolving_by-resolving.result in
    IfErr-weaker c.from_residual-in_err-linked.result (λ e. Told it e (g.S.Syntax.answers by.meanings.syntax.now) (g.E.ConstantEvaluation.answers by.among.evaluation.now) (basis_of by) (recipes_in c.in_ok-kept.kept)) _
    (λ e h. along (Told it e) (ap g.S.Syntax.answers c.resolving_by-resolving.ensures.syntax) (ap g.E.ConstantEvaluation.answers c.resolving_by-resolving.ensures.evaluation) c.resolving_by-resolving.ensures.basis same h) (search rules)

pub returns-clause-kept : goal.returns-clause-kept
returns-clause-kept g c =
    let same = c.in_ok-kept.ensures ∙ ap kept_recipes c.in_ok-definitions.ensures in
    let it = around_recipes c.args.absent_modules.now c.args.modules.now c.args.recipes in
    subst₂ (λ rs (b : Basis). Keeps (BreaksLinks b.settings.lists rs it)) same c.resolving_by-resolving.ensures.basis c.in_ok-linked.ensures.kept

pub returns-clause-own : goal.returns-clause-own
returns-clause-own g c =
    let same = c.in_ok-kept.ensures ∙ ap kept_recipes c.in_ok-definitions.ensures in
    let it = around_recipes c.args.absent_modules.now c.args.modules.now c.args.recipes in
    along (OwnKept it) (ap g.S.Syntax.answers c.resolving_by-resolving.ensures.syntax) (ap g.E.ConstantEvaluation.answers c.resolving_by-resolving.ensures.evaluation) c.resolving_by-resolving.ensures.basis same c.in_ok-linked.ensures.own

pub returns-clause-resolved : goal.returns-clause-resolved
returns-clause-resolved g c =
    let same = c.in_ok-kept.ensures ∙ ap kept_recipes c.in_ok-definitions.ensures in
    let it = around_recipes c.args.absent_modules.now c.args.modules.now c.args.recipes in
    let linked = c.in_ok-linked.linked in
    record {
      standing = recipes_in linked.standing;
      stand = subst (λ rs. AreStanding (Stands rs it) rs (recipes_in linked.standing)) same c.in_ok-linked.ensures.standing;
      keys_are = c.in_ok-keys.ensures;
      disabled_are = subst (λ rs. HasDisabled (Disables rs it) rs linked.disabled) same c.in_ok-linked.ensures.disabled;
      linked = along (Added it c.args.module_path.now linked.all) (ap g.S.Syntax.answers c.resolving_by-resolving.ensures.syntax) (ap g.E.ConstantEvaluation.answers c.resolving_by-resolving.ensures.evaluation) c.resolving_by-resolving.ensures.basis same c.in_ok-linked.ensures.linked;
    }
