use Rattle.std.proofs.Common.{◌≡◌, ◌∙◌, ℕ, ◌+◌, ◌<◌, List, [], ◌∷◌, ◌++◌, ap, arith, get_or, inl, inr, length, subst, subst₂, sym}
use Rattle.std.proofs.lemmas.Bool.{cases_lt}
use Rattle.std.proofs.lemmas.Grind.{common_steps}
use Rattle.std.proofs.lemmas.List.{get_or_append_left, length-append}
use Rattle.std.proofs.Math.Seq.{get_or-append_seam}
use Rattle.just_module_contents.proofs.RecipePlaces.{length-lent}
use Rattle.just_module_contents.specs.Definitions.{recipes_in}
use Rattle.just_module_contents.specs.Recipes.{recipe_at}
use Rattle.just_name_resolution.specs.Lent.{tables_in}
use Rattle.just_name_resolution.specs.declared.needs.Tables.{Tables}
use Rattle.just_names.specs.declared.number.Number.{Number}
use Rattle.just_parts.specs.Needs.{has_number}
use Rattle.just_recipe.specs.declared.dependency.UnresolvedDependency.{UnresolvedDependency}
use Rattle.just_recipe.specs.declared.recipe.Recipe.{Recipe}
use Rattle.just_recipe_needs.specs.Needed.{NeedsUnder}
use Rattle.just_recipe_needs.specs.declared.collection.Sources.{Sources}
use Rattle.just_recipe_needs.proofs.references.references_of_all.Goals as goal

-- one more list of numbers
one_more : (Needs : Recipe UnresolvedDependency → List Number → Type 0) (rs : List (Recipe UnresolvedDependency)) (old new : List (List Number)) (numbers : List Number) (place : ℕ) → length old ≡ place → new ≡ old ++ numbers ∷ [] → Needs (recipe_at rs place) numbers
    → ((k : ℕ) → k < place → Needs (recipe_at rs k) (get_or old k [])) → (k : ℕ) → k < place + 1 → Needs (recipe_at rs k) (get_or new k [])
one_more Needs rs old new numbers place many is here each k h = elim (cases_lt k place) [
  | inl l ↦ subst (Needs (recipe_at rs k)) (sym (ap (λ xs. get_or xs k []) is ∙ get_or_append_left old (numbers ∷ []) [] k (omega (arith, l, many)))) (each k l)
  | inr l ↦
      let at : place ≡ k = omega (arith, h, l) in
      let read : get_or new k [] ≡ numbers = (λ i. get_or (is i) ((sym at ∙ sym many) i) []) ∙ get_or-append_seam old numbers [] [] in
      subst₂ (λ x ns. Needs (recipe_at rs x) ns) at (sym read) here
]

pub loop-place-init : goal.loop-place-init
loop-place-init g c = (c.new-references.ensures.right, c.new-references.ensures.tables, ap (λ b. b.now) c.new-references.ensures.overrides, ap (λ (xs : List (List Number)). length xs) c.in_ok-made.ensures.items, λ k h. absurd (omega (arith, h)))

pub references_of-requires : goal.references_of-requires
references_of-requires g c = c.loop-place.invariant.0

pub loop-place-preserved : goal.loop-place-preserved
loop-place-preserved g c =
    let same = c.in_ok-references_of.ensures.sources in
    let answers = g.S.Syntax.answers c.args.syntax.now in
    let settings = c.args.settings.now in
    let needs = NeedsUnder (tables_in c.args.tables) (has_number c.args.overrides.now) answers settings in
    let rs = recipes_in c.args.recipes.now in
    let here : needs (recipe_at rs c.loop-place.place) c.in_ok-references_of.field-0 =
    subst (λ (r : Recipe UnresolvedDependency). needs r c.in_ok-references_of.field-0) c.recipe_at-recipe.ensures.there
    (subst₂ (λ (t : Tables) o. NeedsUnder (tables_in t) (has_number o) answers settings c.recipe_at-recipe.result.now c.in_ok-references_of.field-0) c.loop-place.invariant.1 c.loop-place.invariant.2 c.in_ok-references_of.ensures.needed) in (
      c.in_ok-references_of.ensures.right,
      ap (λ (s : Sources). s.tables) same ∙ c.loop-place.invariant.1,
      ap (λ (s : Sources). s.overrides.now) same ∙ c.loop-place.invariant.2,
      ap (λ (xs : List (List Number)). length xs) c.in_ok-push.ensures.items ∙ (length-append c.loop-place.made.items (c.in_ok-references_of.field-0 ∷ []) ∙ omega (arith, c.loop-place.invariant.3)),
      one_more needs rs c.loop-place.made.items c.push.new.self.items c.in_ok-references_of.field-0 c.loop-place.place c.loop-place.invariant.3 c.in_ok-push.ensures.items here c.loop-place.invariant.4,
    )

pub returns : goal.returns
returns g c =
    let long : length (recipes_in c.args.recipes.now) ≡ length c.args.recipes.now.recipes.items = length-lent c.args.recipes.now.recipes.items in
    let count : c.len-place-end.result ≡ length c.args.recipes.now.recipes.items = grind (arith, common_steps) in
    record {
      count = omega (arith, c.loop-place.invariant.3, long, count, c.loop-place-test.false, c.loop-place.auto.place-end);
      each = λ i h. c.loop-place.invariant.4 i (omega (arith, h, long, count, c.loop-place-test.false));
    }
