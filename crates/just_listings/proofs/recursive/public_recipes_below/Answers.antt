use Rattle.std.proofs.Common.{◌≡◌, ◌<◌, ◌≤◌, ◌+◌, ◌∙◌, List, [], ◌∷◌, ◌++◌, length, take, ap, refl, subst, sym}
use Rattle.std.proofs.lemmas.List.{map-append, take_all}
use Rattle.just_recipe.specs.declared.dependency.Dependency.{Dependency}
use Rattle.just_recipe.specs.declared.recipe.Recipe.{Recipe}
use Rattle.std.specs.Borrow.{Bor}
use Rattle.just_justfile.specs.declared.justfile.Justfile.{Justfile}
use Rattle.just_listings.specs.Joined.{AreHadInTurn}
use Rattle.just_listings.specs.Order.{referents}
use Rattle.just_listings.specs.Preorder.{AreInPreorder}
use Rattle.just_listings.specs.Public.{ArePublicRecipes}
use Rattle.just_listings.specs.declared.walk.Choice.{Choice}
use Rattle.just_listings.proofs.Listed.{behind_more, joined_more, joined_none}
use Rattle.just_listings.proofs.recursive.public_recipes_below.Goals as goal

pub loop-at-init : goal.loop-at-init
loop-at-init c = joined_none (ArePublicRecipes c.args.unsorted c.args.recipes.now) (referents (take 0 c.in_ok-modules.modules.items)) (referents c.new-found.result.items) refl (ap referents c.new-found.ensures.items)

pub loop-at-preserved : goal.loop-at-preserved
loop-at-preserved c =
    let has = ArePublicRecipes c.args.unsorted c.args.recipes.now in
    let items = c.in_ok-modules.modules.items in
    let within : c.loop-at.at < length items = subst (λ n. c.loop-at.at < n) (c.len-at-end.ensures ∙ c.in_ok-modules.modules.ok.0) c.loop-at-test.true in
    let on = joined_more has (referents (take c.loop-at.at items)) c.index.result.now.now (referents c.loop-at.found.items) (referents c.in_ok-own.own.items) c.loop-at.invariant c.in_ok-own.ensures in
    let found = ap referents c.in_ok-append.ensures.items ∙ map-append (λ (it : Bor (Recipe Dependency)). it.now) c.loop-at.found.items c.in_ok-own.own.items in
    subst (AreHadInTurn has (referents (take (c.loop-at.at + 1) items))) (sym found)
    (subst (λ (js : List Justfile). AreHadInTurn has js (referents c.loop-at.found.items ++ referents c.in_ok-own.own.items)) (sym (behind_more items c.loop-at.at c.index.result.now within c.index.ensures)) on)

pub returns : goal.returns
returns c =
    let has = ArePublicRecipes c.args.unsorted c.args.recipes.now in
    let items = c.in_ok-modules.modules.items in
    let through : length items ≤ c.loop-at.at = subst (λ n. n ≤ c.loop-at.at) (c.len-at-end.ensures ∙ c.in_ok-modules.modules.ok.0) c.loop-at-test.false in
    let walked : AreInPreorder c.public_choice.result (c.args.root.now ∷ []) (referents items) = c.in_ok-modules.ensures in
    record {
      modules = referents items;
      walked = subst (λ (w : Choice). AreInPreorder w (c.args.root.now ∷ []) (referents items)) c.public_choice.ensures walked;
      joined = subst (λ (ms : List (Bor Justfile)). AreHadInTurn has (referents ms) (referents c.loop-at.found.items)) (take_all c.loop-at.at items through) c.loop-at.invariant;
    }
