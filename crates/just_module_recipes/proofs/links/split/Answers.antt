use Rattle.std.proofs.Common.{rules, ◌≡◌, ◌<◌, ◌∙◌, ◌++◌, ◌∷◌, List, [], ap, append-nil, arith, drop, length, sym}
use Rattle.std.proofs.lemmas.List.{nil_from_length}
use Rattle.std.specs.BTreeSet.{BTreeSet}
use Rattle.just_module_contents.proofs.RecipePlaces.{length-lent}
use Rattle.just_module_contents.specs.Definitions.{recipes_in}
use Rattle.just_module_recipes.specs.Making.{standing}
use Rattle.just_module_recipes.specs.loops.Making.{fallen}
use Rattle.just_module_recipes.proofs.Splits.{fallen_step, standing_step}
use Rattle.just_paths.specs.declared.modulepath.Modulepath.{Modulepath}
use Rattle.just_module_recipes.proofs.links.split.Goals as goal

pub lent_at-requires : goal.lent_at-requires
lent_at-requires c =
    let next : c.loop-set.set-iterator.rest.items ≡ c.in-Some.set ∷ c.next.new.self.rest.items = search rules in
    let long : length (recipes_in c.args.kept.now) ≡ length c.args.kept.now.recipes.items = length-lent c.args.kept.now.recipes.items in
    let many = ap (λ (xs : List (BTreeSet Modulepath)). length xs) next in
    let within : c.loop-set.place < length c.args.kept.now.recipes.items = omega (arith, c.loop-set.invariant.0, many, long) in
    within

pub overflow_add-place : goal.overflow_add-place
overflow_add-place c =
    let next : c.loop-set.set-iterator.rest.items ≡ c.in-Some.set ∷ c.next.new.self.rest.items = search rules in
    let long : length (recipes_in c.args.kept.now) ≡ length c.args.kept.now.recipes.items = length-lent c.args.kept.now.recipes.items in
    let many = ap (λ (xs : List (BTreeSet Modulepath)). length xs) next in
    let within : c.loop-set.place < length c.args.kept.now.recipes.items = omega (arith, c.loop-set.invariant.0, many, long) in
    omega (arith, within)

pub loop-set-preserved : goal.loop-set-preserved
loop-set-preserved c =
    let next : c.loop-set.set-iterator.rest.items ≡ c.in-Some.set ∷ c.next.new.self.rest.items = search rules in
    let rs = recipes_in c.args.kept.now in
    let many = ap (λ (xs : List (BTreeSet Modulepath)). length xs) next in (
      omega (arith, c.loop-set.invariant.0, many),
      standing_step c.next.new.self.rest.items c.loop-set.set-iterator.rest.items rs c.loop-set.place c.in-Some.set c.lent_at.result.now next c.lent_at.ensures (recipes_in c.loop-set.standing) (recipes_in c.enter.new.standing) (standing c.args.sets.items rs) c.loop-set.invariant.1 c.in_ok-enter.ensures.standing,
      fallen_step c.next.new.self.rest.items c.loop-set.set-iterator.rest.items rs c.loop-set.place c.in-Some.set c.lent_at.result.now next c.lent_at.ensures c.loop-set.disabled.items c.enter.new.disabled.items (fallen c.args.sets.items rs) c.loop-set.invariant.2 c.in_ok-enter.ensures.disabled,
    )

pub returns-clause-standing : goal.returns-clause-standing
returns-clause-standing c =
    let zero : length c.loop-set.set-iterator.rest.items ≡ 0 = search rules in
    let none : c.loop-set.set-iterator.rest.items ≡ [] = nil_from_length c.loop-set.set-iterator.rest.items zero in
    sym (append-nil (recipes_in c.loop-set.standing)) ∙ (ap (λ (xs : List (BTreeSet Modulepath)). recipes_in c.loop-set.standing ++ standing xs (drop c.loop-set.place (recipes_in c.args.kept.now))) (sym none) ∙ c.loop-set.invariant.1)

pub returns-clause-disabled : goal.returns-clause-disabled
returns-clause-disabled c =
    let zero : length c.loop-set.set-iterator.rest.items ≡ 0 = search rules in
    let none : c.loop-set.set-iterator.rest.items ≡ [] = nil_from_length c.loop-set.set-iterator.rest.items zero in
    sym (append-nil c.loop-set.disabled.items) ∙ (ap (λ (xs : List (BTreeSet Modulepath)). c.loop-set.disabled.items ++ fallen xs (drop c.loop-set.place (recipes_in c.args.kept.now))) (sym none) ∙ c.loop-set.invariant.2)
