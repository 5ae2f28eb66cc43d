use Rattle.std.proofs.Common.{◌≡◌, ◌∙◌, ◌++◌, ap, length, sym, arith}
use Rattle.std.proofs.lemmas.Grind.{common_steps}
use Rattle.std.proofs.lemmas.List.{take_all}
use Rattle.just_module_contents.specs.Contents.{texts_of_named}
use Rattle.just_module_contents.specs.Definitions.{recipes_in}
use Rattle.just_module_contents.specs.Recipes.{names_of}
use Rattle.just_module_contents.proofs.Defining.{texts_all}
use Rattle.just_module_contents.proofs.RecipePlaces.{length-lent}
use Rattle.just_module_bodies.proofs.bodies.defined_names.Goals as goal

pub returns : goal.returns
returns c =
    let rs = recipes_in c.args.definitions.now in
    let ns = c.args.definitions.now.named.items in
    let long : length rs ≡ length c.args.definitions.now.recipes.items = length-lent c.args.definitions.now.recipes.items in
    let count : c.len-place-end.result ≡ length c.args.definitions.now.recipes.items = grind (arith, common_steps) in
    c.loop-place.invariant ∙ ap (λ qs. texts_of_named ns ++ names_of qs) (take_all c.loop-place.place rs (omega arith)) ∙ sym (texts_all ns rs)
