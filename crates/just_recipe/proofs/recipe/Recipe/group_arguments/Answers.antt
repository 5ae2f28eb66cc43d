use Rattle.std.proofs.Common.{◌≡◌, ◌∙◌, ap, drop, length}
use Rattle.just_recipe.specs.Grouping.{grouped, concatenated}
use Rattle.just_recipe.proofs.GroupLemmas.{all_grouped, count_grouped, whole_grouped}
use Rattle.just_recipe.proofs.recipe.Recipe.group_arguments.Goals as goal

pub returns-clause-count : goal.returns-clause-count
returns-clause-count g c =
    let is : c.from_vec.result ≡ grouped c.args.settings.now.lists c.args.self.now.parameters c.args.arguments.now =
    c.from_vec.ensures ∙ all_grouped c.args.settings.now.lists c.args.self.now.parameters c.as_slice-parameter-items.result.now c.args.arguments.now (drop c.loop-parameter.taken c.args.arguments.now) c.loop-parameter.groups.items c.loop-parameter.parameter-index
    c.as_slice-parameter-items.ensures c.loop-parameter-test.false c.loop-parameter.invariant.rest in
    ap length is ∙ count_grouped c.args.settings.now.lists c.args.self.now.parameters c.args.arguments.now

pub returns-clause-whole : goal.returns-clause-whole
returns-clause-whole g c = λ few.
    let is : c.from_vec.result ≡ grouped c.args.settings.now.lists c.args.self.now.parameters c.args.arguments.now =
    c.from_vec.ensures ∙ all_grouped c.args.settings.now.lists c.args.self.now.parameters c.as_slice-parameter-items.result.now c.args.arguments.now (drop c.loop-parameter.taken c.args.arguments.now) c.loop-parameter.groups.items c.loop-parameter.parameter-index
    c.as_slice-parameter-items.ensures c.loop-parameter-test.false c.loop-parameter.invariant.rest in
    ap concatenated is ∙ whole_grouped c.args.settings.now.lists c.args.self.now.parameters c.args.arguments.now few
