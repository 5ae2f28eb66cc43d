use Rattle.std.proofs.Common.{◌++◌, List, ◌∙◌, ap, rules}
use Rattle.std.proofs.lemmas.Result.{on_ok_weaker}
use Rattle.just_tasks.specs.declared.task.Task.{Task}
use Rattle.just_execution.proofs.Asked.{tasks-spread}
use Rattle.just_execution.proofs.arguments.push_tasks.Goals as goal

pub returns-in-Some : goal.returns-in-Some
returns-in-Some c =
    on_ok_weaker c.push_each.result
    (λ e. e ∙ ap (λ (own : List Task). c.args.tasks.now.items ++ own)
    (tasks-spread c.place_in-recipe.result c.args.recipes.now c.args.dependency.now c.args.groups c.take_texts-rest.result.0 c.in-Some.star c.as_slice.result.now
    c.place_in-recipe.ensures.is (search rules) c.take_texts-rest.ensures.rest (c.as_slice.ensures ∙ c.take_texts-rest.ensures.texts)))
    c.push_each.ensures
