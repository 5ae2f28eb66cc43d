use Rattle.std.proofs.Common.{sym, ◌∙◌, ap}
use Rattle.just_tasks.specs.Pairs.{subsequent_dependencies}
use Rattle.just_tasks.specs.Scene.{running}
use Rattle.just_tasks.proofs.Lone.{none-after}
use Rattle.just_tasks.proofs.recipes.subsequents_in.Goals as goal

pub returns-then-scopes-clause-is : goal.returns-then-scopes-clause-is
returns-then-scopes-clause-is g c = sym (ap (λ b. subsequent_dependencies (running b c.args.recipes.now) c.args.place) c.if-scopes.true ∙ none-after c.args.recipes.now c.args.place)
