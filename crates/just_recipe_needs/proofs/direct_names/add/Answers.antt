use Rattle.std.proofs.Common.{◌∙◌}
use Rattle.just_names.specs.Name.{text_of_name}
use Rattle.just_recipe_needs.proofs.Noting.{gains_one}
use Rattle.just_recipe_needs.proofs.direct_names.add.Goals as goal

pub returns : goal.returns
returns c =
    gains_one c.args.names.now c.insert.new.self c.new.result (text_of_name c.args.name.now) (c.new.ensures ∙ c.lexeme.ensures) (λ q. c.in_ok-insert.ensures.updates.0 q)
