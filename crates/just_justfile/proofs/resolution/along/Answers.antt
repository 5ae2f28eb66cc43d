use Rattle.std.proofs.Common.{◌∙◌}
use Rattle.just_names.specs.Name.{text_of_name}
use Rattle.just_recipes.proofs.Places.{map-more}
use Rattle.just_justfile.proofs.resolution.along.Goals as goal

pub loop-name-preserved : goal.loop-name-preserved
loop-name-preserved c =
    map-more text_of_name c.loop-name.name-index c.args.names.now c.name-item.result c.loop-name.components.items c.push.new.self.items c.in_ok-from_str.field-0 c.loop-name-test.true c.name-item.is c.loop-name.invariant c.in_ok-push.ensures.items (c.in_ok-from_str.ensures ∙ c.lexeme.ensures)
