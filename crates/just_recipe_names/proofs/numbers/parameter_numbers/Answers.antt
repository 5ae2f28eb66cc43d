use Rattle.std.specs.HashMap.{get}
use Rattle.std.specs.Str.{bytes_eq}
use Rattle.just_recipe_names.proofs.Seen.{seen_more}
use Rattle.just_recipe_names.proofs.numbers.parameter_numbers.Goals as goal

pub loop-parameter-preserved : goal.loop-parameter-preserved
loop-parameter-preserved c =
    seen_more c.args.parameters.now c.loop-parameter.parameter-index c.parameter-item.result c.loop-parameter-test.true c.parameter-item.is
    (get bytes_eq c.loop-parameter.numbers) (get bytes_eq c.see.new.numbers) c.loop-parameter.invariant c.in_ok-see.ensures
