use Rattle.std.proofs.Common.{◌≡◌, refl, ◌++◌, codes}
use Rattle.std.proofs.lemmas.Grind.{put_three}
use Rattle.just_names.specs.Texts.{joined}
use Rattle.just_errors.specs.Messages.{readings_text}
use Rattle.just_errors.proofs.Pieces.{three_parts}
use Rattle.just_errors.proofs.compile_error.write_readings.Goals as goal

pub returns : goal.returns
returns g c = λ plain ok.
    let one = c.in_ok-write.ensures.writes plain refl in
    let two = c.in_ok-write_names.ensures one.plain in
    let three = c.write_str.ensures.writes two.plain ok in
    let text : (codes "Variable `" ++ (c.args.variable.now ++ codes "` depends on its own value: `")) ++ (joined (codes " -> ") c.args.circle.now ++ codes "`") ≡ readings_text c.args.variable.now c.args.circle.now =
    three_parts (codes "Variable `") c.args.variable.now (codes "` depends on its own value: `") (joined (codes " -> ") c.args.circle.now) (codes "`") in
    put_three _ _ _ _ _ _ _ _ _ one two three text
