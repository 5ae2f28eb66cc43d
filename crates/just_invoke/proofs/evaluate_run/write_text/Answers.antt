use Rattle.std.proofs.Common.{refl, rules}
use Rattle.just_invoke.specs.Evaluation.{whole}
use Rattle.just_invoke.proofs.evaluate_run.write_text.Goals as goal

pub returns-in-Ok : goal.returns-in-Ok
returns-in-Ok g c = whole _ refl (search rules) (search rules) (search rules)
