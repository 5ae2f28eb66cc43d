use Rattle.std.proofs.Common.{◌≡◌, ◌++◌, drop, map}
use Rattle.just_script_body.specs.Executors.{cooked_text}
use Rattle.just_script_body.proofs.executor.cooked_texts.Given as goal

abbrev pub invariant-loop-literal : goal.invariant-loop-literal
invariant-loop-literal l = map cooked_text l.literals ≡ l.texts ++ map cooked_text (drop l.literal-index l.literals)
