use Rattle.std.proofs.Common.{rules, ◌≡◌, [], ◌∷◌, ap, map}
use Rattle.just_parts.specs.Evaluator.{count_fault_of}
use Rattle.just_invocations.specs.Split.{invoked_of}
use Rattle.just_invocations.proofs.SplitLemmas.{split_of_none}
use Rattle.just_invocations.proofs.invocation_parser.parse_none.Goals as goal

pub returns-in_ok-push-in-Ok-clause-split : goal.returns-in_ok-push-in-Ok-clause-split
returns-in_ok-push-in-Ok-clause-split g c =
    let pushed : c.push.new.self.items ≡ c.in-Ok.invocation ∷ [] = search rules in
    split_of_none (count_fault_of (g.E.ConstantEvaluation.answers c.args.evaluation.now)) c.args.root.now c.args.recipes.now c.args.words.now c.in-Ok.field-0-1 (map invoked_of c.push.new.self.items) (invoked_of c.in-Ok.invocation)
    c.requires.none (ap (map invoked_of) pushed) c.in-Ok.ensures.ok
