use Rattle.std.proofs.Common.{rules, ◌≡◌, ◌∷◌, [], ◌++◌, arith, ap, length, map}
use Rattle.std.proofs.lemmas.List.{length-drop}
use Rattle.std.proofs.lemmas.Option.{IfSome_then}
use Rattle.just_parts.specs.Evaluator.{count_fault_of}
use Rattle.just_invocations.specs.Cause.{cause_of}
use Rattle.just_invocations.specs.Split.{invoked_of}
use Rattle.just_invocations.proofs.SplitLemmas.{chain_more, fault_after}
use Rattle.just_invocations.proofs.invocation_parser.parse_some.Goals as goal

pub loop-next-preserved : goal.loop-next-preserved
loop-next-preserved g c =
    let pushed : c.push.new.self.items ≡ c.loop-next.invocations.items ++ c.in-Ok.invocation ∷ [] = search rules in
    record {
      within = omega (arith, c.in-Ok.ensures.within, ap length c.after.ensures, length-drop c.loop-next.next c.args.words.now);
      chain = chain_more (count_fault_of (g.E.ConstantEvaluation.answers c.args.evaluation.now)) c.args.root.now c.args.recipes.now c.args.words.now c.loop-next.next c.in-Ok.taken c.loop-next.invocations.items c.push.new.self.items c.in-Ok.invocation
          c.after.result.now (omega arith) c.after.ensures pushed c.in-Ok.ensures.ok c.loop-next.invariant.chain;
    }

pub returns-in-Err-clause-fault : goal.returns-in-Err-clause-fault
returns-in-Err-clause-fault g c =
    IfSome_then (cause_of c.in-Err.e) c.in-Err.ensures.err
    (λ cause p. fault_after (count_fault_of (g.E.ConstantEvaluation.answers c.args.evaluation.now)) c.args.root.now c.args.recipes.now c.args.words.now c.loop-next.next (map invoked_of c.loop-next.invocations.items) c.after.result.now cause
    (omega arith) c.after.ensures c.loop-next.invariant.chain p)
