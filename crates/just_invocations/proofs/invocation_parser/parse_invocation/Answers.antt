use Rattle.std.proofs.lemmas.Option.{IfSome_then}
use Rattle.just_names.specs.Texts.{texts}
use Rattle.just_parts.specs.Evaluator.{count_fault_of}
use Rattle.just_tail.specs.Cause as tail
use Rattle.just_tail.specs.Words.{as_texts}
use Rattle.just_justfile.specs.Closed.{resolved_name}
use Rattle.just_invocations.specs.Cause.{cause_of, with_recipe}
use Rattle.just_invocations.specs.Split.{NoArguments}
use Rattle.just_invocations.proofs.SplitLemmas.{if_some_at, map_some, invokes_from, rejects_from}
use Rattle.just_invocations.proofs.invocation_parser.parse_invocation.Goals as goal

pub returns-in-Ok-take_tail-clause-ok : goal.returns-in-Ok-take_tail-clause-ok
returns-in-Ok-take_tail-clause-ok g c =
    invokes_from (count_fault_of (g.E.ConstantEvaluation.answers c.args.evaluation.now)) c.args.root.now c.args.recipes.now c.args.words.now c.in-Ok.found.1 c.in-Ok.found.0.now c.after.result.now c.after.ensures c.in-Ok.ensures.ok
    c.in-Ok-take_tail.tail.taken (as_texts c.in-Ok-take_tail.tail.groups.items) c.in-Ok-take_tail.ensures.ok

pub returns-in-Err-take_tail-clause-err : goal.returns-in-Err-take_tail-clause-err
returns-in-Err-take_tail-clause-err g c =
    let r = c.in-Ok.found.0.now in
    let why = tail.tail_cause_of c.in-Err-take_tail.e in
    IfSome_then (cause_of c.rejected.result) c.rejected.ensures.cause
    (λ cause p.
    let m = map_some (with_recipe (resolved_name r)) why cause p in
    rejects_from (count_fault_of (g.E.ConstantEvaluation.answers c.args.evaluation.now)) c.args.root.now c.args.recipes.now c.args.words.now c.in-Ok.found.1 r c.after.result.now c.after.ensures c.in-Ok.ensures.ok
    m.0 cause (if_some_at why m.0 (NoArguments (count_fault_of (g.E.ConstantEvaluation.answers c.args.evaluation.now)) r (texts c.after.result.now)) c.in-Err-take_tail.ensures.err m.1) m.2)
