use Rattle.std.proofs.Common.{◌≡◌, ◌∙◌, ◌≤◌, true, List, map, length, sym, ap, subst, rules}
use Rattle.std.specs.Prelude.{IsErrAnd}
use Rattle.std.proofs.lemmas.List.{length-map}
use Rattle.just_parts.specs.Evaluator.{count_fault_of}
use Rattle.just_names.specs.Texts.{texts}
use Rattle.just_justfile.specs.Closed.{is_ordered}
use Rattle.just_run_layers.specs.Interactions.{log_of}
use Rattle.just_scopes.specs.Opening.{setup_of}
use Rattle.just_invoke.specs.Results.{RunEndsAs}
use Rattle.just_invoke.specs.Outcome.{tops}
use Rattle.just_invoke.specs.loops.Outcome.{tops_of}
use Rattle.just_invocations.specs.declared.invocation.Invocation.{Invocation}
use Rattle.just_invocations.specs.Split.{invoked_of}
use Rattle.just_invoke.proofs.Outcomes.{many-not, many-outcome, unread-outcome, unread-so, went, went-expected}
use Rattle.just_invoke.proofs.run.run_words.Goals as goal

pub parse_invocations-requires : goal.parse_invocations-requires
parse_invocations-requires g c = is_ordered c.requires.can_run.rooted.closed

pub returns-in_err-invocations-clause-outcome : goal.returns-in_err-invocations-clause-outcome
returns-in_err-invocations-clause-outcome g c =
    unread-outcome (count_fault_of (g.E.ConstantEvaluation.answers c.args.evaluation.now)) c.args.root.now c.args.recipes.now (texts c.args.words.now) c.args.config.now (setup_of (g.S.Syntax.answers c.args.syntax.now) c.args.config.now c.args.overrides.now) c.in_err-invocations.field-0.0 c.in_err-invocations.ensures.words c.in_err-invocations.ensures.fault c.from_residual.result (search rules)
    (g.E.Evaluation.promised c.args.evaluation.now) (g.H.Host.promised c.args.host.now) _

pub returns-in_err-invocations-clause-expected : goal.returns-in_err-invocations-clause-expected
returns-in_err-invocations-clause-expected g c =
    let p = g.E.Evaluation.promised c.args.evaluation.now in
    let q = g.H.Host.promised c.args.host.now in
    unread-so (count_fault_of (g.E.ConstantEvaluation.answers c.args.evaluation.now)) c.args.root.now c.args.recipes.now (texts c.args.words.now) c.args.config.now (setup_of (g.S.Syntax.answers c.args.syntax.now) c.args.config.now c.args.overrides.now) c.in_err-invocations.field-0.0 c.in_err-invocations.ensures.words c.in_err-invocations.ensures.fault c.from_residual.result (search rules) p q _

pub returns-in_err-allow_few-clause-outcome : goal.returns-in_err-allow_few-clause-outcome
returns-in_err-allow_few-clause-outcome g c =
    let items = c.in_ok-invocations.invocations.items in
    let is : IsErrAnd c.from_residual-in_err-allow_few.result (λ y. y ≡ c.in_err-allow_few.field-0.0) = search rules in
    let count : length c.as_slice.result.now ≡ length (map invoked_of items) = ap length c.as_slice.ensures.value ∙ sym (length-map items invoked_of) in
    many-outcome (count_fault_of (g.E.ConstantEvaluation.answers c.args.evaluation.now)) c.args.root.now c.args.recipes.now (texts c.args.words.now) c.args.config.now (setup_of (g.S.Syntax.answers c.args.syntax.now) c.args.config.now c.args.overrides.now)
    (map invoked_of items) c.in_ok-invocations.ensures.split (length c.as_slice.result.now) count c.in_err-allow_few.field-0.0 c.in_err-allow_few.ensures.many c.from_residual-in_err-allow_few.result is
    (g.E.Evaluation.promised c.args.evaluation.now) (g.H.Host.promised c.args.host.now) _

pub returns-in_err-allow_few-clause-expected : goal.returns-in_err-allow_few-clause-expected
returns-in_err-allow_few-clause-expected g c = λ others may.
    let items = c.in_ok-invocations.invocations.items in
    let count : length c.as_slice.result.now ≡ length (map invoked_of items) = ap length c.as_slice.ensures.value ∙ sym (length-map items invoked_of) in
    absurd (many-not (count_fault_of (g.E.ConstantEvaluation.answers c.args.evaluation.now)) c.args.root.now c.args.recipes.now (texts c.args.words.now) c.args.config.now (setup_of (g.S.Syntax.answers c.args.syntax.now) c.args.config.now c.args.overrides.now)
    (map invoked_of items) c.in_ok-invocations.ensures.split (length c.as_slice.result.now) count c.in_err-allow_few.field-0.0 c.in_err-allow_few.ensures.many others may)

pub returns-clause-outcome : goal.returns-clause-outcome
returns-clause-outcome g c =
    let promised = g.E.Evaluation.promised c.args.evaluation.now in
    let answers = g.H.Host.promised c.args.host.now in
    let counts = count_fault_of (g.E.ConstantEvaluation.answers c.args.evaluation.now) in
    let setup = setup_of (g.S.Syntax.answers c.args.syntax.now) c.args.config.now c.args.overrides.now in
    let root = c.args.root.now in
    let recipes = c.args.recipes.now in
    let items = c.in_ok-invocations.invocations.items in
    let invoked = map invoked_of items in
    let old = log_of (g.H.Host.entries c.args.host.now) (g.E.Evaluation.requests c.args.evaluation.now) in
    let new = log_of (g.H.Host.entries c.run_invocations.new.host) (g.E.Evaluation.requests c.run_invocations.new.evaluation) in
    let count : length c.as_slice.result.now ≡ length invoked = ap length c.as_slice.ensures.value ∙ sym (length-map items invoked_of) in
    let few : c.args.config.now.one ≡ true → length invoked ≤ 1 = λ one. subst (λ n. n ≤ 1) count (c.in_ok-allow_few.ensures.few one) in
    let goes : RunEndsAs promised answers setup root recipes (tops recipes invoked) old new c.run_invocations.result =
    subst (λ (is : List Invocation). RunEndsAs promised answers setup root recipes (tops_of recipes is) old new c.run_invocations.result) c.as_slice-2.ensures.value c.run_invocations.ensures.comes in
    went counts root recipes (texts c.args.words.now) c.args.config.now setup promised answers invoked c.in_ok-invocations.ensures.split few old new c.run_invocations.result goes

pub returns-clause-expected : goal.returns-clause-expected
returns-clause-expected g c =
    let promised = g.E.Evaluation.promised c.args.evaluation.now in
    let answers = g.H.Host.promised c.args.host.now in
    let counts = count_fault_of (g.E.ConstantEvaluation.answers c.args.evaluation.now) in
    let setup = setup_of (g.S.Syntax.answers c.args.syntax.now) c.args.config.now c.args.overrides.now in
    let root = c.args.root.now in
    let recipes = c.args.recipes.now in
    let items = c.in_ok-invocations.invocations.items in
    let invoked = map invoked_of items in
    let old = log_of (g.H.Host.entries c.args.host.now) (g.E.Evaluation.requests c.args.evaluation.now) in
    let new = log_of (g.H.Host.entries c.run_invocations.new.host) (g.E.Evaluation.requests c.run_invocations.new.evaluation) in
    let count : length c.as_slice.result.now ≡ length invoked = ap length c.as_slice.ensures.value ∙ sym (length-map items invoked_of) in
    let few : c.args.config.now.one ≡ true → length invoked ≤ 1 = λ one. subst (λ n. n ≤ 1) count (c.in_ok-allow_few.ensures.few one) in
    let goes : RunEndsAs promised answers setup root recipes (tops recipes invoked) old new c.run_invocations.result =
    subst (λ (is : List Invocation). RunEndsAs promised answers setup root recipes (tops_of recipes is) old new c.run_invocations.result) c.as_slice-2.ensures.value c.run_invocations.ensures.comes in
    went-expected counts root recipes (texts c.args.words.now) c.args.config.now setup promised answers invoked c.in_ok-invocations.ensures.split few old new c.run_invocations.result goes
