use Rattle.std.proofs.Common.{◌≡◌, ◌∙◌, ap, sym, subst}
use Rattle.std.specs.Option.{option_copied}
use Rattle.just_parts.specs.declared.layers.config.Subcommand.TheVariants.{Command, Evaluate}
use Rattle.just_run_layers.specs.Interactions.{log_of}
use Rattle.just_scopes.specs.Opening.{handed_of}
use Rattle.just_invoke.specs.Command.{IsProgramRun, IsProgramRunAsExpected}
use Rattle.just_invoke.specs.loops.Command.{program_asked}
use Rattle.just_invoke.specs.Evaluation.{IsEvaluation, runs_recipes, writer_of}
use Rattle.just_invoke.proofs.run.JustfileRun.run.Goals as goal

pub returns-in-Evaluate-clause-evaluated : goal.returns-in-Evaluate-clause-evaluated
returns-in-Evaluate-clause-evaluated g c = λ format path asks.
    let comes = IsEvaluation g.E.Evaluation.displayed c.args.self.now (handed_of c.args.config.now c.args.overrides.now) (g.E.Evaluation.promised c.args.evaluation.now) (g.H.Host.promised c.args.host.now) in
    let old = log_of (g.H.Host.entries c.args.host.now) (g.E.Evaluation.requests c.args.evaluation.now) in
    let new = log_of (g.H.Host.entries c.run_evaluate.new.host) (g.E.Evaluation.requests c.run_evaluate.new.evaluation) in
    let before = writer_of (g.W.Output.written c.args.writer.now) (g.W.Output.failed c.args.writer.now) in
    let after = writer_of (g.W.Output.written c.run_evaluate.new.writer) (g.W.Output.failed c.run_evaluate.new.writer) in
    let both : Evaluate c.in-Evaluate.format c.in-Evaluate.path ≡ Evaluate format path = sym c.in-Evaluate.is ∙ asks in
    let formats : c.in-Evaluate.format ≡ format = cc in
    let paths : c.in-Evaluate.path ≡ path = cc in
    subst (λ p. comes format p old new before after c.run_evaluate.result) (c.as_ref.ensures.value ∙ paths)
    (subst (λ f. comes f (option_copied c.as_ref.result) old new before after c.run_evaluate.result) formats c.run_evaluate.ensures.outcome)

pub returns-in-Command-clause-commanded : goal.returns-in-Command-clause-commanded
returns-in-Command-clause-commanded g c = λ program asks.
    let comes = IsProgramRun c.args.self.now (handed_of c.args.config.now c.args.overrides.now) (g.E.Evaluation.promised c.args.evaluation.now) (g.H.Host.promised c.args.host.now) in
    let old = log_of (g.H.Host.entries c.args.host.now) (g.E.Evaluation.requests c.args.evaluation.now) in
    let new = log_of (g.H.Host.entries c.run_command.new.host) (g.E.Evaluation.requests c.run_command.new.evaluation) in
    let both : Command c.in-Command.binary c.in-Command.arguments ≡ Command program.binary program.arguments = sym c.in-Command.is ∙ asks in
    let binary : c.in-Command.binary ≡ program.binary = cc in
    let arguments : c.in-Command.arguments ≡ program.arguments = cc in
    let same : program_asked c.in-Command.binary c.in-Command.arguments ≡ program = λ i. record { binary = binary i; arguments = arguments i } in
    subst (λ x. comes x old new c.run_command.result) same c.run_command.ensures.outcome

pub returns-in-Command-clause-commanded_expected : goal.returns-in-Command-clause-commanded_expected
returns-in-Command-clause-commanded_expected g c = λ program asks.
    let comes = IsProgramRunAsExpected c.args.self.now (handed_of c.args.config.now c.args.overrides.now) (g.E.Evaluation.promised c.args.evaluation.now) (g.H.Host.promised c.args.host.now) in
    let old = log_of (g.H.Host.entries c.args.host.now) (g.E.Evaluation.requests c.args.evaluation.now) in
    let new = log_of (g.H.Host.entries c.run_command.new.host) (g.E.Evaluation.requests c.run_command.new.evaluation) in
    let both : Command c.in-Command.binary c.in-Command.arguments ≡ Command program.binary program.arguments = sym c.in-Command.is ∙ asks in
    let binary : c.in-Command.binary ≡ program.binary = cc in
    let arguments : c.in-Command.arguments ≡ program.arguments = cc in
    let same : program_asked c.in-Command.binary c.in-Command.arguments ≡ program = λ i. record { binary = binary i; arguments = arguments i } in
    subst (λ x. comes x old new c.run_command.result) same c.run_command.ensures.expected

pub run_words-requires-clause-same : goal.run_words-requires-clause-same
run_words-requires-clause-same g c = c.requires.same (ap runs_recipes c.in-Run.is)
