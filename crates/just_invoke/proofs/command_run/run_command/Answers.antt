use Rattle.std.proofs.Common.{◌≡◌, Result, Ok, Err, map, refl, rules}
use Rattle.std.specs.HashSet.{contains}
use Rattle.just_errors.specs.Halts.{come_to, error_of, discard_value}
use Rattle.just_errors.specs.declared.halt.Halt.{Halt}
use Rattle.just_errors.specs.declared.halt.Halt.TheVariants.{Memory}
use Rattle.just_run_layers.proofs.Halts.{ok-not}
use Rattle.just_execution.specs.declared.run.Report.{Report}
use Rattle.just_parts.specs.Needs.{same_number}
use Rattle.just_run_layers.proofs.InteractionLemmas.{keeps-then}
use Rattle.just_run_layers.specs.Interactions.{log_of}
use Rattle.just_scopes.specs.Opening.{handed_of, opened_of}
use Rattle.just_invoke.specs.loops.Command.{program_asked}
use Rattle.just_invoke.proofs.Commands.{holds-none, program-expected, program-ran, program-shut}
use Rattle.just_invoke.proofs.command_run.run_command.Goals as goal

pub returns-in_err-opened-clause-outcome : goal.returns-in_err-opened-clause-outcome
returns-in_err-opened-clause-outcome g c =
    let root = c.args.root.now in
    let handed = handed_of c.args.config.now c.args.overrides.now in
    let e = g.E.Evaluation.promised c.args.evaluation.now in
    let h = g.H.Host.promised c.args.host.now in
    let program = program_asked c.args.binary.now c.args.arguments.now in
    let numbers = c.new-numbers.result in
    let d : Halt = c.in_err-opened.field-0.0 in
    let is : c.from_residual.result ≡ Err (error_of d) = search rules in
    program-shut root handed e h program _ _ c.from_residual.result (contains same_number numbers) (holds-none numbers c.new-numbers.ensures.empty) d is c.in_err-opened.ensures.took c.in_err-opened.ensures.nothing_runs

pub returns-in_err-opened-clause-expected : goal.returns-in_err-opened-clause-expected
returns-in_err-opened-clause-expected g c =
    program-expected c.args.root.now (handed_of c.args.config.now c.args.overrides.now) (g.E.Evaluation.promised c.args.evaluation.now) (g.H.Host.promised c.args.host.now) (program_asked c.args.binary.now c.args.arguments.now) _ _ c.from_residual.result
    (returns-in_err-opened-clause-outcome g c)

pub returns-in_err-run_program-clause-keeps : goal.returns-in_err-run_program-clause-keeps
returns-in_err-run_program-clause-keeps g c = keeps-then _ _ _ c.in_ok-opened.ensures.keeps c.in_err-run_program.ensures.keeps

pub returns-in_err-run_program-clause-keeps_host : goal.returns-in_err-run_program-clause-keeps_host
returns-in_err-run_program-clause-keeps_host g c = keeps-then _ _ _ c.in_ok-opened.ensures.keeps_host c.in_err-run_program.ensures.keeps_host

pub returns-in_err-run_program-clause-outcome : goal.returns-in_err-run_program-clause-outcome
returns-in_err-run_program-clause-outcome g c =
    let root = c.args.root.now in
    let handed = handed_of c.args.config.now c.args.overrides.now in
    let e = g.E.Evaluation.promised c.args.evaluation.now in
    let h = g.H.Host.promised c.args.host.now in
    let program = program_asked c.args.binary.now c.args.arguments.now in
    let numbers = c.new-numbers.result in
    let old = log_of (g.H.Host.entries c.args.host.now) (g.E.Evaluation.requests c.args.evaluation.now) in
    let mid = log_of (g.H.Host.entries c.open_lazily.new.host) (g.E.Evaluation.requests c.open_lazily.new.evaluation) in
    let new = log_of (g.H.Host.entries c.run_program.new.host) (g.E.Evaluation.requests c.run_program.new.evaluation) in
    let ended : Result Report Halt = Err c.in_err-run_program.field-0.0 in
    let is : c.from_residual-in_err-run_program.result ≡ come_to ended = search rules in
    program-ran root handed e h program old new c.from_residual-in_err-run_program.result (contains same_number numbers) (holds-none numbers c.new-numbers.ensures.empty) _ _ c.in_ok-opened.ensures.keeps c.in_ok-opened.ensures.keeps_host
    (map opened_of c.in_ok-opened.opened.items) mid c.in_ok-opened.ensures.took c.in_ok-opened.ensures.open c.in_ok-opened.ensures.nothing_runs ended is tt c.in_err-run_program.ensures.uncalled c.in_err-run_program.ensures.took c.in_err-run_program.ensures.nothing_runs

pub returns-in_err-run_program-clause-expected : goal.returns-in_err-run_program-clause-expected
returns-in_err-run_program-clause-expected g c =
    program-expected c.args.root.now (handed_of c.args.config.now c.args.overrides.now) (g.E.Evaluation.promised c.args.evaluation.now) (g.H.Host.promised c.args.host.now) (program_asked c.args.binary.now c.args.arguments.now) _ _ c.from_residual-in_err-run_program.result
    (returns-in_err-run_program-clause-outcome g c)

pub returns-clause-keeps : goal.returns-clause-keeps
returns-clause-keeps g c = keeps-then _ _ _ c.in_ok-opened.ensures.keeps c.in_ok-run_program.ensures.keeps

pub returns-clause-keeps_host : goal.returns-clause-keeps_host
returns-clause-keeps_host g c = keeps-then _ _ _ c.in_ok-opened.ensures.keeps_host c.in_ok-run_program.ensures.keeps_host

pub returns-clause-outcome : goal.returns-clause-outcome
returns-clause-outcome g c =
    let root = c.args.root.now in
    let handed = handed_of c.args.config.now c.args.overrides.now in
    let e = g.E.Evaluation.promised c.args.evaluation.now in
    let h = g.H.Host.promised c.args.host.now in
    let program = program_asked c.args.binary.now c.args.arguments.now in
    let numbers = c.new-numbers.result in
    let old = log_of (g.H.Host.entries c.args.host.now) (g.E.Evaluation.requests c.args.evaluation.now) in
    let mid = log_of (g.H.Host.entries c.open_lazily.new.host) (g.E.Evaluation.requests c.open_lazily.new.evaluation) in
    let new = log_of (g.H.Host.entries c.run_program.new.host) (g.E.Evaluation.requests c.run_program.new.evaluation) in
    let ended : Result Report Halt = Ok (record { calls = c.new.result }) in
    program-ran root handed e h program old new (come_to ended) (contains same_number numbers) (holds-none numbers c.new-numbers.ensures.empty) _ _ c.in_ok-opened.ensures.keeps c.in_ok-opened.ensures.keeps_host
    (map opened_of c.in_ok-opened.opened.items) mid c.in_ok-opened.ensures.took c.in_ok-opened.ensures.open c.in_ok-opened.ensures.nothing_runs ended refl c.new.ensures.items (λ k. absurd (ok-not (discard_value ended) tt Memory refl k)) c.in_ok-run_program.ensures.took c.in_ok-run_program.ensures.nothing_runs

pub returns-clause-expected : goal.returns-clause-expected
returns-clause-expected g c =
    program-expected c.args.root.now (handed_of c.args.config.now c.args.overrides.now) (g.E.Evaluation.promised c.args.evaluation.now) (g.H.Host.promised c.args.host.now) (program_asked c.args.binary.now c.args.arguments.now) _ _ _
    (returns-clause-outcome g c)
