use Rattle.std.proofs.Common.{List, Option, map, refl, subst}
use Rattle.just_justfile.specs.declared.justfile.Justfile.{Justfile, out-Justfile}
use Rattle.just_run_layers.specs.Evaluation.{ConfigContents, config_contents}
use Rattle.just_run_layers.specs.Host.{Answer}
use Rattle.just_run_layers.specs.Interactions.{Question, Interaction, both}
use Rattle.just_run_layers.specs.declared.environment.EnvironmentChange.{EnvironmentChange}
use Rattle.just_run_layers.proofs.InteractionLemmas.{keeps-both, keeps-self, took-then}
use Rattle.just_recipe_body.specs.Taking.{AsksHost}
use Rattle.just_recipe_body.proofs.StepEnds.{took-exit, took-gone}
use Rattle.just_scopes.specs.Opening.{Opened, hands, opened_at, opened_of}
use Rattle.just_invoke.specs.Command.{ProgramAsked, program_call_steps, command_call, root_environment_steps}
use Rattle.just_invoke.specs.loops.Command.{program_asked}
use Rattle.just_invoke.proofs.command_run.run_program.Goals as goal

abbrev first : Justfile → List Opened → Interaction (List EnvironmentChange)
first root opened = root_environment_steps root (hands (opened_at (out-Justfile root).module_path opened))

abbrev next : ConfigContents → Justfile → ProgramAsked → List EnvironmentChange → Interaction (Unit {0})
next config root program changes = program_call_steps (command_call config root program changes)

pub returns-in_err-changes-clause-took : goal.returns-in_err-changes-clause-took
returns-in_err-changes-clause-took g c =
    let h = g.H.Host.promised c.args.host.now in
    let p : Question → Option Answer = both (g.E.Evaluation.promised c.args.evaluation.now) h in
    let root = c.args.root.now in
    let r = c.from_residual.result in
    took-exit p (first root (map opened_of c.args.opened.items)) (next (config_contents c.args.config.now) root (program_asked c.args.binary.now c.args.arguments.now)) _ _ c.in_err-changes.field-0.0 r c.from_residual.ensures.1
    (c.in_err-changes.ensures.took h (g.H.Host.entries c.args.host.now))

pub returns-in_err-call-clause-took : goal.returns-in_err-call-clause-took
returns-in_err-call-clause-took g c =
    let h = g.H.Host.promised c.args.host.now in
    let p : Question → Option Answer = both (g.E.Evaluation.promised c.args.evaluation.now) h in
    let q : Question → Option Answer = both (g.E.Evaluation.promised c.ask_environment.new.evaluation) h in
    let root = c.args.root.now in
    let then = next (config_contents c.args.config.now) root (program_asked c.args.binary.now c.args.arguments.now) in
    let r = c.from_residual-in_err-call.result in
    took-then p q (keeps-both _ _ h h c.in_ok-changes.ensures.keeps (keeps-self h)) (first root (map opened_of c.args.opened.items)) then _ _ _ c.in_ok-changes.changes r (c.in_ok-changes.ensures.took h (g.H.Host.entries c.args.host.now))
    (took-gone q (then c.in_ok-changes.changes) _ _ r c.from_residual-in_err-call.ensures.1 refl)

pub returns-clause-took : goal.returns-clause-took
returns-clause-took g c =
    let h = g.H.Host.promised c.args.host.now in
    let p : Question → Option Answer = both (g.E.Evaluation.promised c.args.evaluation.now) h in
    let e = g.E.Evaluation.promised c.ask_environment.new.evaluation in
    let root = c.args.root.now in
    let then = next (config_contents c.args.config.now) root (program_asked c.args.binary.now c.args.arguments.now) in
    took-then p (both e h) (keeps-both _ _ h h c.in_ok-changes.ensures.keeps (keeps-self h)) (first root (map opened_of c.args.opened.items)) then _ _ _ c.in_ok-changes.changes c.call_program.result (c.in_ok-changes.ensures.took h (g.H.Host.entries c.args.host.now))
    (subst (λ call. AsksHost h (program_call_steps call) (g.H.Host.entries c.args.host.now) (g.H.Host.entries c.call_program.new.host) c.call_program.result) c.in_ok-call.ensures c.call_program.ensures.took e (g.E.Evaluation.requests c.ask_environment.new.evaluation))
