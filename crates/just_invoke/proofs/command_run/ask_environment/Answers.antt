use Rattle.std.proofs.Common.{◌≡◌, ◌∙◌, [], Option, None, Some, map, ap, subst, sym}
use Rattle.std.specs.Option.{option_map}
use Rattle.just_justfile.specs.declared.justfile.Justfile.{out-Justfile}
use Rattle.just_recipe_body.specs.Taking.{AsksEvaluator}
use Rattle.just_scopes.specs.Opening.{Inherited, Opened, hands, opened_at, opened_of}
use Rattle.just_invoke.specs.Command.{root_environment_steps}
use Rattle.just_invoke.proofs.command_run.ask_environment.Goals as goal

pub returns-in-Some-clause-took : goal.returns-in-Some-clause-took
returns-in-Some-clause-took g c =
    let found : Some (opened_of c.in-Some.module) ≡ opened_at (out-Justfile c.args.root.now).module_path (map opened_of c.args.opened.items) = ap (λ o. option_map opened_of o) (sym c.in-Some.is) ∙ c.opened_at.ensures in
    subst (λ o. AsksEvaluator (g.E.Evaluation.promised c.args.evaluation.now) (root_environment_steps c.args.root.now (hands o)) (g.E.Evaluation.requests c.args.evaluation.now) (g.E.Evaluation.requests c.ask_changes.new.evaluation) c.ask_changes.result) found
    c.ask_changes.ensures.took

pub returns-in-None-clause-took : goal.returns-in-None-clause-took
returns-in-None-clause-took g c =
    let asks : Inherited → Type 0 = λ has. AsksEvaluator (g.E.Evaluation.promised c.args.evaluation.now) (root_environment_steps c.args.root.now has) (g.E.Evaluation.requests c.args.evaluation.now) (g.E.Evaluation.requests c.ask_changes-in-None.new.evaluation) c.ask_changes-in-None.result in
    let none : Option Opened = None in
    let found : none ≡ opened_at (out-Justfile c.args.root.now).module_path (map opened_of c.args.opened.items) = ap (λ o. option_map opened_of o) (sym c.in-None.is) ∙ c.opened_at.ensures in
    subst (λ o. asks (hands o)) found
    (subst (λ bindings. asks (record { dotenv = []; scope = record { bindings = bindings } })) c.new.ensures
    (subst (λ dotenv. asks (record { dotenv = dotenv; scope = record { bindings = c.new.result } })) c.new-in-None.ensures c.ask_changes-in-None.ensures.took))
