use Rattle.std.proofs.Common.{◌≡◌, ◌∙◌, Ok, map, refl, ap, rules}
use Rattle.std.specs.HashSet.{contains}
use Rattle.just_parts.specs.Needs.{same_number}
use Rattle.just_scopes.specs.Opening.{handed_of, opened_of}
use Rattle.just_evaluate.specs.Lines.{evaluated_text}
use Rattle.just_invoke.specs.Evaluation.{text_in}
use Rattle.just_invoke.specs.loops.Evaluation.{values_behind}
use Rattle.just_invoke.proofs.Evaluations.{made-late, made-out, made-shut, made-text}
use Rattle.just_invoke.proofs.evaluate_run.make_text.Goals as goal

pub returns-in_err-numbers-clause-made : goal.returns-in_err-numbers-clause-made
returns-in_err-numbers-clause-made g c =
    made-out g.E.Evaluation.displayed c.args.root.now (values_behind c.args.format c.args.target.now) (handed_of c.args.config.now c.args.overrides.now) (g.E.Evaluation.promised c.args.evaluation.now) (g.H.Host.promised c.args.host.now) _ _ _ (search rules) refl

pub returns-in_err-opened-clause-made : goal.returns-in_err-opened-clause-made
returns-in_err-opened-clause-made g c =
    made-shut g.E.Evaluation.displayed c.args.root.now (values_behind c.args.format c.args.target.now) (handed_of c.args.config.now c.args.overrides.now) (g.E.Evaluation.promised c.args.evaluation.now) (g.H.Host.promised c.args.host.now) _ _
    (contains same_number c.in_ok-numbers.numbers) c.in_ok-numbers.ensures c.in_err-opened.field-0.0 _ (search rules) c.in_err-opened.ensures.took c.in_err-opened.ensures.nothing_runs

pub returns-in_err-evaluated_text-clause-made : goal.returns-in_err-evaluated_text-clause-made
returns-in_err-evaluated_text-clause-made g c =
    made-late g.E.Evaluation.displayed c.args.root.now (values_behind c.args.format c.args.target.now) (handed_of c.args.config.now c.args.overrides.now) (g.E.Evaluation.promised c.args.evaluation.now) (g.H.Host.promised c.args.host.now) _ _
    (contains same_number c.in_ok-numbers.numbers) c.in_ok-numbers.ensures (map opened_of c.in_ok-opened.opened.items) c.in_ok-opened.ensures.took c.in_ok-opened.ensures.open c.in_ok-opened.ensures.nothing_runs _ (search rules)

pub returns-clause-made : goal.returns-clause-made
returns-clause-made g c =
    let values = values_behind c.args.format c.args.target.now in
    let opened = map opened_of c.in_ok-opened.opened.items in
    let text : c.in_ok-evaluated_text.field-0 ≡ text_in g.E.Evaluation.displayed values opened =
    c.in_ok-evaluated_text.ensures ∙ ap (evaluated_text g.E.Evaluation.displayed values.format values.justfile values.variable) c.scope_at-scope.ensures in
    made-text g.E.Evaluation.displayed c.args.root.now values (handed_of c.args.config.now c.args.overrides.now) (g.E.Evaluation.promised c.args.evaluation.now) (g.H.Host.promised c.args.host.now) _ _
    (contains same_number c.in_ok-numbers.numbers) c.in_ok-numbers.ensures opened c.in_ok-opened.ensures.took c.in_ok-opened.ensures.open c.in_ok-opened.ensures.nothing_runs _ (ap (λ x. Ok x) text)
