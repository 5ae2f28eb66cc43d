use Rattle.std.proofs.Common.{◌≡◌, Ok, Err, refl, rules}
use Rattle.std.specs.Option.{option_copied}
use Rattle.just_errors.specs.Halts.{error_of}
use Rattle.just_errors.specs.declared.halt.Halt.{Halt}
use Rattle.just_justfile.specs.Closed.{is_ordered}
use Rattle.just_run_layers.specs.Interactions.{log_of}
use Rattle.just_scopes.specs.Opening.{handed_of}
use Rattle.just_invoke.specs.Evaluation.{LeadsToValues, refused, writer_of}
use Rattle.just_invoke.specs.loops.Evaluation.{values_behind}
use Rattle.just_invoke.proofs.Evaluations.{evaluated-so, expected-so, leads-nowhere}
use Rattle.just_invoke.proofs.evaluate_run.run_evaluate.Goals as goal

pub evaluation_target-requires : goal.evaluation_target-requires
evaluation_target-requires g c = is_ordered c.requires.can_run.2.rooted.closed

pub returns-in_err-target-clause-outcome : goal.returns-in_err-target-clause-outcome
returns-in_err-target-clause-outcome g c = refused c.in_err-target.field-0.0 (search rules) c.in_err-target.ensures.refused refl refl

pub returns-in_err-target-clause-expected : goal.returns-in_err-target-clause-expected
returns-in_err-target-clause-expected g c = λ values leads. absurd (leads-nowhere c.args.root.now c.args.format (option_copied c.args.path) values c.in_err-target.field-0.0 c.in_err-target.ensures.refused leads)

pub returns-in_err-text-clause-outcome : goal.returns-in_err-text-clause-outcome
returns-in_err-text-clause-outcome g c =
    let values = values_behind c.args.format c.in_ok-target.target in
    let leads : LeadsToValues c.args.root.now c.args.format (option_copied c.args.path) values = (c.in_ok-target.ensures.led, refl) in
    let writer = writer_of (g.W.Output.written c.args.writer.now) (g.W.Output.failed c.args.writer.now) in
    let e : Halt = c.in_err-text.field-0.0 in
    let told : c.from_residual-in_err-text.result ≡ Err (error_of e) = search rules in
    evaluated-so g.E.Evaluation.displayed c.args.root.now values (handed_of c.args.config.now c.args.overrides.now) (g.E.Evaluation.promised c.args.evaluation.now) (g.H.Host.promised c.args.host.now)
    (log_of (g.H.Host.entries c.args.host.now) (g.E.Evaluation.requests c.args.evaluation.now)) (log_of (g.H.Host.entries c.make_text.new.host) (g.E.Evaluation.requests c.make_text.new.evaluation)) c.args.format (option_copied c.args.path) leads
    writer writer c.from_residual-in_err-text.result (Err e) c.in_err-text.ensures.made (told, refl)

pub returns-in_err-text-clause-expected : goal.returns-in_err-text-clause-expected
returns-in_err-text-clause-expected g c =
    let values = values_behind c.args.format c.in_ok-target.target in
    let leads : LeadsToValues c.args.root.now c.args.format (option_copied c.args.path) values = (c.in_ok-target.ensures.led, refl) in
    let writer = writer_of (g.W.Output.written c.args.writer.now) (g.W.Output.failed c.args.writer.now) in
    let e : Halt = c.in_err-text.field-0.0 in
    let told : c.from_residual-in_err-text.result ≡ Err (error_of e) = search rules in
    expected-so g.E.Evaluation.displayed c.args.root.now values (handed_of c.args.config.now c.args.overrides.now) (g.E.Evaluation.promised c.args.evaluation.now) (g.H.Host.promised c.args.host.now)
    (log_of (g.H.Host.entries c.args.host.now) (g.E.Evaluation.requests c.args.evaluation.now)) (log_of (g.H.Host.entries c.make_text.new.host) (g.E.Evaluation.requests c.make_text.new.evaluation)) c.args.format (option_copied c.args.path) leads
    writer writer c.from_residual-in_err-text.result (Err e) c.in_err-text.ensures.made (told, refl)

pub returns-clause-outcome : goal.returns-clause-outcome
returns-clause-outcome g c =
    let values = values_behind c.args.format c.in_ok-target.target in
    let leads : LeadsToValues c.args.root.now c.args.format (option_copied c.args.path) values = (c.in_ok-target.ensures.led, refl) in
    evaluated-so g.E.Evaluation.displayed c.args.root.now values (handed_of c.args.config.now c.args.overrides.now) (g.E.Evaluation.promised c.args.evaluation.now) (g.H.Host.promised c.args.host.now)
    (log_of (g.H.Host.entries c.args.host.now) (g.E.Evaluation.requests c.args.evaluation.now)) (log_of (g.H.Host.entries c.make_text.new.host) (g.E.Evaluation.requests c.make_text.new.evaluation)) c.args.format (option_copied c.args.path) leads
    (writer_of (g.W.Output.written c.args.writer.now) (g.W.Output.failed c.args.writer.now)) (writer_of (g.W.Output.written c.write_text.new.writer) (g.W.Output.failed c.write_text.new.writer)) c.write_text.result
    (Ok c.in_ok-text.text) c.in_ok-text.ensures.made c.write_text.ensures

pub returns-clause-expected : goal.returns-clause-expected
returns-clause-expected g c =
    let values = values_behind c.args.format c.in_ok-target.target in
    let leads : LeadsToValues c.args.root.now c.args.format (option_copied c.args.path) values = (c.in_ok-target.ensures.led, refl) in
    expected-so g.E.Evaluation.displayed c.args.root.now values (handed_of c.args.config.now c.args.overrides.now) (g.E.Evaluation.promised c.args.evaluation.now) (g.H.Host.promised c.args.host.now)
    (log_of (g.H.Host.entries c.args.host.now) (g.E.Evaluation.requests c.args.evaluation.now)) (log_of (g.H.Host.entries c.make_text.new.host) (g.E.Evaluation.requests c.make_text.new.evaluation)) c.args.format (option_copied c.args.path) leads
    (writer_of (g.W.Output.written c.args.writer.now) (g.W.Output.failed c.args.writer.now)) (writer_of (g.W.Output.written c.write_text.new.writer) (g.W.Output.failed c.write_text.new.writer)) c.write_text.result
    (Ok c.in_ok-text.text) c.in_ok-text.ensures.made c.write_text.ensures
