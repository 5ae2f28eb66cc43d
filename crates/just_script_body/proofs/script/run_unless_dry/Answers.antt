use Rattle.std.proofs.Common.{Option, Ok}
use Rattle.just_run_layers.specs.Host.{Answer}
use Rattle.just_run_layers.specs.Interactions.{Return, Question, both}
use Rattle.just_run_layers.proofs.InteractionLemmas.{took-give}
use Rattle.just_recipe_body.specs.Body.{BodyContents, body_contents_of}
use Rattle.just_script_body.specs.ScriptBody.{script_run_steps}
use Rattle.just_script_body.proofs.ScriptLemmas.{took-else, took-where}
use Rattle.just_script_body.proofs.script.run_unless_dry.Goals as goal

pub returns-then-body-clause-took : goal.returns-then-body-clause-took
returns-then-body-clause-took g c =
    let p : Question → Option Answer = both (g.E.Evaluation.promised c.args.evaluation.now) (g.H.Host.promised c.args.host.now) in
    let b : BodyContents = body_contents_of (g.S.Syntax.answers c.args.body.now.syntax.now) c.args.body.now in
    took-where p b.context.config.dry_run (Return tt) (script_run_steps b c.args.texts) _ _ (Ok tt) c.if-body.true (took-give p _ tt)

pub returns-clause-took : goal.returns-clause-took
returns-clause-took g c =
    let p : Question → Option Answer = both (g.E.Evaluation.promised c.args.evaluation.now) (g.H.Host.promised c.args.host.now) in
    let b : BodyContents = body_contents_of (g.S.Syntax.answers c.args.body.now.syntax.now) c.args.body.now in
    took-else p b.context.config.dry_run (Return tt) (script_run_steps b c.args.texts) _ _ c.run_texts.result c.if-body.false c.run_texts.ensures.took
