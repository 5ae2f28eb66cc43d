use Rattle.std.proofs.Common.{refl}
use Rattle.std.proofs.lemmas.Result.{IfErr-weaker}
use Rattle.just_names.specs.Texts.{texts}
use Rattle.justrun.specs.Answers.{IsProgramFault, over, unbundled}
use Rattle.justrun.proofs.command.run_bundle.Goals as goal

pub returns-in-Ok-clause-fault : goal.returns-in-Ok-clause-fault
returns-in-Ok-clause-fault g c =
    IfErr-weaker c.run_sources.result _ (IsProgramFault c.args.text.now c.args.root.now (texts c.args.words.now) (g.W.Write.contents c.args.output.now) (g.W.Write.contents c.run_sources.new.output))
    (λ e f. over c.in-Ok.sources e c.in-Ok.ensures.files f)
    c.run_sources.ensures.fault

pub returns-in-Err-clause-fault : goal.returns-in-Err-clause-fault
returns-in-Err-clause-fault g c = unbundled c.in-Err.error c.in-Err.ensures.fault refl
