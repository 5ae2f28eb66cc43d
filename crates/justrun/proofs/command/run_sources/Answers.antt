use Rattle.std.proofs.Common.{refl}
use Rattle.std.proofs.lemmas.Result.{IfErr-weaker, on_ok_weaker}
use Rattle.just_names.specs.Texts.{texts}
use Rattle.justrun.specs.Answers.{IsFaultOver, RunsOver, ended, uncompiled}
use Rattle.justrun.proofs.command.run_sources.Goals as goal

pub returns-in-Ok-clause-done : goal.returns-in-Ok-clause-done
returns-in-Ok-clause-done g c =
    on_ok_weaker c.run_compiled.result
    (λ d. record {
      run = record { config = c.new-config.result; plain = c.new-config.ensures; compilation = c.in-Ok.compilation; compiled = c.in-Ok.ensures; ran = d.0 };
      succeeded = d.1;
      written = d.2;
    })
    c.run_compiled.ensures.done

pub returns-in-Ok-clause-fault : goal.returns-in-Ok-clause-fault
returns-in-Ok-clause-fault g c =
    let old = g.W.Write.contents c.args.output.now in
    let new = g.W.Write.contents c.run_compiled.new.output in
    IfErr-weaker c.run_compiled.result _ (IsFaultOver c.args.sources.now c.args.root.now (texts c.args.words.now) old new)
    (λ e f.
    let over : RunsOver c.args.sources.now c.args.root.now (texts c.args.words.now) = record { config = c.new-config.result; plain = c.new-config.ensures; compilation = c.in-Ok.compilation; compiled = c.in-Ok.ensures; ran = f.run } in
    ended over e f.told f.begun)
    c.run_compiled.ensures.fault

pub returns-clause-fault : goal.returns-clause-fault
returns-clause-fault g c = uncompiled c.new-config.result c.in-Err.error c.uncompiled.result c.new-config.ensures c.in-Err.ensures c.uncompiled.ensures refl
