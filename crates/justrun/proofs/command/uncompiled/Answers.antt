use Rattle.std.proofs.Common.{[], refl, subst}
use Rattle.just_bench_bundle.specs.Places.{TellsLine}
use Rattle.just_bench_syntax.specs.Answers.{answers}
use Rattle.just_loader.specs.Reached.{World, world_of}
use Rattle.justrun.proofs.command.uncompiled.Goals as goal

pub returns-in-Ok-Some : goal.returns-in-Ok-Some
returns-in-Ok-Some c =
    let w : World = world_of c.args.sources.now c.args.config.now (answers []) c.args.root.now in
    (refl, subst (TellsLine w c.args.error) c.in-Ok-Some.field-0-is c.in-Ok-Some.ensures)

pub returns-in-Ok-None : goal.returns-in-Ok-None
returns-in-Ok-None c = (refl, tt)
