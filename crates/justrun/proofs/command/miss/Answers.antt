use Rattle.std.proofs.Common.{List, refl, sym, subst}
use Rattle.just_bench.specs.declared.program_error.ProgramError.TheVariants as program
use Rattle.just_names.specs.Texts.{Text}
use Rattle.justrun.specs.Answers.{IsFaultOver, missing, refused}
use Rattle.justrun.proofs.command.miss.Goals as goal

pub returns-in-Ok : goal.returns-in-Ok
returns-in-Ok c = λ words contents.
    subst (λ (like : List Text). IsFaultOver c.args.sources.now c.args.root.now words contents contents (program.NoRoot c.args.root like)) (sym c.in-Ok.ensures)
    (missing c.args.root refl c.requires refl)

pub returns-in-Err : goal.returns-in-Err
returns-in-Err c = λ words contents. refused refl
