use Rattle.std.proofs.Common.{◌≡◌, ℕ, List, Result, ap, subst}
use Rattle.std.specs.Prelude.{Option, is_ok}
use Rattle.std.specs.Io.KnownBytes.{Appends}
use Rattle.just_errors.specs.declared.error.Error.{Error}
use Rattle.just_execution.specs.declared.run.Report.{Report}
use Rattle.just_justfile.specs.declared.justfile.Justfile.{Justfile}
use Rattle.just_names.specs.Texts.{Text, texts}
use Rattle.just_parts.specs.declared.layers.config.Config.{Config}
use Rattle.just_recipe.specs.declared.dependency.Dependency.{Dependency}
use Rattle.just_recipe.specs.declared.recipe.Recipe.{Recipe}
use Rattle.just_run_layers.specs.declared.host.Entry.{Entry}
use Rattle.just_scopes.specs.Opening.{Setup}
use Rattle.just_bench.specs.Entries.{entry_lines}
use Rattle.just_bench.specs.Ran.{IsPlainOutcome, IsRunFault, IsUndone, Ran, failed, plain_setup, refused, unwritten}
use Rattle.just_bench.specs.Recorder.{Recording, fresh}
use Rattle.just_bench.specs.Writing.{GetsBeginning}
use Rattle.just_bench.specs.declared.program_error.ProgramError.{ProgramError}
use Rattle.just_bench.proofs.run.run_and_write.Goals as goal

module _ (root : Justfile) (recipes : List (Recipe Dependency)) (config : Config) (setup : Setup) (words : List Text) where
  -- a recorder that was asked nothing
  abbrev from_fresh : (old : Recording) (entries : List Entry) (result : Result Report Error) → old ≡ fresh → IsPlainOutcome root recipes config setup words old.script old.entries entries result →
      Ran root recipes config setup words
  from_fresh old entries result is outcome = record {
    entries = entries;
    result = result;
    outcome = subst (λ (o : Recording). IsPlainOutcome root recipes config setup words o.script o.entries entries result) is outcome;
  }

  undone : (run : Ran root recipes config setup words) (asked : List Entry) (old new : Option (List ℕ)) (e : ProgramError) → asked ≡ run.entries → IsRunFault run.result e →
      GetsBeginning old new (entry_lines asked) → IsUndone root recipes config setup words old new e
  undone run asked old new e is told begun = record { run = run; told = told; begun = subst (λ entries. GetsBeginning old new (entry_lines entries)) is begun }

pub returns-in-Err-clause-fault : goal.returns-in-Err-clause-fault
returns-in-Err-clause-fault g c =
    let root = c.args.root.now in
    let recipes = c.args.recipes.now in
    let config = c.args.config.now in
    let setup = plain_setup config c.args.overrides.now in
    let words = texts c.args.words.now in
    undone root recipes config setup words (from_fresh root recipes config setup words c.new-host.result c.run_words-ran.new.host.entries c.run_words-ran.result c.new-host.ensures c.run_words-ran.ensures.outcome)
    c.entries.result.now (g.W.Write.contents c.args.output.now) (g.W.Write.contents c.write_entries-written.new.output) _ c.entries.ensures.list (failed c.in-Err.error c.in-Err.is)
    c.write_entries-written.ensures.begun

pub returns-in-Ok-clause-done : goal.returns-in-Ok-clause-done
returns-in-Ok-clause-done g c =
    let root = c.args.root.now in
    let recipes = c.args.recipes.now in
    let config = c.args.config.now in
    let setup = plain_setup config c.args.overrides.now in
    let words = texts c.args.words.now in
    let old = g.W.Write.contents c.args.output.now in
    let new = g.W.Write.contents c.write_entries-written.new.output in (
      from_fresh root recipes config setup words c.new-host.result c.run_words-ran.new.host.entries c.run_words-ran.result c.new-host.ensures c.run_words-ran.ensures.outcome,
      ap is_ok c.in_default.is,
      subst (λ entries. Appends old new (entry_lines entries)) c.entries.ensures.list c.in-Ok.ensures.whole,
    )

pub returns-in-Err-written-clause-fault : goal.returns-in-Err-written-clause-fault
returns-in-Err-written-clause-fault g c =
    let root = c.args.root.now in
    let recipes = c.args.recipes.now in
    let config = c.args.config.now in
    let setup = plain_setup config c.args.overrides.now in
    let words = texts c.args.words.now in
    undone root recipes config setup words (from_fresh root recipes config setup words c.new-host.result c.run_words-ran.new.host.entries c.run_words-ran.result c.new-host.ensures c.run_words-ran.ensures.outcome)
    c.entries.result.now (g.W.Write.contents c.args.output.now) (g.W.Write.contents c.write_entries-written.new.output) _ c.entries.ensures.list (refused (ap is_ok c.in_default.is))
    c.write_entries-written.ensures.begun

pub returns-clause-fault : goal.returns-clause-fault
returns-clause-fault g c =
    let root = c.args.root.now in
    let recipes = c.args.recipes.now in
    let config = c.args.config.now in
    let setup = plain_setup config c.args.overrides.now in
    let words = texts c.args.words.now in
    undone root recipes config setup words (from_fresh root recipes config setup words c.new-host.result c.run_words-ran.new.host.entries c.run_words-ran.result c.new-host.ensures c.run_words-ran.ensures.outcome)
    c.entries.result.now (g.W.Write.contents c.args.output.now) (g.W.Write.contents c.write_entries-written.new.output) _ c.entries.ensures.list (unwritten (ap is_ok c.in_default.is))
    c.write_entries-written.ensures.begun
