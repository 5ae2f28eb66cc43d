-- The words that the clauses of a caller name, in one place.
pub use Rattle.just_names.specs.Texts.{texts}
pub use Rattle.just_paths.specs.Clean.{IsClean}
pub use Rattle.just_errors.specs.Causes.{Cause, Keeps, Reports}
pub use Rattle.just_parts.specs.Asts.{root_ast_key, same_ast_key}
pub use Rattle.just_parts.specs.Evaluator.{count_fault_of}
pub use Rattle.just_run_layers.specs.Host.{Answer, KeepsPromises}
pub use Rattle.just_parts.specs.Layers.{override_at}
pub use Rattle.just_run_layers.specs.Interactions.{log_of}
pub use Rattle.just_run_layers.specs.LineTexts.{AgreesWith}
pub use Rattle.just_loader.specs.ModuleFile.{module_files}
pub use Rattle.just_loader.specs.Reached.{world_of}
pub use Rattle.just_justfile.specs.Closed.{AreClosed, IsClosedModule, IsHeld, IsRooted, is_ordered}
pub use Rattle.just_invocations.specs.Cause.{IsOfWords, cause_of}
pub use Rattle.just_invoke.specs.Command.{AsksForProgram, IsProgramRun, IsProgramRunAsExpected}
pub use Rattle.just_invoke.specs.Evaluation.{AsksForValues, IsEvaluation, IsEvaluationAsExpected, RunsRecipes, WritesNothing, writer_of}
pub use Rattle.just_invoke.specs.Outcome.{RunsAsExpected, IsOutcome}
pub use Rattle.just_invocations.specs.Split.{HasWordsFault, IsSplit, invoked_of}
pub use Rattle.just_justfile.specs.Running.{CanRun, HoldsOverridden}
pub use Rattle.just_justfile.specs.Walks.{AreOrdered, AreModulesOrdered}
pub use Rattle.just_scopes.specs.Opening.{handed_of, setup_of}
pub use Rattle.just_overrides.specs.Inserted.{AreAsBefore}
pub use Rattle.just_compiler.specs.Analyzed.{Analyzes, TellsAnalyzed}
pub use Rattle.just_compiler.specs.Compiled.{Compiles}
