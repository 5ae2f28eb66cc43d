-- What a source map is compiled to.
use Rattle.std.specs.Prelude.{◌≡◌, List, [], Result, IfOk, IfErr, IsSome}
use Rattle.std.specs.HashMap.{get}
use Rattle.just_parts.specs.Asts.{same_ast_key, root_ast_key}
use Rattle.just_errors.specs.Causes.{Keeps, Reports}
use Rattle.just_names.specs.Texts.{Text}
use Rattle.just_errors.specs.declared.error.Error.{Error}
use Rattle.just_justfile.specs.Closed.{AreClosed, IsRooted}
use Rattle.just_justfile.specs.Running.{CanRun, HaveOwnNumbers, HoldsOverridden}
use Rattle.just_justfile.specs.Walks.{AreModulesOrdered}
use Rattle.just_justfile.specs.declared.justfile.Justfile.{out-Justfile}
use Rattle.just_parts.specs.Evaluator.{Evaluator}
use Rattle.just_parts.specs.Needs.{same_number}
use Rattle.just_names.specs.declared.number.Number.{Number}
use Rattle.just_module_headers.specs.Reading.{reading_of}
use Rattle.just_module_variables.specs.Overrides.{last_of}
use Rattle.just_overrides.specs.Reached.{overrides_meant}
use Rattle.just_loader.specs.Loaded.{IsLoaded}
use Rattle.just_loader.specs.Reached.{World}
use Rattle.just_compiler.specs.Analyzed.{IsAnalyzed}
use Rattle.just_compiler.specs.Readings.{IsReadingOf, Overrides, given_in, root_heading}
use Rattle.just_compiler.specs.Rules.{KeepsAll, MayTell, BreaksCompilation}
use Rattle.just_compiled.specs.Variables.{HaveTables}
use Rattle.just_parts.specs.Items.{Ast}
use Rattle.just_compiler.specs.declared.compilation.Compilation.{Compilation as CompilationOf}

abbrev pub Compilation : Type 0
Compilation = CompilationOf Ast

-- The files are loaded, what they say is held and is a reading of the source map, and the root's module is analyzed, with those in it; each variable has, by its number, the value of the last key that means it.
pub record IsCompilation (evaluator : Evaluator) (overrides : Overrides) (w : World) (c : Compilation) : Type 0 where
  pub loaded : List Text
  pub is_loaded : IsLoaded w (get same_ast_key c.asts) loaded
  pub reading : IsReadingOf w (reading_of w.answers.enabled (get same_ast_key c.asts))
  pub overridden : List (Number × Text)
  pub analyzed : IsAnalyzed (given_in evaluator overrides w) (get same_ast_key c.asts) loaded (root_heading w) c.justfile c.recipes overridden
  pub overrides_are : (n : Number) → get same_number c.overrides n ≡ last_of (overrides_meant c.justfile overrides.entries) n

-- What a compilation answers: no rule is broken, so that none is named, the files are compiled, each recipe that is named is held, each that is held is that of a module that stands in the root, whose path has no names, each variable and function stands under its own name in its module, no two variables of all modules have one number, the root can run with these recipes, each variable that was seen as overridden has a value, the names of modules rise, and the root's file is held; or a rule that is broken, a pattern that is past the limits of regular expressions, or want of memory.
pub record Compiles (evaluator : Evaluator) (overrides : Overrides) (w : World) (result : Result Compilation Error) : Type 0 where
  pub kept : IfOk result (λ _. KeepsAll evaluator overrides w)
  pub unnamed : IfOk result (λ _. Keeps (BreaksCompilation evaluator overrides w))
  pub compiled : IfOk result (IsCompilation evaluator overrides w)
  pub rooted : IfOk result (λ (c : Compilation). IsRooted c.justfile c.recipes)
  pub top : IfOk result (λ (c : Compilation). (out-Justfile c.justfile).module_path.components ≡ [])
  pub all_closed : IfOk result (λ (c : Compilation). AreClosed c.recipes c.justfile)
  pub tables : IfOk result (λ (c : Compilation). HaveTables c.justfile)
  pub numbers : IfOk result (λ (c : Compilation). HaveOwnNumbers c.justfile)
  pub can_run : IfOk result (λ (c : Compilation). CanRun w.answers c.justfile c.recipes)
  pub overridden : IfOk result (λ (c : Compilation). HoldsOverridden c.justfile c.overrides)
  pub modules_ordered : IfOk result (λ (c : Compilation). AreModulesOrdered c.justfile)
  pub root : IfOk result (λ (c : Compilation). c.root ≡ w.root)
  pub root_ast : IfOk result (λ (c : Compilation). IsSome (get same_ast_key c.asts (root_ast_key c.root)))
  pub named : IfErr result (Reports (MayTell evaluator overrides w))
