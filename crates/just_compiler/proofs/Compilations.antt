-- A compilation, and a refusal.
use Rattle.std.proofs.Common.{◌≡◌, ◌∙◌, List, [], None, Option, Result, Some, Ok, Err, IfOk, IfErr, refl, sym, ap, subst}
use Rattle.std.specs.Map.{keys_of}
use Rattle.std.specs.Option.{option_or}
use Rattle.just_parts.specs.Asts.{AstKey}
use Rattle.just_errors.specs.Causes.{Cause, Keeps, Reports}
use Rattle.just_names.specs.Texts.{Text}
use Rattle.just_recipe.specs.declared.dependency.Dependency.{Dependency}
use Rattle.just_parts.specs.Items.{Ast}
use Rattle.just_errors.specs.declared.error.Error.{Error}
use Rattle.just_recipe.specs.declared.recipe.Recipe.{Recipe}
use Rattle.just_justfile.specs.declared.justfile.Justfile.{Justfile}
use Rattle.just_parts.specs.Evaluator.{Evaluator}
use Rattle.just_names.specs.declared.number.Number.{Number}
use Rattle.just_loader.specs.Keys.{BreaksFiles}
use Rattle.just_loader.specs.Loaded.{IsLoaded}
use Rattle.just_loader.specs.Reached.{World}
use Rattle.just_loader.proofs.HeldKeys.{root_held}
use Rattle.just_compiler.specs.Analyzed.{IsAnalyzed}
use Rattle.just_module_headers.specs.Reading.{reading_of}
use Rattle.just_module_tree.proofs.Agreeing.{agreeing_forests, agreeing_kept, agreeing_unnamed}
use Rattle.just_module_tree.specs.Modules.{Empty, Forest, Tree}
use Rattle.just_module_tree.specs.Overrides.{BreaksOverrides}
use Rattle.just_overrides.proofs.Ruling.{none_broken, tells_broken}
use Rattle.just_overrides.specs.Applied.{TellsUnknown}
use Rattle.just_overrides.specs.Reached.{unknown}
use Rattle.just_compiler.specs.Compiled.{Compilation, Compiles}
use Rattle.just_compiler.specs.Readings.{Overrides, given_in, root_heading}
use Rattle.just_compiler.specs.Rules.{KeepsAll, MayTell, BreaksCompilation, in_files, in_modules, in_overrides}
use Rattle.just_compiler.proofs.Readings.{are_analyzable, is_reading, readings_agree}

module _ (evaluator : Evaluator) (overrides : Overrides) (w : World) (asts : AstKey → Option Ast) (loaded : List Text) (is : IsLoaded w asts loaded) (files : Keeps (BreaksFiles w)) (justfile : Justfile) (recipes : List (Recipe Dependency)) (overridden : List (Number × Text))
    (analyzed : IsAnalyzed (given_in evaluator overrides w) asts loaded (root_heading w) justfile recipes overridden) where
  abbrev forest : Forest
  forest = Tree analyzed.m analyzed.inside Empty

  -- keys that are told break the rule of overrides
  pub told : (c : Cause) → TellsUnknown (unknown justfile overrides.entries) c → MayTell evaluator overrides w c
  told c tells =
      in_overrides (reading_of w.answers.enabled asts) forest files (is_reading w asts loaded is) analyzed.are_modules analyzed.kept
      (tells_broken (given_in evaluator overrides w) asts loaded analyzed.built (root_heading w) refl analyzed.m analyzed.inside analyzed.are_modules analyzed.kept recipes justfile analyzed.compiled analyzed.closed overrides.entries c tells)

  module _ (known : unknown justfile overrides.entries ≡ []) where
    none_unknown : Keeps (BreaksOverrides (keys_of overrides.entries) forest)
    none_unknown =
        none_broken (given_in evaluator overrides w) asts loaded analyzed.built (root_heading w) refl analyzed.m analyzed.inside analyzed.are_modules analyzed.kept recipes justfile analyzed.compiled analyzed.closed overrides.entries known

    -- where the analysis succeeds and all keys are known, no rule is broken
    pub all_kept : KeepsAll evaluator overrides w
    all_kept = record {
      files = files;
      modules = λ R f reads are. agreeing_kept w.answers.enabled asts (are_analyzable w asts loaded is) (given_in evaluator overrides w) R (readings_agree w asts loaded is R reads) (root_heading w) (root_held w asts loaded is) _ analyzed.are_modules analyzed.kept f are;
      overridden = λ R f reads are. subst (λ g. Keeps (BreaksOverrides (keys_of overrides.entries) g))
          (agreeing_forests w.answers.enabled asts (are_analyzable w asts loaded is) (given_in evaluator overrides w) R (readings_agree w asts loaded is R reads) (root_heading w) (root_held w asts loaded is) _ analyzed.are_modules analyzed.kept f are)
          none_unknown;
    }

    -- and none is named
    pub none_named : Keeps (BreaksCompilation evaluator overrides w)
    none_named c (in_files n) = files c n
    none_named c (in_modules R kept reads n) =
        agreeing_unnamed w.answers.enabled asts (are_analyzable w asts loaded is) (given_in evaluator overrides w) R (readings_agree w asts loaded is R reads) (root_heading w) (root_held w asts loaded is) _ analyzed.are_modules analyzed.kept c n
    none_named c (in_overrides R f kept reads are keeps b) =
        none_unknown c (subst (λ g. BreaksOverrides (keys_of overrides.entries) g c)
        (sym (agreeing_forests w.answers.enabled asts (are_analyzable w asts loaded is) (given_in evaluator overrides w) R (readings_agree w asts loaded is R reads) (root_heading w) (root_held w asts loaded is) _ analyzed.are_modules analyzed.kept f are)) b)

-- a refusal that is named
pub refused : (evaluator : Evaluator) (overrides : Overrides) (w : World) (r : Result Compilation Error) → IfOk r (λ _. ⊥) → IfErr r (Reports (MayTell evaluator overrides w)) → Compiles evaluator overrides w r
refused evaluator overrides w (Ok c) none h = absurd none
refused evaluator overrides w (Err e) none h = record {
  kept = tt;
  unnamed = tt;
  compiled = tt;
  rooted = tt;
  top = tt;
  all_closed = tt;
  tables = tt;
  numbers = tt;
  can_run = tt;
  overridden = tt;
  modules_ordered = tt;
  root = tt;
  root_ast = tt;
  named = h;
}

-- what is put into nothing is all that is there
put_in_none : (last put old : Option Text) → old ≡ None → put ≡ option_or last old → put ≡ last
put_in_none None put old none e = e ∙ none
put_in_none (Some text) put old none e = e

-- and what is put onto that
pub put_onto : (given last put first old : Option Text) → old ≡ None → first ≡ option_or last old → put ≡ option_or given first → put ≡ option_or given last
put_onto given last put first old none e f = f ∙ ap (option_or given) (put_in_none last first old none e)
