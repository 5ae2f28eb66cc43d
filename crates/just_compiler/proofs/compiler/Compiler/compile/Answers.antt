use Rattle.std.proofs.Common.{◌≡◌, ◌∙◌, false, [], None, IsSome, is_some, refl, sym, ap, subst, rules}
use Rattle.std.specs.HashMap.{get}
use Rattle.just_justfile.specs.Closed.{is_closed, is_ordered}
use Rattle.just_parts.specs.Asts.{root_ast_key, same_ast_key}
use Rattle.just_errors.specs.Causes.{Reports}
use Rattle.just_paths.specs.declared.modulepath.Modulepath.{Modulepath}
use Rattle.just_errors.proofs.Lifts.{lifted}
use Rattle.just_loader.specs.Keys.{BreaksFiles}
use Rattle.just_loader.specs.Reached.{World, world_of}
use Rattle.just_loader.proofs.HeldKeys.{root_held}
use Rattle.just_overrides.specs.Applied.{TellsUnknown}
use Rattle.just_overrides.specs.Reached.{unknown}
use Rattle.just_compiler.specs.Analyzed.{IsAnalyzed}
use Rattle.just_module_tree.specs.Groups.{BreaksModules}
use Rattle.just_module_tree.specs.Standing.{told_in}
use Rattle.just_module_tree.specs.Modules.{heading, label}
use Rattle.just_module_headers.specs.Reading.{reading_of}
use Rattle.just_compiler.specs.Readings.{given_in, root_heading}
use Rattle.just_compiler.specs.Rules.{MayTell, in_files, in_modules}
use Rattle.just_compiler.proofs.Compilations.{all_kept, none_named, put_onto, refused, told}
use Rattle.just_compiler.proofs.Meant.{by_keys, held_meant, is_meant, rooted}
use Rattle.just_compiler.proofs.Readings.{are_analyzable, is_reading}
use Rattle.just_compiler.proofs.Runnable.{can_run}
use Rattle.just_compiler.proofs.compiler.Compiler.compile.Goals as goal

pub returns-in_err-path : goal.returns-in_err-path
returns-in_err-path g c =
    refused (g.E.ConstantEvaluation.answers c.args.evaluation.now) c.args.config.now.overrides (world_of c.args.sources.now c.args.config.now (g.S.Syntax.answers c.args.syntax.now) c.args.root.now) c.from_residual.result (search rules) (search rules)

pub returns-in_err-asts : goal.returns-in_err-asts
returns-in_err-asts g c =
    let w : World = world_of c.args.sources.now c.args.config.now (g.S.Syntax.answers c.args.syntax.now) c.args.root.now in
    refused (g.E.ConstantEvaluation.answers c.args.evaluation.now) c.args.config.now.overrides w c.from_residual-in_err-asts.result (search rules) (lifted (BreaksFiles w) (MayTell (g.E.ConstantEvaluation.answers c.args.evaluation.now) c.args.config.now.overrides w) (λ _ n. in_files n) c.from_residual-in_err-asts.result (let here : Reports (BreaksFiles w) c.in_err-asts.field-0.0 = c.in_err-asts.ensures.named in search (rules, here)))

pub returns-in_err-loaded : goal.returns-in_err-loaded
returns-in_err-loaded g c =
    refused (g.E.ConstantEvaluation.answers c.args.evaluation.now) c.args.config.now.overrides (world_of c.args.sources.now c.args.config.now (g.S.Syntax.answers c.args.syntax.now) c.args.root.now) c.from_residual-in_err-loaded.result (search rules) (search rules)

pub returns-in_err-paths : goal.returns-in_err-paths
returns-in_err-paths g c =
    refused (g.E.ConstantEvaluation.answers c.args.evaluation.now) c.args.config.now.overrides (world_of c.args.sources.now c.args.config.now (g.S.Syntax.answers c.args.syntax.now) c.args.root.now) c.from_residual-in_err-paths.result (search rules) (search rules)

pub analyze-requires-clause-paths : goal.analyze-requires-clause-paths
analyze-requires-clause-paths g c = λ k held. subst (λ o. IsSome o) (sym (c.in_ok-paths.ensures k held)) refl

pub analyze-requires-clause-held : goal.analyze-requires-clause-held
analyze-requires-clause-held g c =
    let w : World = world_of c.args.sources.now c.args.config.now (g.S.Syntax.answers c.args.syntax.now) c.args.root.now in
    let asts = get same_ast_key c.in_ok-asts.field-0.asts in
    let top : c.root-module_path.result ≡ record { components = []; spaced = false } = λ j. record { components = c.root-module_path.ensures.components j; spaced = c.root-module_path.ensures.spaced j } in
    subst (λ o. IsSome o) (sym (ap (λ (m : Modulepath). asts (m, w.root)) top ∙ (root_held w asts c.in_ok-asts.field-0.loaded c.in_ok-asts.ensures.loaded).1)) refl

pub analyze-requires-clause-asts : goal.analyze-requires-clause-asts
analyze-requires-clause-asts g c =
    let w : World = world_of c.args.sources.now c.args.config.now (g.S.Syntax.answers c.args.syntax.now) c.args.root.now in
    are_analyzable w (get same_ast_key c.in_ok-asts.field-0.asts) c.in_ok-asts.field-0.loaded c.in_ok-asts.ensures.loaded

pub returns-in_err-justfile : goal.returns-in_err-justfile
returns-in_err-justfile g c =
    let w : World = world_of c.args.sources.now c.args.config.now (g.S.Syntax.answers c.args.syntax.now) c.args.root.now in
    let asts = get same_ast_key c.in_ok-asts.field-0.asts in
    let reading = reading_of w.answers.enabled asts in
    let top : c.root-module_path.result ≡ record { components = []; spaced = false } = λ j. record { components = c.root-module_path.ensures.components j; spaced = c.root-module_path.ensures.spaced j } in
    refused (g.E.ConstantEvaluation.answers c.args.evaluation.now) c.args.config.now.overrides w c.from_residual-in_err-justfile.result (search rules) (lifted (BreaksModules told_in (given_in (g.E.ConstantEvaluation.answers c.args.evaluation.now) c.args.config.now.overrides w) reading (heading (c.root-module_path.result, c.args.root.now) (label None None [] false))) (MayTell (g.E.ConstantEvaluation.answers c.args.evaluation.now) c.args.config.now.overrides w)
    (λ x n. in_modules reading c.in_ok-asts.ensures.kept (is_reading w asts c.in_ok-asts.field-0.loaded c.in_ok-asts.ensures.loaded) (subst (λ m. BreaksModules told_in (given_in (g.E.ConstantEvaluation.answers c.args.evaluation.now) c.args.config.now.overrides w) reading (heading (m, w.root) (label None None [] false)) x) top n))
    c.from_residual-in_err-justfile.result (search rules))

pub apply_overrides-requires : goal.apply_overrides-requires
apply_overrides-requires g c = is_ordered c.in_ok-justfile.ensures.made.analyzed.closed

pub returns-in_err-apply_overrides : goal.returns-in_err-apply_overrides
returns-in_err-apply_overrides g c =
    let w : World = world_of c.args.sources.now c.args.config.now (g.S.Syntax.answers c.args.syntax.now) c.args.root.now in
    let asts = get same_ast_key c.in_ok-asts.field-0.asts in
    let loaded = c.in_ok-asts.field-0.loaded in
    let top : c.root-module_path.result ≡ record { components = []; spaced = false } = λ j. record { components = c.root-module_path.ensures.components j; spaced = c.root-module_path.ensures.spaced j } in
    let made = c.in_ok-justfile.ensures.made in
    let shared : c.in_ok-loaded.loaded ≡ loaded = c.in_ok-loaded.ensures in
    let analyzed : IsAnalyzed (given_in (g.E.ConstantEvaluation.answers c.args.evaluation.now) c.args.config.now.overrides w) asts loaded (root_heading w) c.in_ok-justfile.justfile c.in_ok-justfile.recipes made.overridden =
    subst (λ l. IsAnalyzed (given_in (g.E.ConstantEvaluation.answers c.args.evaluation.now) c.args.config.now.overrides w) asts l (root_heading w) c.in_ok-justfile.justfile c.in_ok-justfile.recipes made.overridden) shared
    (subst (λ m. IsAnalyzed (given_in (g.E.ConstantEvaluation.answers c.args.evaluation.now) c.args.config.now.overrides w) asts c.in_ok-loaded.loaded (heading (m, w.root) (label None None [] false)) c.in_ok-justfile.justfile c.in_ok-justfile.recipes made.overridden) top made.analyzed) in
    let tells = TellsUnknown (unknown c.in_ok-justfile.justfile c.args.config.now.overrides.entries) in
    let named : Reports tells c.in_err-apply_overrides.field-0.0 = c.in_err-apply_overrides.ensures.named in
    refused (g.E.ConstantEvaluation.answers c.args.evaluation.now) c.args.config.now.overrides w c.from_residual-in_err-apply_overrides.result
    (search (rules, c.from_residual-in_err-apply_overrides.ensures.1, c.from_residual-in_err-apply_overrides.ensures.0))
    (lifted tells (MayTell (g.E.ConstantEvaluation.answers c.args.evaluation.now) c.args.config.now.overrides w)
    (told (g.E.ConstantEvaluation.answers c.args.evaluation.now) c.args.config.now.overrides w asts loaded c.in_ok-asts.ensures.loaded c.in_ok-asts.ensures.kept c.in_ok-justfile.justfile c.in_ok-justfile.recipes made.overridden analyzed)
    c.from_residual-in_err-apply_overrides.result (search (rules, named, c.from_residual-in_err-apply_overrides.ensures.1, c.from_residual-in_err-apply_overrides.ensures.0)))

pub returns : goal.returns
returns g c =
    let w : World = world_of c.args.sources.now c.args.config.now (g.S.Syntax.answers c.args.syntax.now) c.args.root.now in
    let asts = get same_ast_key c.in_ok-asts.field-0.asts in
    let loaded = c.in_ok-asts.field-0.loaded in
    let top : c.root-module_path.result ≡ record { components = []; spaced = false } = λ j. record { components = c.root-module_path.ensures.components j; spaced = c.root-module_path.ensures.spaced j } in
    let made = c.in_ok-justfile.ensures.made in
    let shared : c.in_ok-loaded.loaded ≡ loaded = c.in_ok-loaded.ensures in
    let analyzed : IsAnalyzed (given_in (g.E.ConstantEvaluation.answers c.args.evaluation.now) c.args.config.now.overrides w) asts loaded (root_heading w) c.in_ok-justfile.justfile c.in_ok-justfile.recipes made.overridden =
    subst (λ l. IsAnalyzed (given_in (g.E.ConstantEvaluation.answers c.args.evaluation.now) c.args.config.now.overrides w) asts l (root_heading w) c.in_ok-justfile.justfile c.in_ok-justfile.recipes made.overridden) shared
    (subst (λ m. IsAnalyzed (given_in (g.E.ConstantEvaluation.answers c.args.evaluation.now) c.args.config.now.overrides w) asts c.in_ok-loaded.loaded (heading (m, w.root) (label None None [] false)) c.in_ok-justfile.justfile c.in_ok-justfile.recipes made.overridden) top made.analyzed) in
    let known : unknown c.in_ok-justfile.justfile c.args.config.now.overrides.entries ≡ [] = c.in_ok-apply_overrides.ensures.applied.0 in
    let paths = (are_analyzable w asts loaded c.in_ok-asts.ensures.loaded).paths in
    let evaluator = g.E.ConstantEvaluation.answers c.args.evaluation.now in
    let values = c.args.config.now.overrides in
    record {
      kept = all_kept (g.E.ConstantEvaluation.answers c.args.evaluation.now) c.args.config.now.overrides w asts loaded c.in_ok-asts.ensures.loaded c.in_ok-asts.ensures.kept c.in_ok-justfile.justfile c.in_ok-justfile.recipes made.overridden analyzed known;
      unnamed = none_named (g.E.ConstantEvaluation.answers c.args.evaluation.now) c.args.config.now.overrides w asts loaded c.in_ok-asts.ensures.loaded c.in_ok-asts.ensures.kept c.in_ok-justfile.justfile c.in_ok-justfile.recipes made.overridden analyzed known;
      compiled = record {
        loaded = loaded;
        is_loaded = c.in_ok-asts.ensures.loaded;
        reading = is_reading w asts loaded c.in_ok-asts.ensures.loaded;
        analyzed = analyzed;
        overridden = made.overridden;
        overrides_are = λ n. put_onto _ _ _ _ _ (search rules) (made.added n) (c.in_ok-apply_overrides.ensures.applied.1 n)
            ∙ by_keys _ _ (is_meant evaluator values w asts paths loaded c.in_ok-justfile.justfile c.in_ok-justfile.recipes made.overridden analyzed n);
      };
      top = rooted evaluator values w asts paths loaded c.in_ok-justfile.justfile c.in_ok-justfile.recipes made.overridden analyzed;
      rooted = record { closed = analyzed.closed; placed = analyzed.placed };
      all_closed = analyzed.closed;
      tables = analyzed.tables;
      numbers = analyzed.numbers;
      can_run = can_run evaluator values w asts paths loaded c.in_ok-justfile.justfile c.in_ok-justfile.recipes made.overridden analyzed;
      overridden = λ j n stands has.
          let held = held_meant evaluator values w asts paths loaded c.in_ok-justfile.justfile c.in_ok-justfile.recipes made.overridden analyzed j n stands has in
          ap is_some (put_onto _ _ _ _ _ (search rules) (made.added n) (c.in_ok-apply_overrides.ensures.applied.1 n)
          ∙ (by_keys _ _ (is_meant evaluator values w asts paths loaded c.in_ok-justfile.justfile c.in_ok-justfile.recipes made.overridden analyzed n) ∙ held.1));
      modules_ordered = is_ordered analyzed.closed;
      root = c.in_ok-path.ensures;
      root_ast = subst (λ r. IsSome (asts (root_ast_key r))) (sym c.in_ok-path.ensures) (subst (λ o. IsSome o) (sym (root_held w asts loaded c.in_ok-asts.ensures.loaded).1) refl);
      named = tt;
    }
