use Rattle.std.proofs.Common.{Some, rules, subst, sym}
use Rattle.just_module_variables.proofs.Tabled.{variables_had}
use Rattle.just_module_contents.specs.Defaults.{IsDefaultAmong}
use Rattle.just_module_contents.specs.Definitions.{contents_in, recipes_in}
use Rattle.just_module_contents.specs.Named.{recipes_by}
use Rattle.just_parts.specs.Layers.{given_by, layers_at}
use Rattle.just_compiler.specs.loops.Parts.{AreLinkedIn, around_by}
use Rattle.just_compiler.proofs.modules.analyze_checked.Goals as goal

pub returns-in_err-append-clause-named : goal.returns-in_err-append-clause-named
returns-in_err-append-clause-named g c = search (rules, c.from_residual.ensures.1, c.from_residual.ensures.0)

pub returns-clause-analyzed : goal.returns-clause-analyzed
returns-clause-analyzed g c =
    let checked = c.args.checked in
    let answers = g.S.Syntax.answers c.args.given.now.syntax.now in
    let layers = layers_at (given_by g.S.Syntax.answers g.E.ConstantEvaluation.answers c.args.given.now) c.args.ast.now.module_path in
    let is = c.in_ok-justfile.ensures in
    let made = c.in_ok-own.ensures in
    record {
      kept = made.kept;
      standing = recipes_in c.in_ok-own.own.standing;
      linked = subst (λ d. AreLinkedIn layers checked (around_by c.args.surroundings c.args.gathered.recipes) c.args.ast.now.module_path (recipes_in c.in_ok-own.own.standing) d c.in_ok-own.recipes) (sym is.disabled) made.linked;
      overridden = search rules;
      fields = is.fields;
      default = subst (IsDefaultAmong (recipes_in c.in_ok-own.own.standing) (recipes_by answers.enabled (Some c.args.ast.now))) (sym is.default) made.default;
      settings = is.settings;
      own_overrides = is.overridden;
      assignments = is.assignments;
      functions = is.functions;
      variables = variables_had answers (contents_in checked.definitions) checked.variables.assignments checked.variables.functions checked.variables.evaluation_order c.requires.variables _ _ _ is.assignments is.functions is.evaluation_order;
      modules = is.modules;
      notes = is.notes;
    }
