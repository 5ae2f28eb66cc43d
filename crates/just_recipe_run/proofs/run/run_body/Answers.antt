use Rattle.std.proofs.Common.{sym}
use Rattle.std.specs.Prelude.{flat_map}
use Rattle.just_parts.specs.Scopes.{attribute_expressions, line_expressions, lines_read, in_attributes}
use Rattle.just_run_layers.specs.Covering.{IsCovered, module_of}
use Rattle.just_recipe_body.proofs.AllLemmas.{all-left}
use Rattle.just_recipe_body.proofs.CoveringLemmas.{script-lines}
use Rattle.just_shell_body.proofs.GroupLemmas.{body-groups}
use Rattle.just_recipe_run.proofs.run.run_body.Goals as goal

pub run_script-requires-clause-lines : goal.run_script-requires-clause-lines
run_script-requires-clause-lines g c =
    let b = c.args.body.now in
    script-lines (g.S.Syntax.answers b.syntax.now) b.context.now.settings.now (module_of b.context.now) b.scope.now b.recipe.now (sym c.if-is_script.ensures) c.requires.covered

pub run_shell-requires-clause-attributes : goal.run_shell-requires-clause-attributes
run_shell-requires-clause-attributes g c =
    let b = c.args.body.now in
    all-left (IsCovered (module_of b.context.now) b.scope.now) (in_attributes attribute_expressions b.recipe.now)
    (flat_map line_expressions (lines_read (g.S.Syntax.answers b.syntax.now) b.context.now.settings.now b.recipe.now)) c.requires.covered

pub run_shell-requires-clause-lines : goal.run_shell-requires-clause-lines
run_shell-requires-clause-lines g c =
    let b = c.args.body.now in
    body-groups (g.S.Syntax.answers b.syntax.now) b.context.now.settings.now (module_of b.context.now) b.scope.now b.recipe.now (sym c.if-is_script.ensures) c.requires.covered
