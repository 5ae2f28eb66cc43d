-- What is bound of what a body reads.
use Rattle.std.specs.Prelude.{◌++◌, flat_map}
use Rattle.std.specs.List.{All}
use Rattle.just_ast_definitions.specs.declared.line.Line.{Line}
use Rattle.just_ast_expressions.specs.declared.scope.Scope.{Scope}
use Rattle.just_ast_expressions.specs.declared.settings.Settings.{Settings}
use Rattle.just_parts.specs.Known.{Known}
use Rattle.just_parts.specs.Scopes.{attribute_expressions, line_expressions, lines_read, in_attributes}
use Rattle.just_parts.specs.Syntax.{SyntaxAnswers}
use Rattle.just_recipe.specs.declared.recipe.Recipe.{Recipe}
use Rattle.just_run_layers.specs.Covering.{IsCovered}

-- Whatever the attributes of a recipe and the lines that are read have is bound in a scope, under the settings of its module.
abbrev pub IsBodyCovered : {D : Type 0} → SyntaxAnswers → Settings → Known → Scope → Recipe D → Type 0
IsBodyCovered syntax settings known scope r =
    All (IsCovered known scope) (in_attributes attribute_expressions r ++ flat_map line_expressions (lines_read syntax settings r))

-- for the private functions: what a line reads is bound
abbrev pub IsLineCovered : Known → Scope → Line → Type 0
IsLineCovered known scope line = All (IsCovered known scope) (line_expressions line)
