-- What is bound for a body is bound for its lines.
use Rattle.std.proofs.Common.{◌≡◌, true, List, [], ◌∷◌, subst, All}
use Rattle.std.specs.Prelude.{flat_map, if◌then◌else◌}
use Rattle.std.proofs.lemmas.List.Elements.{All-cons, All-nil}
use Rattle.just_ast_definitions.specs.declared.line.Line.{Line}
use Rattle.just_ast_expressions.specs.declared.scope.Scope.{Scope}
use Rattle.just_ast_expressions.specs.declared.settings.Settings.{Settings}
use Rattle.just_parts.specs.Known.{Known}
use Rattle.just_parts.specs.Scopes.{attribute_expressions, line_expressions, lines_read, in_attributes, read_lines}
use Rattle.just_parts.specs.Syntax.{SyntaxAnswers}
use Rattle.just_run_layers.specs.Covering.{IsCovered}
use Rattle.just_recipe.specs.Script.{is_script}
use Rattle.just_recipe.specs.declared.recipe.Recipe.{Recipe}
use Rattle.just_recipe_body.specs.Covering.{IsBodyCovered, IsLineCovered}
use Rattle.just_recipe_body.proofs.AllLemmas.{all-left, all-right}

module _ (known : Known) (scope : Scope) where
  pub lines-covered : (ls : List Line) → All (IsCovered known scope) (flat_map line_expressions ls) → All (IsLineCovered known scope) ls
  lines-covered [] h = All-nil (IsLineCovered known scope)
  lines-covered (l ∷ ls) h =
      All-cons (IsLineCovered known scope) l ls
      (all-left (IsCovered known scope) (line_expressions l) (flat_map line_expressions ls) h)
      (lines-covered ls (all-right (IsCovered known scope) (line_expressions l) (flat_map line_expressions ls) h))

-- the lines of a script
pub script-lines : {D : Type 0} (syntax : SyntaxAnswers) (settings : Settings) (known : Known) (scope : Scope) (r : Recipe D) → is_script r settings ≡ true → IsBodyCovered syntax settings known scope r → All (IsLineCovered known scope) r.body
script-lines syntax settings known scope r s h =
    lines-covered known scope r.body
    (subst (λ k. All (IsCovered known scope) (flat_map line_expressions (if k then r.body else read_lines syntax settings true r.body))) s
    (all-right (IsCovered known scope) (in_attributes attribute_expressions r) (flat_map line_expressions (lines_read syntax settings r)) h))
