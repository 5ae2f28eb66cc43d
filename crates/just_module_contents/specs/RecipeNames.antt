-- The rule of the names in what a recipe reads.
use Rattle.std.specs.Prelude.{List}
use Rattle.std.specs.List.{Contains}
use Rattle.just_errors.specs.Causes.{Cause}
use Rattle.just_ast_expressions.specs.declared.settings.Settings.{Settings}
use Rattle.just_names.specs.Texts.{Text}
use Rattle.just_parts.specs.Known.{Known}
use Rattle.just_parts.specs.Misnaming.{Misnames}
use Rattle.just_parts.specs.Scopes.{Scoped, scopes_of}
use Rattle.just_parts.specs.Syntax.{SyntaxAnswers}
use Rattle.just_recipe.specs.declared.dependency.UnresolvedDependency.{UnresolvedDependency}
use Rattle.just_recipe.specs.declared.recipe.Recipe.{Recipe}

-- whatever a recipe reads, as a text says it
abbrev pub written_scopes : SyntaxAnswers → Settings → Recipe UnresolvedDependency → List Scoped
written_scopes = scopes_of (λ (d : UnresolvedDependency). d.arguments)

-- A name is at fault in one of the expressions that a recipe reads, under the parameters that hide names there.
pub record BreaksRecipeNames (answers : SyntaxAnswers) (m : Known) (settings : Settings) (r : Recipe UnresolvedDependency) (c : Cause) : Type 0 where
  pub from : Scoped
  pub there : Contains (written_scopes answers settings r) from
  pub wrong : Misnames m from.hidden from.expression c
