-- Which recipes are scripts.
use Rattle.std.specs.Prelude.{Bool, true, false, ◌||◌, ◌&&◌, not}
use Rattle.std.specs.List.{list_any}
use Rattle.just_ast_definitions.specs.declared.attribute.Attribute.{Attribute}
use Rattle.just_ast_definitions.specs.declared.attribute.Attribute.TheVariants as attribute
use Rattle.just_ast_definitions.specs.declared.attribute.NamedAttribute.{NamedAttribute}
use Rattle.just_ast_expressions.specs.declared.settings.Settings.{Settings}
use Rattle.just_recipe.specs.declared.recipe.Recipe.{Recipe}

-- the attribute says that it is none
abbrev pub says_shell : {E : Type 0} → Attribute E → Bool
says_shell attribute.Shell = true
says_shell _ = false

abbrev pub is_shell : {E : Type 0} → NamedAttribute E → Bool
is_shell named = says_shell named.attribute

-- no attribute says that it is none, and the text or the settings say that it is one
abbrev pub is_script : {D : Type 0} → Recipe D → Settings → Bool
is_script recipe settings = not (list_any is_shell recipe.attributes) && (recipe.shebang || settings.default_script)
