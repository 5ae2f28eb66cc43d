-- Expressions in their scopes, and those that a recipe reads.
use Rattle.std.specs.Prelude.{Bool, true, not, ◌&&◌, List, [], ◌∷◌, ◌++◌, map, flat_map, Option, None, Some, option_to_list, if◌then◌else◌}
use Rattle.std.specs.List.{list_any}
use Rattle.std.specs.Str.{bytes_eq}
use Rattle.just_names.specs.Name.{text_of_name}
use Rattle.just_names.specs.Texts.{Text}
use Rattle.just_ast_definitions.specs.declared.attribute.ArgumentProperty.{ArgumentProperty}
use Rattle.just_ast_definitions.specs.declared.attribute.Attribute.{Attribute}
use Rattle.just_ast_definitions.specs.declared.attribute.Attribute.TheVariants as attribute
use Rattle.just_ast_definitions.specs.declared.attribute.NamedAttribute.{NamedAttribute}
use Rattle.just_ast_definitions.specs.declared.line.Fragment.{Fragment}
use Rattle.just_ast_definitions.specs.declared.line.Fragment.TheVariants as fragment
use Rattle.just_ast_definitions.specs.declared.line.Line.{Line}
use Rattle.just_ast_definitions.specs.declared.parameter.Parameter.{Parameter}
use Rattle.just_ast_expressions.specs.declared.expression.Expression.{Expression}
use Rattle.just_ast_expressions.specs.declared.settings.Settings.{Settings}
use Rattle.just_parts.specs.Groups.{ends_group}
use Rattle.just_parts.specs.Known.{none_hidden}
use Rattle.just_parts.specs.Syntax.{SyntaxAnswers}
use Rattle.just_recipe.specs.Script.{is_script}
use Rattle.just_recipe.specs.declared.dependency.DependencyArgument.{DependencyArgument}
use Rattle.just_recipe.specs.declared.recipe.Recipe.{Recipe}

-- An expression, and which names are hidden in its scope.
pub record Scoped : Type 0 where
  pub hidden : Text → Bool
  pub expression : Expression

abbrev pub scoped : (Text → Bool) → Expression → Scoped
scoped hidden expression = record { hidden = hidden; expression = expression }

-- the expression of a property
abbrev pub property_expressions : Option (ArgumentProperty Expression) → List Expression
property_expressions None = []
property_expressions (Some p) = p.value ∷ []

-- what an attribute has that is evaluated while compiling: a doc, a help and a pattern
abbrev pub compiled_expressions : Attribute Expression → List Expression
compiled_expressions (attribute.Arg a) = property_expressions a.help_property ++ property_expressions a.pattern_property
compiled_expressions (attribute.Doc e) = option_to_list e
compiled_expressions _ = []

-- what it puts into the environment
abbrev pub environment_expressions : Attribute Expression → List Expression
environment_expressions (attribute.Env e) = e.name ∷ e.value ∷ []
environment_expressions _ = []

-- what else of it is evaluated in a run
abbrev pub attribute_expressions : Attribute Expression → List Expression
attribute_expressions (attribute.Cache c) = option_to_list c.extra ++ (option_to_list c.inputs ++ option_to_list c.outputs)
attribute_expressions (attribute.Confirm e) = option_to_list e
attribute_expressions (attribute.Timestamp e) = option_to_list e
attribute_expressions (attribute.WorkingDirectory e) = e ∷ []
attribute_expressions _ = []

-- the default and the value of a parameter
abbrev pub parameter_expressions : Parameter → List Expression
parameter_expressions p = option_to_list p.default ++ option_to_list p.value

abbrev pub fragment_expressions : Fragment → List Expression
fragment_expressions (fragment.Text token) = []
fragment_expressions (fragment.Interpolation e) = e ∷ []

abbrev pub line_expressions : Line → List Expression
line_expressions line = flat_map fragment_expressions line.fragments

-- the lines of a shell body that are read, where the first begins a group or not: a comment that begins a group is skipped where comments are ignored
abbrev pub read_lines : SyntaxAnswers → Settings → Bool → List Line → List Line
read_lines answers settings begins [] = []
read_lines answers settings begins (line ∷ lines) =
    (if begins && (settings.ignore_comments && answers.is_comment line) then [] else line ∷ []) ++ read_lines answers settings (ends_group answers settings line begins) lines

-- a parameter has the name
abbrev pub is_parameter : List Parameter → Text → Bool
is_parameter parameters name = list_any (λ (p : Parameter). bytes_eq (text_of_name p.name) name) parameters

-- the defaults and values of parameters, each under the parameters before it
abbrev pub parameter_scopes : List Parameter → List Parameter → List Scoped
parameter_scopes before [] = []
parameter_scopes before (p ∷ ps) = map (scoped (is_parameter before)) (parameter_expressions p) ++ parameter_scopes (before ++ p ∷ []) ps

module _ {D : Type 0} where
  -- all that attributes have of a kind
  abbrev pub in_attributes : (Attribute Expression → List Expression) → Recipe D → List Expression
  in_attributes has r = flat_map (λ (named : NamedAttribute Expression). has named.attribute) r.attributes

  -- all lines of a script, and those of a shell body that are read
  abbrev pub lines_read : SyntaxAnswers → Settings → Recipe D → List Line
  lines_read answers settings r = if is_script r settings then r.body else read_lines answers settings true r.body

  -- what is evaluated where all parameters are known: attributes, lines, and the arguments of dependencies
  abbrev pub inner_expressions : (D → List DependencyArgument) → SyntaxAnswers → Settings → Recipe D → List Expression
  inner_expressions arguments answers settings r =
      in_attributes attribute_expressions r
      ++ (flat_map line_expressions (lines_read answers settings r) ++ flat_map (λ (d : D). map (λ (a : DependencyArgument). a.expression) (arguments d)) r.dependencies)

  -- Whatever a recipe reads, under the settings of its module: docs, helps, patterns and the environment see no parameters; a parameter sees those before it; all else sees all of them.
  abbrev pub scopes_of : (D → List DependencyArgument) → SyntaxAnswers → Settings → Recipe D → List Scoped
  scopes_of arguments answers settings r =
      map (scoped none_hidden) (in_attributes compiled_expressions r ++ in_attributes environment_expressions r)
      ++ (parameter_scopes [] r.parameters ++ map (scoped (is_parameter r.parameters)) (inner_expressions arguments answers settings r))
