-- A recipe whose expressions have the numbers of what the names in them mean.
use Rattle.std.specs.Prelude.{Bool, true, ◌&&◌, List, [], ◌∷◌, ◌++◌, map, Option, None, Some, if◌then◌else◌}
use Rattle.std.specs.HashMap.{get}
use Rattle.std.specs.Option.{option_map, option_or}
use Rattle.std.specs.Str.{bytes_eq}
use Rattle.just_names.specs.Texts.{Text}
use Rattle.just_names.specs.Name.{text_of_name}
use Rattle.just_names.specs.declared.number.Number.{Number}
use Rattle.just_ast_definitions.specs.declared.attribute.ArgumentAttribute.{ArgumentAttribute}
use Rattle.just_ast_definitions.specs.declared.attribute.ArgumentProperty.{ArgumentProperty}
use Rattle.just_ast_definitions.specs.declared.attribute.Attribute.{Attribute}
use Rattle.just_ast_definitions.specs.declared.attribute.Attribute.TheVariants as attribute
use Rattle.just_ast_definitions.specs.declared.attribute.CacheAttribute.{CacheAttribute}
use Rattle.just_ast_definitions.specs.declared.attribute.EnvironmentAttribute.{EnvironmentAttribute}
use Rattle.just_ast_definitions.specs.declared.attribute.NamedAttribute.{NamedAttribute}
use Rattle.just_ast_definitions.specs.declared.line.Fragment.{Fragment}
use Rattle.just_ast_definitions.specs.declared.line.Fragment.TheVariants as fragment
use Rattle.just_ast_definitions.specs.declared.line.Line.{Line}
use Rattle.just_ast_definitions.specs.declared.parameter.Parameter.{Parameter}
use Rattle.just_ast_expressions.specs.declared.expression.Expression.{Expression}
use Rattle.just_ast_expressions.specs.declared.settings.Settings.{Settings}
use Rattle.just_ast_references.specs.Numbers.{with_numbers}
use Rattle.just_parts.specs.Groups.{ends_group}
use Rattle.just_recipe_names.specs.declared.numbers.Meanings.{Meanings}
use Rattle.just_parts.specs.Syntax.{SyntaxAnswers}
use Rattle.just_recipe.specs.Script.{is_script}
use Rattle.just_recipe.specs.declared.dependency.DependencyArgument.{DependencyArgument}
use Rattle.just_recipe.specs.declared.dependency.UnresolvedDependency.{UnresolvedDependency}
use Rattle.just_recipe.specs.declared.recipe.Recipe.{Recipe}

-- the number of the last parameter of a name
abbrev pub parameter_number : List Parameter → Text → Option Number
parameter_number [] name = None
parameter_number (p ∷ ps) name = option_or (parameter_number ps name) (if bytes_eq (text_of_name p.name) name then Some p.number else None)

-- the number of what a name means under parameters: of the parameter, else of the variable, else of the constant
abbrev pub number_under : (Text → Option Number) → SyntaxAnswers → List Parameter → Text → Option Number
number_under variable answers parameters name = option_or (parameter_number parameters name) (option_or (variable name) (answers.constant name))

-- what has other expressions
module _ (by : Expression → Expression) where
  abbrev pub property_by : ArgumentProperty Expression → ArgumentProperty Expression
  property_by p = record p { value = by p.value }

  abbrev pub argument_by : ArgumentAttribute Expression → ArgumentAttribute Expression
  argument_by a = record a { help_property = option_map property_by a.help_property; pattern_property = option_map property_by a.pattern_property }

  abbrev pub environment_by : EnvironmentAttribute Expression → EnvironmentAttribute Expression
  environment_by e = record e { name = by e.name; value = by e.value }

  abbrev pub cache_by : CacheAttribute Expression → CacheAttribute Expression
  cache_by c = record c { extra = option_map by c.extra; inputs = option_map by c.inputs; outputs = option_map by c.outputs }

  abbrev pub fragment_by : Fragment → Fragment
  fragment_by (fragment.Text token) = fragment.Text token
  fragment_by (fragment.Interpolation e) = fragment.Interpolation (by e)

  abbrev pub line_by : Line → Line
  line_by line = record line { fragments = map fragment_by line.fragments }

  -- the lines of a shell body, where the first begins a group or not: a comment that is skipped stays as it is
  abbrev pub shell_lines_by : SyntaxAnswers → Settings → Bool → List Line → List Line
  shell_lines_by answers settings begins [] = []
  shell_lines_by answers settings begins (line ∷ lines) =
      (if begins && (settings.ignore_comments && answers.is_comment line) then line else line_by line)
      ∷ shell_lines_by answers settings (ends_group answers settings line begins) lines

  abbrev pub argument_given_by : DependencyArgument → DependencyArgument
  argument_given_by a = record a { expression = by a.expression }

  abbrev pub dependency_by : UnresolvedDependency → UnresolvedDependency
  dependency_by d = record d { arguments = map argument_given_by d.arguments }

  abbrev pub parameter_by : Parameter → Parameter
  parameter_by p = record p { default = option_map by p.default; value = option_map by p.value }

-- an attribute: a doc, a help, a pattern and the environment by one, all else by another
abbrev pub attribute_by : (Expression → Expression) → (Expression → Expression) → Attribute Expression → Attribute Expression
attribute_by outer inner (attribute.Arg a) = attribute.Arg (argument_by outer a)
attribute_by outer inner (attribute.Doc e) = attribute.Doc (option_map outer e)
attribute_by outer inner (attribute.Env e) = attribute.Env (environment_by outer e)
attribute_by outer inner (attribute.Cache c) = attribute.Cache (cache_by inner c)
attribute_by outer inner (attribute.Confirm e) = attribute.Confirm (option_map inner e)
attribute_by outer inner (attribute.Timestamp e) = attribute.Timestamp (option_map inner e)
attribute_by outer inner (attribute.WorkingDirectory e) = attribute.WorkingDirectory (inner e)
attribute_by outer inner other = other

abbrev pub attribute_with : (Expression → Expression) → (Expression → Expression) → NamedAttribute Expression → NamedAttribute Expression
attribute_with outer inner named = record named { attribute = attribute_by outer inner named.attribute }

-- expressions whose names have the numbers of what they mean under parameters
module _ (number : List Parameter → Text → Option Number) where
  abbrev pub under_parameters : List Parameter → Expression → Expression
  under_parameters parameters = with_numbers (number parameters)

  -- each parameter under those before it
  abbrev pub numbered_parameters : List Parameter → List Parameter → List Parameter
  numbered_parameters before [] = []
  numbered_parameters before (p ∷ ps) = parameter_by (under_parameters before) p ∷ numbered_parameters (before ++ p ∷ []) ps

  -- all lines of a script, and those of a shell body that are read
  abbrev pub numbered_body : {D : Type 0} → SyntaxAnswers → Settings → Recipe D → List Line
  numbered_body answers settings r =
      if is_script r settings then map (line_by (under_parameters r.parameters)) r.body else shell_lines_by (under_parameters r.parameters) answers settings true r.body

-- The recipe as it is, but that the names in whatever it reads have the numbers of what they mean there. The comments that are skipped are not read, and stay as they are.
abbrev pub numbered_recipe : (Text → Option Number) → SyntaxAnswers → Settings → Recipe UnresolvedDependency → Recipe UnresolvedDependency
numbered_recipe variable answers settings r =
    let number = number_under variable answers in
    record r {
      attributes = map (attribute_with (under_parameters number []) (under_parameters number r.parameters)) r.attributes;
      body = numbered_body number answers settings r;
      dependencies = map (dependency_by (under_parameters number r.parameters)) r.dependencies;
      parameters = numbered_parameters number [] r.parameters;
    }

-- so it is by what the names of its module mean
abbrev pub numbered_by : {A : Type 0} → SyntaxAnswers → Meanings A → Recipe UnresolvedDependency → Recipe UnresolvedDependency
numbered_by answers it = numbered_recipe (get bytes_eq it.bindings.now) answers it.settings.now
