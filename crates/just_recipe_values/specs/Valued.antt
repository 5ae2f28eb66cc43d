-- A recipe with what its doc, helps and patterns come to.
use Rattle.std.specs.Prelude.{List, [], ◌∷◌, codes, map, Option, None, Some, if◌then◌else◌}
use Rattle.std.specs.Option.{option_and_then, option_or}
use Rattle.std.specs.Str.{bytes_eq, trim}
use Rattle.just_names.specs.Name.{text_of_name}
use Rattle.just_names.specs.Texts.{Text, joined}
use Rattle.just_ast_definitions.specs.declared.attribute.ArgumentAttribute.{ArgumentAttribute}
use Rattle.just_ast_definitions.specs.declared.attribute.Attribute.{Attribute}
use Rattle.just_ast_definitions.specs.declared.attribute.Attribute.TheVariants as attribute
use Rattle.just_ast_definitions.specs.declared.attribute.NamedAttribute.{NamedAttribute}
use Rattle.just_ast_definitions.specs.declared.parameter.Parameter.{Parameter}
use Rattle.just_ast_expressions.specs.declared.expression.Expression.{Expression}
use Rattle.just_module_contents.specs.RecipeValues.{text_said}
use Rattle.just_recipe.specs.declared.recipe.Recipe.{Recipe}

-- the doc that a value is: its texts with a blank between them, without the white space at the ends; none where nothing is left
abbrev pub doc_of_text : Text → Option Text
doc_of_text [] = None
doc_of_text (byte ∷ bytes) = Some (byte ∷ bytes)

abbrev pub doc_of_value : List Text → Option Text
doc_of_value texts = doc_of_text (trim (joined (codes " ") texts))

-- what attributes say last of a parameter
abbrev pub help_by : Attribute Expression → Text → Option Text
help_by (attribute.Arg a) name = if bytes_eq a.name.cooked name then a.help else None
help_by _ name = None

abbrev pub last_help : List (NamedAttribute Expression) → Text → Option Text
last_help [] name = None
last_help (named ∷ rest) name = option_or (last_help rest name) (help_by named.attribute name)

abbrev pub pattern_by : Attribute Expression → Text → Option Text
pattern_by (attribute.Arg a) name = if bytes_eq a.name.cooked name then a.pattern else None
pattern_by _ name = None

abbrev pub last_pattern : List (NamedAttribute Expression) → Text → Option Text
last_pattern [] name = None
last_pattern (named ∷ rest) name = option_or (last_pattern rest name) (pattern_by named.attribute name)

-- a parameter with the help and the pattern that attributes say last of it
abbrev pub informed : List (NamedAttribute Expression) → Parameter → Parameter
informed attributes p = record p { help = option_or (last_help attributes (text_of_name p.name)) p.help; pattern = option_or (last_pattern attributes (text_of_name p.name)) p.pattern }

-- expressions may have values
module _ (value : Expression → Option (List Text)) where
  -- what an attribute says of a parameter, with the help and the pattern that its properties come to
  abbrev pub valued_argument : ArgumentAttribute Expression → ArgumentAttribute Expression
  valued_argument a = record a { help = option_or (option_and_then (text_said value) a.help_property) a.help; pattern = option_or (option_and_then (text_said value) a.pattern_property) a.pattern }

  abbrev pub valued_attribute : Attribute Expression → Attribute Expression
  valued_attribute (attribute.Arg a) = attribute.Arg (valued_argument a)
  valued_attribute other = other

  abbrev pub valued_named : NamedAttribute Expression → NamedAttribute Expression
  valued_named named = record named { attribute = valued_attribute named.attribute }

  -- the doc after an attribute: what its expression comes to, where it is a doc that has one
  abbrev pub doc_after : Attribute Expression → Option Text → Option Text
  doc_after (attribute.Doc (Some e)) doc = option_and_then doc_of_value (value e)
  doc_after _ doc = doc

  abbrev pub last_doc : List (NamedAttribute Expression) → Option Text → Option Text
  last_doc [] doc = doc
  last_doc (named ∷ rest) doc = last_doc rest (doc_after named.attribute doc)

  -- The recipe with its attributes, its doc and its parameters so.
  abbrev pub with_values : {D : Type 0} → Recipe D → Recipe D
  with_values r = record r {
    attributes = map valued_named r.attributes;
    doc = last_doc r.attributes r.doc;
    parameters = map (informed (map valued_named r.attributes)) r.parameters;
  }
