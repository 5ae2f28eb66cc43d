-- What the declaration of a module says of it.
use Rattle.std.specs.Prelude.{Bool, true, false, List, [], ◌∷◌, flat_map, Option, None, Some, option_to_list}
use Rattle.std.specs.List.{list_any}
use Rattle.std.specs.Option.{option_or}
use Rattle.just_names.specs.Texts.{Text}
use Rattle.just_names.specs.declared.name.Name.{Name}
use Rattle.just_parts.specs.Items.{Item}
use Rattle.just_ast_items.specs.declared.item.Item.TheVariants as item
use Rattle.just_ast_definitions.specs.declared.attribute.Attribute.{Attribute}
use Rattle.just_ast_definitions.specs.declared.attribute.Attribute.TheVariants as attribute
use Rattle.just_ast_definitions.specs.declared.attribute.NamedAttribute.{NamedAttribute}
use Rattle.just_ast_expressions.specs.declared.expression.Expression.{Expression}
use Rattle.just_ast_expressions.specs.declared.string_literal.StringLiteral.{StringLiteral}
use Rattle.just_module_contents.specs.declared.labels.Label.{Label}

-- the group that an attribute names
abbrev pub group_in : Attribute Expression → Option StringLiteral
group_in (attribute.Group group) = Some group
group_in _ = None

-- the groups that attributes name
abbrev pub groups_of : List (NamedAttribute Expression) → List StringLiteral
groups_of = flat_map (λ (named : NamedAttribute Expression). option_to_list (group_in named.attribute))

-- the expression of a doc that an attribute names
abbrev pub doc_in : Attribute Expression → Option Expression
doc_in (attribute.Doc expression) = expression
doc_in _ = None

-- that of the first attribute that has one
abbrev pub doc_of : List (NamedAttribute Expression) → Option Expression
doc_of [] = None
doc_of (named ∷ rest) = option_or (doc_in named.attribute) (doc_of rest)

-- the attribute says that a listing leaves it out
abbrev is_private_attribute : Attribute Expression → Bool
is_private_attribute attribute.Private = true
is_private_attribute _ = false

abbrev pub is_private : NamedAttribute Expression → Bool
is_private named = is_private_attribute named.attribute

-- what a declaration with this name, these attributes and this doc says
abbrev pub label_said : Name → List (NamedAttribute Expression) → Option Text → Label
label_said name attributes doc = record { name = Some name; doc = doc; doc_expression = doc_of attributes; groups = groups_of attributes; private = list_any is_private attributes }

-- the label of the module that an item declares
abbrev pub label_by : Item → List Label
label_by (item.Module name relative (Some file) attributes doc optional) = label_said name attributes doc ∷ []
label_by _ = []

-- the expression of the doc of the module that an item declares
abbrev pub doc_by : Item → List Expression
doc_by (item.Module name relative (Some file) attributes doc optional) = option_to_list (doc_of attributes)
doc_by _ = []
