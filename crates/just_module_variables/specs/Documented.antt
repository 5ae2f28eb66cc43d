-- What the declarations of modules say, with their docs evaluated.
use Rattle.std.specs.Prelude.{◌≡◌, List, [], ◌∷◌, flat_map, Option, None, Some, option_to_list}
use Rattle.just_names.specs.Texts.{Text}
use Rattle.just_parts.specs.Evaluator.{Evaluator, Values}
use Rattle.just_module_contents.specs.declared.labels.Label.{Label}
use Rattle.just_module_contents.specs.Constants.{text_of_value, value_among}
use Rattle.just_module_contents.specs.Contents.{Contents}
use Rattle.just_ast_expressions.specs.declared.expression.Expression.{Expression}

-- the doc of a declaration, as expressions have values: what its expression comes to, or what is said where it has none
abbrev pub HasDoc : (Expression → Option (List Text)) → Option Text → Option Expression → Option Text → Type 0
HasDoc value said None doc = doc ≡ said
HasDoc value said (Some e) doc = (texts : List Text) × (value e ≡ Some texts) × (doc ≡ text_of_value texts)

-- A label with the doc evaluated.
pub record IsDocumented (value : Expression → Option (List Text)) (said made : Label) : Type 0 where
  pub name : made.name ≡ said.name
  pub groups : made.groups ≡ said.groups
  pub private : made.private ≡ said.private
  pub doc : HasDoc value said.doc said.doc_expression made.doc

-- labels with the docs evaluated, one for each
abbrev pub AreDocumented : (Expression → Option (List Text)) → List Label → List Label → Type 0
AreDocumented value [] made = made ≡ []
AreDocumented value (label ∷ labels) made = (first : Label) × (rest : List Label) × (made ≡ first ∷ rest) × IsDocumented value label first × AreDocumented value labels rest

-- the same among the constants of a module
abbrev pub AreDocumentedIn : Evaluator → Contents → Values → List Label → List Label → Type 0
AreDocumentedIn evaluator m values = AreDocumented (value_among evaluator m values)

-- what their docs are evaluated from
abbrev pub doc_expressions : List Label → List Expression
doc_expressions = flat_map (λ (label : Label). option_to_list label.doc_expression)
