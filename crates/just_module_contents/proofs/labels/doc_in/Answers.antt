use Rattle.std.proofs.Common.{◌≡◌, ◌∙◌, Option, None, ap, refl, sym}
use Rattle.just_ast_definitions.specs.declared.attribute.Attribute.{Attribute}
use Rattle.just_ast_definitions.specs.declared.attribute.Attribute.TheVariants as attribute
use Rattle.just_ast_expressions.specs.declared.expression.Expression.{Expression}
use Rattle.just_module_contents.specs.Labels.{doc_in}
use Rattle.just_module_contents.proofs.labels.doc_in.Goals as goal

no_doc : (a : Attribute Expression) → ((e : Option Expression) → a ≡ attribute.Doc e → ⊥) → None ≡ doc_in a
no_doc (attribute.Doc e) none = absurd (none e refl)
no_doc _ none = refl

pub returns-in-Doc : goal.returns-in-Doc
returns-in-Doc c = c.as_ref.ensures.value ∙ sym (ap doc_in c.in-Doc.is)

pub returns-in_default : goal.returns-in_default
returns-in_default c = no_doc c.args.attribute.now c.in_default.not-Doc
