-- The docs of the modules that are declared, by their labels.
use Rattle.std.proofs.Common.{◌≡◌, ◌∙◌, ◌++◌, ℕ, Bool, true, false, List, [], ◌∷◌, Option, None, Some, refl, sym}
use Rattle.std.specs.Prelude.{flat_map, if◌then◌else◌, option_to_list, slice_get}
use Rattle.std.proofs.lemmas.Grind.{flat_map-append}
use Rattle.std.proofs.lemmas.List.{append-nil}
use Rattle.just_module_variables.specs.Documented.{doc_expressions}
use Rattle.just_graph.proofs.Members.{contained, in_right, is_in}
use Rattle.just_module_variables.specs.Constants.{CoversAll}
use Rattle.just_module_variables.specs.declared.variables.Variables.{Variables}
use Rattle.just_module_contents.specs.Constants.{constant_expressions, recipe_expressions, settings_expressions}
use Rattle.just_module_contents.specs.Contents.{Contents}
use Rattle.just_module_contents.specs.Named.{said_from}
use Rattle.just_module_contents.specs.Labels.{doc_by, doc_of, label_by}
use Rattle.just_module_contents.specs.Said.{said, said_in}
use Rattle.just_module_contents.specs.declared.labels.Label.{Label}
use Rattle.just_parts.specs.Bare.{bare_item}
use Rattle.just_parts.specs.Evaluator.{Values}
use Rattle.just_parts.specs.Items.{Ast, Item}
use Rattle.just_ast_items.specs.declared.item.Item.TheVariants as item
use Rattle.just_ast_expressions.specs.declared.expression.Expression.{Expression}

abbrev expressions_of : Label → List Expression
expressions_of label = option_to_list label.doc_expression

doc_here : (i : Item) → doc_by i ≡ doc_expressions (label_by i)
doc_here (item.Module name relative (Some file) attributes doc optional) = sym (append-nil (option_to_list (doc_of attributes)))
doc_here (item.Module name relative None attributes doc optional) = refl
doc_here _ = refl

module _ (enabled : Item → Bool) where
  one_doc : (b : Bool) (i : Item) → (if b then doc_by i else []) ≡ doc_expressions (if b then label_by i else [])
  one_doc true i = doc_here i
  one_doc false i = refl

  docs_in_items : (items : List Item) → said doc_by enabled items ≡ doc_expressions (said label_by enabled items)
  docs_in_items [] = refl
  docs_in_items (i ∷ items) =
      (λ k. one_doc (enabled (bare_item i)) i k ++ docs_in_items items k)
      ∙ sym (flat_map-append expressions_of (if enabled (bare_item i) then label_by i else []) (said label_by enabled items))

  docs_in_file : (o : Option Ast) → said_in doc_by enabled o ≡ doc_expressions (said_in label_by enabled o)
  docs_in_file None = refl
  docs_in_file (Some ast) = docs_in_items ast.items

  -- what the docs are evaluated from is what their labels say
  pub docs_said : (asts : List Ast) (places : List ℕ) → said_from doc_by enabled asts places ≡ doc_expressions (said_from label_by enabled asts places)
  docs_said asts [] = refl
  docs_said asts (p ∷ places) =
      (λ k. docs_in_file (slice_get asts p) k ++ docs_said asts places k)
      ∙ sym (flat_map-append expressions_of (said_in label_by enabled (slice_get asts p)) (said_from label_by enabled asts places))

-- what docs read has a value where whatever is evaluated has one
pub docs_covered : (variables : Variables) (values : Values) (m : Contents) → CoversAll variables values (constant_expressions m) → CoversAll variables values m.docs
docs_covered variables values m covered e c =
    covered e (contained e (constant_expressions m) (in_right e (settings_expressions m ++ flat_map recipe_expressions m.recipes) m.docs (is_in e m.docs c)))
