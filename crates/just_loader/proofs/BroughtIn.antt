-- What a text says, as another source tells.
use Rattle.std.proofs.Common.{◌≡◌, ℕ, List, [], ◌∷◌, ◌++◌, map, Some, refl, sym, ap, subst, ◌∙◌}
use Rattle.std.specs.List.{All, Contains}
use Rattle.std.proofs.lemmas.List.Elements.{All-map, All-weaker}
use Rattle.just_parts.specs.Bare.{ast_of_items, bare_ast, bare_item}
use Rattle.just_parts.specs.Syntax.{SyntaxAnswers, AttributesNameParameters, ItemCameBy, PriorsAreDependencies, item_numbers, numbers_of_items}
use Rattle.just_parts.specs.Items.{Ast, Item}
use Rattle.just_ast_items.specs.declared.item.Item.TheVariants as item
use Rattle.just_source.specs.declared.source.Source.{Source}
use Rattle.just_loader.specs.loops.Reading.{IsBroughtIn, IsAstRead, IsAstReadBy, brought_in}

same_bare : (source : Source) (i : Item) → bare_item (brought_in source i) ≡ bare_item i
same_bare source (item.Recipe r) = refl
same_bare source _ = refl

same_numbers : (source : Source) (i : Item) → item_numbers (brought_in source i) ≡ item_numbers i
same_numbers source (item.Recipe r) = refl
same_numbers source _ = refl

came_by : (old source : Source) (i : Item) → ItemCameBy old i → ItemCameBy source (brought_in source i)
came_by old source (item.Recipe r) h = record { depth = refl; offsets = refl; module_path = h.module_path; recipe_path = h.recipe_path; variable_references = h.variable_references }
came_by old source (item.Assignment a) h = refl
came_by old source _ h = h

same_priors : (source : Source) (i : Item) → PriorsAreDependencies i → PriorsAreDependencies (brought_in source i)
same_priors source (item.Recipe r) h = h
same_priors source _ h = tt

same_attributes : (source : Source) (i : Item) → AttributesNameParameters i → AttributesNameParameters (brought_in source i)
same_attributes source (item.Recipe r) h = record { parameters = h.parameters; attributes = h.attributes }
same_attributes source _ h = tt

bare_items : (source : Source) (is : List Item) → map bare_item (map (brought_in source) is) ≡ map bare_item is
bare_items source [] = refl
bare_items source (i ∷ is) = ap (λ x. x ∷ map bare_item (map (brought_in source) is)) (same_bare source i) ∙ ap (λ xs. bare_item i ∷ xs) (bare_items source is)

items_numbers : (source : Source) (is : List Item) → numbers_of_items (map (brought_in source) is) ≡ numbers_of_items is
items_numbers source [] = refl
items_numbers source (i ∷ is) = ap (λ ns. ns ++ numbers_of_items (map (brought_in source) is)) (same_numbers source i) ∙ ap (λ ns. item_numbers i ++ ns) (items_numbers source is)

-- what holds of each item
each : (P Q : Item → Type 0) (source : Source) → ((i : Item) → P i → Q (brought_in source i)) → (is : List Item) → All P is → All Q (map (brought_in source) is)
each P Q source f is all = All-map Q (brought_in source) is (All-weaker P (λ i. Q (brought_in source i)) f is all)

module _ (source : Source) (ast made : Ast) (is : IsBroughtIn source ast made) where
  pub numbers_kept : numbers_of_items made.items ≡ numbers_of_items ast.items
  numbers_kept = ap numbers_of_items is.items ∙ items_numbers source ast.items

  bare_kept : bare_ast made ≡ bare_ast ast
  bare_kept = ap bare_ast is.rest ∙ ap (λ (xs : List Item). let a : Ast = record (ast_of_items xs) { unstable_features = ast.unstable_features; list_features = ast.list_features; warnings = ast.warnings } in a) (ap (map bare_item) is.items ∙ bare_items source ast.items)

  pub read_as : (answers : SyntaxAnswers) (relative text : List ℕ) → IsAstRead answers relative text ast → IsAstReadBy answers relative text source made
  read_as answers relative text r = record {
    said = r.1.said ∙ ap Some (sym bare_kept);
    from = record {
      components = is.components;
      spaced = is.spaced;
      working_directory = is.working_directory;
      items = subst (All (ItemCameBy source)) (sym is.items) (each (ItemCameBy r.0) (ItemCameBy source) source (came_by r.0 source) ast.items r.1.from.items);
    };
    laws = record {
      priors = subst (All PriorsAreDependencies) (sym is.items) (each PriorsAreDependencies PriorsAreDependencies source (same_priors source) ast.items r.1.laws.priors);
      attributes = subst (All AttributesNameParameters) (sym is.items) (each AttributesNameParameters AttributesNameParameters source (same_attributes source) ast.items r.1.laws.attributes);
      constants = λ name number e here. r.1.laws.constants name number e (subst (λ ns. Contains ns number.0) numbers_kept here);
    };
  }
