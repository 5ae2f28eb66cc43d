-- Variables with their values, with one more.
use Rattle.std.proofs.Common.{◌≡◌, ℕ, ◌+◌, ◌<◌, List, [], ◌∷◌, ◌++◌, length, map, take, get_or, filter_map, Bor, Option, Some, None, sym, ◌∙◌, ap}
use Rattle.std.proofs.lemmas.List.{append-nil, map-append, take_more}
use Rattle.std.proofs.lemmas.List.Elements.{filter_map-append}
use Rattle.std.specs.List.{cons_option}
use Rattle.std.specs.Option.{option_map}
use Rattle.just_ast_definitions.specs.declared.assignment.Assignment.{Assignment}
use Rattle.just_ast_expressions.specs.declared.scope.Scope.{Scope}
use Rattle.just_names.specs.Name.{text_of_name}
use Rattle.just_names.specs.Texts.{Text}
use Rattle.just_parts.specs.Evaluator.{scope_values}
use Rattle.just_evaluate.specs.loops.Bindings.{bound_behind}
use Rattle.just_evaluate.specs.Lines.{bound_in}
use Rattle.just_evaluate.specs.declared.bindings.BoundVariable.{BoundVariable}

-- a variable more, which the scope binds or not
module _ (scope : Scope) (xs : List (Bor Assignment)) (i : ℕ) (a : Bor Assignment) (items : List BoundVariable) (more : i < length xs) (is : a ≡ get_or xs i a)
    (before : map bound_behind items ≡ filter_map (bound_in scope) (map (λ (x : Bor Assignment). x.now) (take i xs))) where
  seen : map (λ (x : Bor Assignment). x.now) (take (i + 1) xs) ≡ map (λ (x : Bor Assignment). x.now) (take i xs) ++ a.now ∷ []
  seen = ap (map (λ (x : Bor Assignment). x.now)) (take_more xs i a more ∙ ap (λ y. take i xs ++ y ∷ []) (sym is)) ∙ map-append (λ (x : Bor Assignment). x.now) (take i xs) (a ∷ [])

  chosen : (o : Option (List Text)) → scope_values scope (text_of_name a.now.name) ≡ o →
      filter_map (bound_in scope) (map (λ (x : Bor Assignment). x.now) (take (i + 1) xs)) ≡ map bound_behind items ++ cons_option (option_map {U = Assignment × List Text} (λ value. (a.now, value)) o) []
  chosen o e =
      ap (filter_map (bound_in scope)) seen ∙ filter_map-append (bound_in scope) (map (λ (x : Bor Assignment). x.now) (take i xs)) (a.now ∷ [])
      ∙ (λ k. sym before k ++ cons_option (option_map {U = Assignment × List Text} (λ value. (a.now, value)) (e k)) [])

  pub bound_more : (new : List BoundVariable) (item : BoundVariable) → new ≡ items ++ item ∷ [] → bound_behind item ≡ (a.now, item.value.now) → scope_values scope (text_of_name a.now.name) ≡ Some item.value.now →
      map bound_behind new ≡ filter_map (bound_in scope) (map (λ (x : Bor Assignment). x.now) (take (i + 1) xs))
  bound_more new item e same found =
      ap (map bound_behind) e ∙ map-append bound_behind items (item ∷ []) ∙ ap (λ x. map bound_behind items ++ x ∷ []) same ∙ sym (chosen (Some item.value.now) found)

  pub unbound_more : scope_values scope (text_of_name a.now.name) ≡ None → map bound_behind items ≡ filter_map (bound_in scope) (map (λ (x : Bor Assignment). x.now) (take (i + 1) xs))
  unbound_more none = sym (append-nil (map bound_behind items)) ∙ sym (chosen None none)
