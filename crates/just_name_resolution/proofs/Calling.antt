-- The functions that a search has found at its end.
use Rattle.std.proofs.Common.{◌≡◌, Bool, true, false, ◌||◌, List, [], ◌∷◌, Some, map, sym, ◌∙◌, ap, subst, inl, inr, ◌⊎◌}
use Rattle.std.specs.HashSet.{contains}
use Rattle.std.specs.List.{Contains}
use Rattle.std.specs.Str.{bytes_eq}
use Rattle.std.proofs.lemmas.List.Elements.{Contains-push}
use Rattle.std.proofs.lemmas.Option.{same_Some}
use Rattle.just_graph.proofs.Members.{the_one}
use Rattle.just_names.specs.Texts.{Text}
use Rattle.just_names.specs.declared.number.Number.{Number}
use Rattle.just_ast_definitions.specs.declared.assignment.Assignment.{Assignment}
use Rattle.just_ast_definitions.specs.declared.function_definition.FunctionDefinition.{FunctionDefinition}
use Rattle.just_ast_expressions.specs.declared.expression.Expression.{Expression}
use Rattle.just_table.specs.Entries.{find}
use Rattle.just_parts.specs.Known.{Known}
use Rattle.just_parts.specs.Needs.{GainsThose, HaveNumbersApart, IsSame, same_number}
use Rattle.just_name_resolution.specs.Called.{GainsCalled, IsCalledFrom, IsWholeSearch, directly, through_body, through_value}
use Rattle.just_parts.specs.Scopes.{Scoped, scoped}
use Rattle.just_parts.specs.loops.Scopes.{body_scoped, value_scoped}
use Rattle.just_name_resolution.specs.loops.Search.{Found, IsCalledIn, IsDone, IsSearchFrom, found_in, scoped_of}
use Rattle.just_name_resolution.specs.declared.needs.Search.{Search}
use Rattle.just_name_resolution.proofs.Collecting.{gained}
use Rattle.just_name_resolution.proofs.Searching.{done_at_last, reads_found}

module _ (m : Known) (overridden : Number → Bool) (firsts : List Scoped) (old : Number → Bool) (visited : Text → Bool) (f : Found)
    (search : IsSearchFrom m overridden firsts old visited f) (over : f.waiting ≡ []) (apart : HaveNumbersApart m) (whole : IsWholeSearch m overridden old visited) where
  done_in_the_end : (s : Scoped) → Contains f.waiting s ⊎ IsDone m f s → IsDone m f s
  done_in_the_end = done_at_last m overridden firsts old visited f search over

  -- whatever is called from what is looked into is found
  pub calls_found : {hidden : Text → Bool} {e : Expression} {name : Text} → IsDone m f (record { hidden = hidden; expression = e }) → IsCalledFrom m overridden hidden e name
      → f.function name ≡ true
  calls_found {name = name} done (directly {f = d} arguments among is) = done.functions name d (record { arguments = arguments; among = among; is = is })
  calls_found {name = name} done (through_body {function = function} {f = d} arguments among is called) =
      elim (search.bodies function d is (done.functions function d (record { arguments = arguments; among = among; is = is }))) [
        | inl was ↦ search.keeps_functions name (whole.bodies_called function name d is was called)
        | inr c ↦ calls_found (done_in_the_end (body_scoped d) c) called
      ]
  calls_found {name = name} done (through_value {variable = variable} {a = a} among shown is on called) =
      elim (search.values apart variable a is on (done.numbers variable a (record { among = among; shown = shown; is = is }))) [
        | inl was ↦ search.keeps_functions name (whole.values_called variable name a is on was called)
        | inr c ↦ calls_found (done_in_the_end (value_scoped a) c) called
      ]

  -- and what is found belongs together
  pub whole_again : IsWholeSearch m overridden f.number f.function
  whole_again = record {
    closed = λ from to a b is there step on set. elim (search.values apart from a is on set) [
      | inl was ↦ search.keeps b.number (whole.closed from to a b is there step on was)
      | inr c ↦
          let one : step.assigned ≡ a = same_Some _ _ (sym step.is ∙ is) in
          let done : IsDone m f (value_scoped step.assigned) = subst (λ x. IsDone m f (value_scoped x)) (sym one) (done_in_the_end (value_scoped a) c) in
          reads_found m overridden firsts old visited f search over whole.bodies_read done step.reads b there
    ];
    bodies_read = λ function name d a is set there reads. elim (search.bodies function d is set) [
      | inl was ↦ search.keeps a.number (whole.bodies_read function name d a is was there reads)
      | inr c ↦ reads_found m overridden firsts old visited f search over whole.bodies_read (done_in_the_end (body_scoped d) c) reads a there
    ];
    bodies_called = λ function name d is set called. elim (search.bodies function d is set) [
      | inl was ↦ search.keeps_functions name (whole.bodies_called function name d is was called)
      | inr c ↦ calls_found (done_in_the_end (body_scoped d) c) called
    ];
    values_called = λ variable name a is on set called. elim (search.values apart variable a is on set) [
      | inl was ↦ search.keeps_functions name (whole.values_called variable name a is on was called)
      | inr c ↦ calls_found (done_in_the_end (value_scoped a) c) called
    ];
  }

  pub first_called : {s : Scoped} {name : Text} → Contains firsts s → IsCalledFrom m overridden s.hidden s.expression name → f.function name ≡ true
  first_called {s = s} there called = calls_found (done_in_the_end s (search.start s there)) called

-- from one expression
module _ (m : Known) (overridden : Number → Bool) (hidden : Text → Bool) (e : Expression) (old : Number → Bool) (visited : Text → Bool) (s : Search)
    (search : IsSearchFrom m overridden (scoped hidden e ∷ []) old visited (found_in old visited s)) (over : s.stack.items ≡ []) (between new : Text → Bool)
    (same : IsSame visited between) (gains : GainsThose (contains bytes_eq s.functions) between new) where
  waits_no_more : map scoped_of s.stack.items ≡ []
  waits_no_more = ap (map scoped_of) over

  are : (name : Text) → new name ≡ (visited name || contains bytes_eq s.functions name)
  are = gained (contains bytes_eq s.functions) visited between new same gains

  pub collected_calls : GainsCalled m overridden old hidden e visited new
  collected_calls = record {
    keeps = λ name h. are name ∙ search.keeps_functions name h;
    only = λ name h. elim (search.only_called name (sym (are name) ∙ h)) [
      | inl was ↦ inl was
      | inr i ↦ inr (subst (λ (t : Scoped). IsCalledFrom m overridden t.hidden t.expression name) (sym (the_one (scoped hidden e) i.from i.there)) i.called)
    ];
    all = λ apart whole name called.
        are name ∙ first_called m overridden (scoped hidden e ∷ []) old visited (found_in old visited s) search waits_no_more apart whole (Contains-push [] (scoped hidden e)) called;
  }

  pub collected_whole : (references now : Number → Bool) → IsSame old references → GainsThose (contains same_number s.numbers) references now
      → HaveNumbersApart m → IsWholeSearch m overridden old visited → IsWholeSearch m overridden now new
  collected_whole references now kept gained_numbers apart whole =
      subst (λ (n : Number → Bool). IsWholeSearch m overridden n new) (λ i n. sym (gained (contains same_number s.numbers) old references now kept gained_numbers n) i)
      (subst (λ (n : Text → Bool). IsWholeSearch m overridden (λ k. old k || contains same_number s.numbers k) n) (λ i name. sym (are name) i)
      (whole_again m overridden (scoped hidden e ∷ []) old visited (found_in old visited s) search waits_no_more apart whole))
