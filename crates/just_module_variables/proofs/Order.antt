-- Names in an order.
use Rattle.std.proofs.Common.{◌≡◌, ℕ, zero, suc, List, [], ◌∷◌, map, Some, refl, sym, ◌∙◌, ap, subst}
use Rattle.std.specs.List.{slice_get}
use Rattle.std.specs.Map.{keys_of, values_of}
use Rattle.std.specs.Option.{option_map}
use Rattle.std.proofs.lemmas.List.Elements.{All-head, All-tail}
use Rattle.std.proofs.lemmas.Option.{get_or_from_slice_get, slice_get-get_or, slice_get-map}
use Rattle.just_names.specs.Index.{name_at, texts_of_names}
use Rattle.just_names.specs.Texts.{Text}
use Rattle.just_names.specs.Name.{text_of_name}
use Rattle.just_names.specs.declared.name.Name.{Name}
use Rattle.just_ast_definitions.specs.declared.assignment.Assignment.{Assignment}
use Rattle.just_table.specs.Entries.{IsKeyed, IsSorted}
use Rattle.just_module_variables.specs.Numbered.{name_of_assignment}
use Rattle.just_module_variables.specs.Resolved.{AreInOrder}
use Rattle.just_parts.specs.Known.{Known}
use Rattle.just_parts.specs.Reading.{IsEvaluationOrder}
use Rattle.just_module_variables.specs.loops.Steps.{variable_names_at}
use Rattle.just_name_resolution.proofs.Placed.{different, entry_at}

-- the texts of the names at places
texts_at : (names order : List Name) (places : List ℕ) → map Some order ≡ map (slice_get names) places → texts_of_names order ≡ map (name_at (texts_of_names names)) places
texts_at names [] [] e = refl
texts_at names [] (p ∷ places) e = cc
texts_at names (n ∷ order) [] e = cc
texts_at names (n ∷ order) (p ∷ places) e =
    let first : Some n ≡ slice_get names p = cc in
    let rest : map Some order ≡ map (slice_get names) places = cc in
    let text : name_at (texts_of_names names) p ≡ text_of_name n =
    get_or_from_slice_get (texts_of_names names) p (text_of_name n) [] (slice_get-map text_of_name names p ∙ ap (option_map text_of_name) (sym first)) in
    λ i. sym text i ∷ texts_at names order places rest i

-- the place of a name in an order
named_at : (names order : List Name) (places : List ℕ) → map Some order ≡ map (slice_get names) places → (k : ℕ) (name : Name) → slice_get order k ≡ Some name → (p : ℕ) × (slice_get names p ≡ Some name)
named_at names [] places e k name at = cc
named_at names (n ∷ order) [] e k name at = cc
named_at names (n ∷ order) (p ∷ places) e zero name at = let first : Some n ≡ slice_get names p = cc in (p, sym first ∙ at)
named_at names (n ∷ order) (p ∷ places) e (suc k) name at = let rest : map Some order ≡ map (slice_get names) places = cc in named_at names order places rest k name at

abbrev pub name_of : Assignment → Name
name_of a = a.name

-- the texts of the names of variables are the keys of their table
keys_named : (es : List (Text × Assignment)) → IsKeyed name_of_assignment es → texts_of_names (map name_of (values_of es)) ≡ keys_of es
keys_named [] keyed = refl
keys_named (e ∷ es) keyed =
    λ i. All-head (λ (x : Text × Assignment). name_of_assignment x.1 ≡ x.0) e es keyed i ∷ keys_named es (All-tail (λ (x : Text × Assignment). name_of_assignment x.1 ≡ x.0) e es keyed) i

-- the variable of a name stands in its place
entry_named : (es : List (Text × Assignment)) → IsKeyed name_of_assignment es → (p : ℕ) (name : Name) → slice_get (map name_of (values_of es)) p ≡ Some name → (a : Assignment) × (slice_get es p ≡ Some (text_of_name name, a)) × (a.name ≡ name)
entry_named [] keyed p name at = cc
entry_named (e ∷ es) keyed zero name at =
    let same : e.1.name ≡ name = cc in
    let key = All-head (λ (x : Text × Assignment). name_of_assignment x.1 ≡ x.0) e es keyed in
    (e.1, (λ i. Some ((sym key ∙ ap text_of_name same) i, e.1)), same)
entry_named (e ∷ es) keyed (suc p) name at = entry_named es (All-tail (λ (x : Text × Assignment). name_of_assignment x.1 ≡ x.0) e es keyed) p name at

-- so the names at the places of an evaluation order are in order
pub order_named : (m : Known) (names order : List Name) (places : List ℕ) → IsSorted m.assignments → IsKeyed name_of_assignment m.assignments → names ≡ map name_of (values_of m.assignments)
    → map Some order ≡ map (slice_get names) places → IsEvaluationOrder m (variable_names_at m places) → AreInOrder m order
order_named m names order places sorted keyed are at in_order = record {
  in_order =
      let keys : texts_of_names names ≡ keys_of m.assignments = ap texts_of_names are ∙ keys_named m.assignments keyed in
      subst (IsEvaluationOrder m) (sym (texts_at names order places at ∙ ap (λ ks. map (name_at ks) places) keys)) in_order;
  assigned = λ name there.
      let place = named_at names order places at there.0 name (slice_get-get_or order there.0 name there.1 ∙ ap Some there.2) in
      let entry = entry_named m.assignments keyed place.0 name (ap (λ (xs : List Name). slice_get xs place.0) (sym are) ∙ place.1) in
      (entry.0, entry_at m.assignments (different m.assignments sorted) place.0 (text_of_name name) entry.0 entry.1, entry.2);
}
