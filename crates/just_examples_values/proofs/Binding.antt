-- What a scope binds in which all variables of a module have values, and what parameters leave bound.
use Rattle.std.proofs.Common.{◌≡◌, ◌∙◌, Bool, true, false, ◌||◌, List, [], ◌∷◌, Option, Some, None, Result, Ok, Err, IfOk, refl, sym, ap, arith, reverse}
use Rattle.std.specs.List.{Contains, list_any}
use Rattle.std.specs.Option.{is_some, option_map_or}
use Rattle.std.specs.Prelude.{if◌then◌else◌}
use Rattle.std.specs.Str.{bytes_eq}
use Rattle.std.proofs.Math.Bool.{or-true}
use Rattle.std.proofs.lemmas.Cmp.{nat_eq_equiv}
use Rattle.std.proofs.lemmas.List.Elements.{Contains-append_right}
use Rattle.std.proofs.lemmas.List.Folds.{list_any_at}
use Rattle.std.proofs.lemmas.Slice.Eq.{bytes_eq-Decides}
use Rattle.just_ast_definitions.specs.declared.assignment.Assignment.{Assignment}
use Rattle.just_ast_definitions.specs.declared.parameter.Parameter.{Parameter}
use Rattle.just_ast_expressions.specs.declared.scope.Binding.{Binding}
use Rattle.just_ast_expressions.specs.declared.scope.Scope.{Scope}
use Rattle.just_errors.specs.declared.refusal.Refusal.{Refusal}
use Rattle.just_graph.proofs.Members.{contained, from_reverse, is_in}
use Rattle.just_names.specs.Name.{text_of_name}
use Rattle.just_names.specs.Texts.{Text}
use Rattle.just_names.specs.declared.number.Number.{Number}
use Rattle.just_parts.specs.Evaluator.{Binds, Wanted, value_in}
use Rattle.just_parts.specs.Needs.{same_number}
use Rattle.just_run_layers.specs.Covering.{BindsParameters, binds, wanted_in}
use Rattle.just_run_layers.specs.declared.context.Context.{Context}
use Rattle.just_run_layers.specs.declared.held.Held.{Held}
use Rattle.just_table.specs.Entries.{find}
use Rattle.just_examples_values.specs.loops.Bound.{BindsAll}

number_itself : (n : Number) → same_number n n ≡ true
number_itself n = nat_eq_equiv.refl n.0

-- a name that has a value is that of a binding
abbrev IsNamed : Text → List Binding → Type 0
IsNamed name bs = (b : Binding) × Contains bs b × (bytes_eq (text_of_name b.name) name ≡ true)

named_first : (name : Text) (b : Binding) (bs : List Binding) (same : Bool) → bytes_eq (text_of_name b.name) name ≡ same → is_some (value_in (b ∷ bs) name) ≡ true
    → (is_some (value_in bs name) ≡ true → IsNamed name bs) → IsNamed name (b ∷ bs)
named_first name b bs true e h later = (b, (0, omega arith, refl), e)
named_first name b bs false e h later =
    let there = later (sym (ap (λ c. is_some (if c then Some b.value else value_in bs name)) e) ∙ h) in
    (there.0, Contains-append_right (b ∷ []) bs there.0 there.1, there.2)

named : (name : Text) (bs : List Binding) → is_some (value_in bs name) ≡ true → IsNamed name bs
named name [] h = absurd (cc)
named name (b ∷ bs) h = named_first name b bs (bytes_eq (text_of_name b.name) name) refl h (named name bs)

-- a variable that is needed is bound
needed_bound : (assignments : List (Text × Assignment)) (wanted : Wanted) (scope : Scope) → Binds assignments wanted scope → (name : Text) (a : Assignment)
    → find name assignments ≡ Some a → wanted.needed name ≡ true → binds scope a.number ≡ true
needed_bound assignments wanted scope h name a is need =
    let it = named name (reverse scope.bindings) (h.exactly name ∙ need) in
    let there : Contains scope.bindings it.0 = contained it.0 scope.bindings (from_reverse it.0 scope.bindings (is_in it.0 (reverse scope.bindings) it.1)) in
    let bound = h.each it.0 there in
    let named_so : text_of_name it.0.name ≡ name = (bytes_eq-Decides (text_of_name it.0.name) name).0 it.2 in
    let found : Some bound.0 ≡ Some a = sym bound.1 ∙ ap (λ t. find t assignments) named_so ∙ is in
    let same : bound.0 ≡ a = cc in
    let number : it.0.number ≡ a.number = bound.2.number ∙ ap (λ (x : Assignment). x.number) same in
    list_any_at (λ (b : Binding). same_number b.number a.number) scope.bindings there.0 it.0 there.1
    (ap (λ (b : Binding). same_number b.number a.number) there.2 ∙ (ap (λ (n : Number). same_number n a.number) number ∙ number_itself a.number))

-- so all are where all are asked for
pub all_bound : (context : Context) (r : Result Scope Refusal) → IfOk r (Binds context.assignments.now (wanted_in context None)) → IfOk r (BindsAll context)
all_bound context (Ok scope) h = λ name a is.
    needed_bound context.assignments.now (wanted_in context None) scope h name a is (ap (λ (o : Option Assignment). option_map_or (λ (x : Assignment). true) o false) is)
all_bound context (Err refusal) h = tt

-- what was bound is bound after parameters
pub still_bound : (context : Context) (old : Scope) (ps : List Parameter) (r : Result Held Refusal) → BindsAll context old → IfOk r (λ (held : Held). BindsParameters ps old held.scope) → IfOk r (λ (held : Held). BindsAll context held.scope)
still_bound context old ps (Ok held) all h = λ name a is.
    h.exactly a.number ∙ ap (λ x. list_any (λ (p : Parameter). same_number p.number a.number) ps || x) (all name a is) ∙ or-true _
still_bound context old ps (Err refusal) all h = tt
