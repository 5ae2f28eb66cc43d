-- Constants along an order of evaluation.
use Rattle.std.proofs.Common.{◌≡◌, refl, sym, ◌∙◌, ap, subst, ℕ, zero, suc, ◌+◌, ◌<◌, ◌≤◌, arith, Bool, true, false, cond, List, [], ◌∷◌, ◌++◌, length, get_or, take, Option, None, Some, inl, inr, ◌⊎◌}
use Rattle.std.specs.List.{Contains}
use Rattle.std.specs.Option.{IsSome, is_some, option_map}
use Rattle.std.specs.Str.{bytes_eq}
use Rattle.std.proofs.lemmas.List.{take_more}
use Rattle.std.proofs.lemmas.List.Elements.{Contains-append_left, Contains-push, Contains-push_cases}
use Rattle.std.proofs.lemmas.Slice.Eq.{bytes_eq-Decides}
use Rattle.just_names.specs.Index.{name_at, texts_of_names}
use Rattle.just_names.specs.Texts.{Text}
use Rattle.just_names.specs.Name.{text_of_name}
use Rattle.just_names.specs.declared.name.Name.{Name}
use Rattle.just_names.specs.declared.number.Number.{Number}
use Rattle.just_parts.specs.Evaluator.{IsBindingOf, Wanted, wanted_by}
use Rattle.just_parts.specs.Known.{sources}
use Rattle.just_parts.specs.Reading.{IsEvaluationOrder}
use Rattle.just_ast_definitions.specs.declared.assignment.Assignment.{Assignment}
use Rattle.just_ast_definitions.specs.declared.function_definition.FunctionDefinition.{FunctionDefinition}
use Rattle.just_table.specs.Entries.{find}
use Rattle.just_bench_values.specs.Constants.{assigned_value, values_after}
use Rattle.just_bench_values.specs.loops.Constants.{Adds}
use Rattle.just_bench_values.specs.Lookup.{table_values}
use Rattle.just_bench_values.specs.declared.lookup.Constant.{Constant}
use Rattle.just_table.proofs.Puts.{find_put}
use Rattle.just_bench_values.proofs.Steps.{after_needed, after_unneeded, assigned_same, unneeded}

-- a constant that is bound as its variable is assigned
pub record IsConstantOf (assignments : List (Text × Assignment)) (name : Text) (c : Constant) : Type 0 where
  pub assigned : Assignment
  pub is : find name assignments ≡ Some assigned
  pub binding : IsBindingOf assigned c.binding

-- The first k variables of an order have the values that they keep, where they are needed; no others have.
pub record Settled (assignments : List (Text × Assignment)) (wanted : Wanted) (order : List Text) (k : ℕ) (constants : List (Text × Constant)) : Type 0 where
  pub settled : (name : Text) → Contains (take k order) name → (n : ℕ) → k ≤ n → values_after n wanted name ≡ table_values constants name
  pub before : (name : Text) (c : Constant) → find name constants ≡ Some c → Contains (take k order) name
  pub needed : (name : Text) (c : Constant) → find name constants ≡ Some c → wanted.needed name ≡ true
  pub bound : (name : Text) (c : Constant) → find name constants ≡ Some c → IsConstantOf assignments name c
  pub there : (name : Text) → Contains (take k order) name → wanted.needed name ≡ true → IsSome (find name constants)

contradicts : {X : Type 0} {b : Bool} → b ≡ true → b ≡ false → X
contradicts yes_true no_false = (let wrong : true ≡ false = sym yes_true ∙ no_false in cc)

-- nothing is bound at the start
pub settled_start : (assignments : List (Text × Assignment)) (wanted : Wanted) (order : List Text) (constants : List (Text × Constant)) → constants ≡ [] → Settled assignments wanted order 0 constants
settled_start assignments wanted order constants empty =
    let none : (X : Type 0) → (name : Text) (c : Constant) → find name constants ≡ Some c → X = λ X name c is. (let wrong : None ≡ Some c = sym (ap (find name) empty) ∙ is in cc) in
    record {
      settled = λ name there n least. absurd (omega (arith, there.1));
      before = λ name c is. none _ name c is;
      needed = λ name c is. none _ name c is;
      bound = λ name c is. none _ name c is;
      there = λ name there need. absurd (omega (arith, there.1));
    }

module _ (assignments : List (Text × Assignment)) (table : List (Text × FunctionDefinition)) (overrides : Number → Option Text) (set : Number → Bool) (lists : Bool)
    (order : List Text) (is_order : IsEvaluationOrder (sources assignments table) order) where
  abbrev wanted : Wanted
  wanted = wanted_by assignments table overrides set lists

  abbrev SettledAt : ℕ → List (Text × Constant) → Type 0
  SettledAt k constants = Settled assignments wanted order k constants

  module _ (k : ℕ) (old : List (Text × Constant)) (so : SettledAt k old) where
    -- what is not assigned has no value
    no_constant : (name : Text) → find name assignments ≡ None → (o : Option Constant) → find name old ≡ o → table_values old name ≡ None
    no_constant name none None is = ap (option_map (λ (c : Constant). c.binding.value)) is
    no_constant name none (Some c) is = (let wrong : None ≡ Some (so.bound name c is).assigned = sym none ∙ (so.bound name c is).is in cc)

    pub unassigned : (n : ℕ) (name : Text) → find name assignments ≡ None → values_after n wanted name ≡ table_values old name
    unassigned n name none =
        after_unneeded wanted name (unneeded assignments table overrides set lists name none) n ∙ sym (no_constant name none (find name old) refl)

    pub unneeded_value : (name : Text) → wanted.needed name ≡ false → (o : Option Constant) → find name old ≡ o → table_values old name ≡ None
    unneeded_value name none None is = ap (option_map (λ (c : Constant). c.binding.value)) is
    unneeded_value name none (Some c) is = contradicts (so.needed name c is) none

    module _ (inside : k < length order) where
      abbrev next : Text
      next = name_at order k

      more : take (k + 1) order ≡ take k order ++ next ∷ []
      more = take_more order k [] inside

      lift : (name : Text) → Contains (take k order) name → Contains (take (k + 1) order) name
      lift name there = subst (λ names. Contains names name) (sym more) (Contains-append_left (take k order) (next ∷ []) name there)

      last : (name : Text) → name ≡ next → Contains (take (k + 1) order) name
      last name same = subst (λ x. Contains (take (k + 1) order) x) (sym same) (subst (λ names. Contains names next) (sym more) (Contains-push (take k order) next))

      cases : (name : Text) → Contains (take (k + 1) order) name → Contains (take k order) name ⊎ (next ≡ name)
      cases name there = Contains-push_cases (take k order) next name (subst (λ names. Contains names name) more there)

      -- the value of the next variable, once all before it have theirs
      pub next_value : (a : Assignment) → find next assignments ≡ Some a → (n : ℕ) → k ≤ n → assigned_value wanted (values_after n wanted) next ≡ assigned_value wanted (table_values old) next
      next_value a is n least = assigned_same assignments table overrides set lists (values_after n wanted) (table_values old) (unassigned n) next a is
          (λ read r. so.settled read (is_order.reads_first k read inside (record { assigned = a; is = is; reads = r })) n least)

      -- a variable that is not needed
      settled_skip : wanted.needed next ≡ false → SettledAt (k + 1) old
      settled_skip none = record {
        settled = λ name there n least. elim (cases name there) [
          | inl front ↦ so.settled name front n (omega arith)
          | inr same ↦ let unneeded_name : wanted.needed name ≡ false = ap wanted.needed (sym same) ∙ none in
              after_unneeded wanted name unneeded_name n ∙ sym (unneeded_value name unneeded_name (find name old) refl)
        ];
        before = λ name c is. lift name (so.before name c is);
        needed = so.needed;
        bound = so.bound;
        there = λ name there need. elim (cases name there) [
          | inl front ↦ so.there name front need
          | inr same ↦ contradicts need (ap wanted.needed (sym same) ∙ none)
        ];
      }

      -- one that is needed
      module _ (need : wanted.needed next ≡ true) (new : List (Text × Constant)) (adds : Adds assignments wanted next old new) where
        found_new : (name : Text) → find name new ≡ cond (bytes_eq name next) (Some adds.constant) (find name old)
        found_new name = ap (find name) adds.after ∙ find_put name next adds.constant old

        at_next : (name : Text) → bytes_eq name next ≡ true → find name new ≡ Some adds.constant
        at_next name same = found_new name ∙ ap (λ b. cond b (Some adds.constant) (find name old)) same

        at_other : (name : Text) → bytes_eq name next ≡ false → find name new ≡ find name old
        at_other name other = found_new name ∙ ap (λ b. cond b (Some adds.constant) (find name old)) other

        is_next : (name : Text) → bytes_eq name next ≡ true → name ≡ next
        is_next name same = (bytes_eq-Decides name next).0 same

        not_next : {X : Type 0} (name : Text) → bytes_eq name next ≡ false → next ≡ name → X
        not_next name other same = contradicts ((bytes_eq-Decides name next).1 (sym same)) other

        settled_next : (n : ℕ) → k + 1 ≤ n → values_after n wanted next ≡ Some adds.constant.binding.value
        settled_next zero least = absurd (omega arith)
        settled_next (suc n) least = after_needed wanted next need n ∙ next_value adds.assigned adds.is n (omega arith) ∙ adds.value

        settled_at : (name : Text) → Contains (take (k + 1) order) name → (n : ℕ) → k + 1 ≤ n → (b : Bool) → bytes_eq name next ≡ b → values_after n wanted name ≡ table_values new name
        settled_at name there n least true same =
            ap (values_after n wanted) (is_next name same) ∙ settled_next n least ∙ sym (ap (option_map (λ (c : Constant). c.binding.value)) (at_next name same))
        settled_at name there n least false other = elim (cases name there) [
          | inl front ↦ so.settled name front n (omega arith) ∙ sym (ap (option_map (λ (c : Constant). c.binding.value)) (at_other name other))
          | inr same ↦ not_next name other same
        ]

        same_constant : (name : Text) (c : Constant) → find name new ≡ Some c → bytes_eq name next ≡ true → adds.constant ≡ c
        same_constant name c is same = (let both : Some adds.constant ≡ Some c = sym (at_next name same) ∙ is in cc)

        before_at : (name : Text) (c : Constant) → find name new ≡ Some c → (b : Bool) → bytes_eq name next ≡ b → Contains (take (k + 1) order) name
        before_at name c is true same = last name (is_next name same)
        before_at name c is false other = lift name (so.before name c (sym (at_other name other) ∙ is))

        needed_at : (name : Text) (c : Constant) → find name new ≡ Some c → (b : Bool) → bytes_eq name next ≡ b → wanted.needed name ≡ true
        needed_at name c is true same = ap wanted.needed (is_next name same) ∙ need
        needed_at name c is false other = so.needed name c (sym (at_other name other) ∙ is)

        bound_at : (name : Text) (c : Constant) → find name new ≡ Some c → (b : Bool) → bytes_eq name next ≡ b → IsConstantOf assignments name c
        bound_at name c is true same = record {
          assigned = adds.assigned;
          is = ap (λ x. find x assignments) (is_next name same) ∙ adds.is;
          binding = subst (λ (x : Constant). IsBindingOf adds.assigned x.binding) (same_constant name c is same) adds.binding;
        }
        bound_at name c is false other = so.bound name c (sym (at_other name other) ∙ is)

        there_at : (name : Text) → Contains (take (k + 1) order) name → wanted.needed name ≡ true → (b : Bool) → bytes_eq name next ≡ b → IsSome (find name new)
        there_at name there need true same = ap is_some (at_next name same)
        there_at name there need false other = elim (cases name there) [
          | inl front ↦ ap is_some (at_other name other) ∙ so.there name front need
          | inr same ↦ not_next name other same
        ]

        settled_add : SettledAt (k + 1) new
        settled_add = record {
          settled = λ name there n least. settled_at name there n least (bytes_eq name next) refl;
          before = λ name c is. before_at name c is (bytes_eq name next) refl;
          needed = λ name c is. needed_at name c is (bytes_eq name next) refl;
          bound = λ name c is. bound_at name c is (bytes_eq name next) refl;
          there = λ name there need. there_at name there need (bytes_eq name next) refl;
        }

      settled_by : (new : List (Text × Constant)) → (wanted.needed next ≡ true → Adds assignments wanted next old new) → (wanted.needed next ≡ false → new ≡ old) →
          (b : Bool) → wanted.needed next ≡ b → SettledAt (k + 1) new
      settled_by new added skipped true need = settled_add need new (added need)
      settled_by new added skipped false none = subst (SettledAt (k + 1)) (sym (skipped none)) (settled_skip none)

      -- one variable more
      pub settled_more : (new : List (Text × Constant)) → (wanted.needed next ≡ true → Adds assignments wanted next old new) → (wanted.needed next ≡ false → new ≡ old) → SettledAt (k + 1) new
      settled_more new added skipped = settled_by new added skipped (wanted.needed next) refl

-- whether values are lists makes no difference
pub adds_any : (assignments : List (Text × Assignment)) (table : List (Text × FunctionDefinition)) (overrides : Number → Option Text) (set : Number → Bool) (lists : Bool)
    (name : Text) (old new : List (Text × Constant)) → Adds assignments (wanted_by assignments table overrides set false) name old new → Adds assignments (wanted_by assignments table overrides set lists) name old new
adds_any assignments table overrides set lists name old new adds = record {
  constant = adds.constant;
  assigned = adds.assigned;
  is = adds.is;
  named = adds.named;
  binding = adds.binding;
  value = adds.value;
  after = adds.after;
}

-- the text of the name at a place
pub name_at_place : (names : List Name) (i : ℕ) (x : Name) → i < length names → x ≡ get_or names i x → text_of_name x ≡ name_at (texts_of_names names) i
name_at_place [] i x inside is = absurd (omega arith)
name_at_place (y ∷ names) zero x inside is = ap text_of_name is
name_at_place (y ∷ names) (suc i) x inside is = name_at_place names i x (omega arith) is
