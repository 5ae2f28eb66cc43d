-- The values of variables after some steps.
use Rattle.std.proofs.Common.{◌≡◌, refl, sym, ◌∙◌, ap, ℕ, zero, suc, Bool, true, false, cond, List, [], ◌∷◌, Option, None, Some}
use Rattle.std.specs.Prelude.{if◌then◌else◌}
use Rattle.std.specs.Option.{option_and_then, option_map, option_map_or}
use Rattle.std.specs.Str.{bytes_eq}
use Rattle.just_names.specs.Texts.{Text}
use Rattle.just_names.specs.declared.number.Number.{Number}
use Rattle.just_parts.specs.Evaluator.{Functions, Values, Wanted, functions_by_name, unnumbered, unnumbered_assignment, wanted_by}
use Rattle.just_parts.specs.Known.{none_hidden, sources}
use Rattle.just_parts.specs.Reading.{Reads}
use Rattle.just_ast_definitions.specs.declared.assignment.Assignment.{Assignment}
use Rattle.just_ast_definitions.specs.declared.function_definition.FunctionDefinition.{FunctionDefinition}
use Rattle.just_table.specs.Entries.{find}
use Rattle.just_bench_values.specs.Constants.{assigned_value, overridden_or, values_after}
use Rattle.just_bench_values.specs.Values.{none_bound, value_among_constants}
use Rattle.just_bench_values.proofs.Called.{bare_with}
use Rattle.just_bench_values.proofs.Read.{same_values}

find_by : (b : Bool) (a : Assignment) (o p : Option Assignment) → p ≡ option_map unnumbered_assignment o →
    cond b (Some (unnumbered_assignment a)) p ≡ option_map unnumbered_assignment (cond b (Some a) o)
find_by true a o p rest = refl
find_by false a o p rest = rest

-- a variable is found without numbers where it is found with them
pub find_unnumbered : (name : Text) (es : List (Text × Assignment)) → find name (unnumbered es) ≡ option_map unnumbered_assignment (find name es)
find_unnumbered name [] = refl
find_unnumbered name (e ∷ es) = find_by (bytes_eq name e.0) e.1 _ _ (find_unnumbered name es)

-- nothing needed
pub after_unneeded : (wanted : Wanted) (name : Text) → wanted.needed name ≡ false → (n : ℕ) → values_after n wanted name ≡ None
unfolding values_after
after_unneeded wanted name none zero = refl
after_unneeded wanted name none (suc n) = ap (λ b. if b then assigned_value wanted (values_after n wanted) name else None) none

-- one step on
pub after_needed : (wanted : Wanted) (name : Text) → wanted.needed name ≡ true → (n : ℕ) → values_after (suc n) wanted name ≡ assigned_value wanted (values_after n wanted) name
unfolding values_after
after_needed wanted name need n = ap (λ b. if b then assigned_value wanted (values_after n wanted) name else None) need

module _ (assignments : List (Text × Assignment)) (table : List (Text × FunctionDefinition)) (overrides : Number → Option Text) (set : Number → Bool) (lists : Bool) where
  abbrev wanted : Wanted
  wanted = wanted_by assignments table overrides set lists

  abbrev functions : Functions
  functions = functions_by_name table

  -- a variable that is not assigned is not needed
  pub unneeded : (name : Text) → find name assignments ≡ None → wanted.needed name ≡ false
  unneeded name none = ap (λ o. option_map_or (λ (a : Assignment). set a.number) o false) none

  -- the number of a needed variable
  pub needed_is : (name : Text) (a : Assignment) → find name assignments ≡ Some a → wanted.needed name ≡ set a.number
  needed_is name a is = ap (λ o. option_map_or (λ (x : Assignment). set x.number) o false) is

  value_found : (values : Values) (name : Text) (a : Assignment) → find name assignments ≡ Some a →
      option_and_then (λ (x : Assignment). value_among_constants functions values x.value) (find name (unnumbered assignments)) ≡ value_among_constants functions values a.value
  value_found values name a is =
      ap (option_and_then (λ (x : Assignment). value_among_constants functions values x.value)) (find_unnumbered name assignments ∙ ap (option_map unnumbered_assignment) is)
      ∙ bare_with 64 functions values none_bound a.value

  -- the value of a variable that is assigned
  pub assigned_is : (values : Values) (name : Text) (a : Assignment) → find name assignments ≡ Some a →
      assigned_value wanted values name ≡ overridden_or (overrides a.number) (value_among_constants functions values a.value)
  assigned_is values name a is = λ i. overridden_or (option_and_then (λ (x : Assignment). overrides x.number) (is i)) (value_found values name a is i)

  -- it is the same where those of the variables that are read are
  pub assigned_same : (first second : Values) → ((name : Text) → find name assignments ≡ None → first name ≡ second name) → (name : Text) (a : Assignment) → find name assignments ≡ Some a →
      ((read : Text) → Reads (sources assignments table) none_hidden a.value read → first read ≡ second read) → assigned_value wanted first name ≡ assigned_value wanted second name
  assigned_same first second others name a is same =
      assigned_is first name a is
      ∙ ap (overridden_or (overrides a.number)) (same_values assignments table first second others 64 a.value none_bound none_hidden (λ x. refl) same)
      ∙ sym (assigned_is second name a is)
