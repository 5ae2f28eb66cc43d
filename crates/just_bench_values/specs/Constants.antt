-- What the constants of a module come to, and what the plain evaluation answers.
use Rattle.std.specs.Prelude.{◌||◌, ℕ, zero, suc, Bool, true, not, List, [], ◌∷◌, length, map, reverse, Option, None, Some, is_some, if◌then◌else◌}
use Rattle.std.proofs.Common.{BuildHasherDefault, FoldHasher}
use Rattle.std.specs.Borrow.{Bor}
use Rattle.std.specs.HashSet.{HashSet, contains}
use Rattle.std.specs.List.{flat_map, list_all}
use Rattle.std.specs.Map.{values_of}
use Rattle.std.specs.Option.{option_and_then, option_map, option_or}
use Rattle.just_names.specs.Texts.{Text}
use Rattle.just_names.specs.Name.{text_of_name}
use Rattle.just_names.specs.declared.name.Name.{Name}
use Rattle.just_names.specs.declared.number.Number.{Number}
use Rattle.just_parts.specs.Needs.{same_number}
use Rattle.just_ast_expressions.specs.declared.scope.Scope.{Scope}
use Rattle.just_parts.specs.Evaluator.{Evaluator, Values, Wanted}
use Rattle.just_ast_definitions.specs.declared.assignment.Assignment.{Assignment}
use Rattle.just_table.specs.Entries.{find, put_all}
use Rattle.just_bench_values.specs.Lookup.{constant_name}
use Rattle.just_bench_values.specs.declared.lookup.Constant.{Constant}
use Rattle.just_bench_values.specs.Settings.{settings_of}
use Rattle.just_bench_values.specs.Counts.{count_fault}
use Rattle.just_bench_values.specs.Values.{Outcome, value_among_constants}

-- what overrides a value, or else the value
abbrev pub overridden_or : Option Text → Outcome → Outcome
overridden_or override value = option_or (option_map (λ text. text ∷ []) override) value

-- the value of a variable among those that have one by now: what overrides it, or what its expression comes to
abbrev pub assigned_value : Wanted → Values → Text → Outcome
assigned_value wanted values name =
    overridden_or (wanted.overrides name) (option_and_then (λ (a : Assignment). value_among_constants wanted.functions values a.value) (find name wanted.assignments))

-- the values of all variables that are needed, evaluated once more
abbrev pub evaluated_again : Wanted → Values → Values
evaluated_again wanted values name = if wanted.needed name then assigned_value wanted values name else None

-- the values after so many steps from nothing
unfoldable pub values_after : ℕ → Wanted → Values
values_after zero wanted name = None
values_after (suc n) wanted name = evaluated_again wanted (values_after n wanted) name

-- what the value of a variable is where it is needed; it is no text where it is not
abbrev pub demanded : Wanted → Values → Text → Outcome
demanded wanted values name = if wanted.needed name then assigned_value wanted values name else Some []

-- a variable has a value where it is needed
abbrev pub is_settled : Wanted → Values → (Text × Assignment) → Bool
is_settled wanted values entry = not (wanted.needed entry.0) || is_some (values entry.0)

-- whether a number is in a set, or all are asked for
abbrev pub is_asked : Option (Bor (HashSet Number (BuildHasherDefault FoldHasher))) → Number → Bool
is_asked None number = true
is_asked (Some set) number = contains same_number set.now number

-- The constants: the values after as many steps as there are variables, where all that are needed have one by then.
abbrev pub constants_among : Wanted → Values → Option Values
constants_among wanted values = if list_all (is_settled wanted values) wanted.assignments then Some values else None

abbrev pub constants_of : Wanted → Option Values
constants_of wanted = constants_among wanted (values_after (length wanted.assignments) wanted)

-- the constant of a variable that has a value, bound as it is assigned
abbrev pub constants_by : Name → Option Assignment → Outcome → List Constant
constants_by name None value = []
constants_by name (Some a) None = []
constants_by name (Some a) (Some value) = record { binding = record { name = name; number = a.number; value = value; export = a.export; private = a.private } } ∷ []

-- those of the variables that these names name
abbrev pub constants_along : List (Text × Assignment) → Values → List Name → List Constant
constants_along assignments values = flat_map (λ (name : Name). constants_by name (find (text_of_name name) assignments) (values (text_of_name name)))

-- The scope of these: the last that is bound is the first in byte order of the names.
abbrev pub scope_along : List (Text × Assignment) → List Name → Values → Scope
scope_along assignments order values =
    record { bindings = reverse (map (λ (c : Constant). c.binding) (values_of (put_all constant_name [] (constants_along assignments values order)))) }

-- the scope of the constants, where there are these, each named as in an order of evaluation
abbrev pub scope_of : List (Text × Assignment) → List Name → Wanted → Option Scope
scope_of assignments order wanted = option_map (scope_along assignments order) (constants_of wanted)

abbrev pub evaluator : Evaluator
evaluator = record { constants = constants_of; value = value_among_constants; settings = settings_of; count_fault = λ recipe p. count_fault p.kind }
