-- For the private functions: the search of what a module needs.
use Rattle.std.specs.Prelude.{◌≡◌, ◌||◌, Bool, not, filter, List, map, Result, OnOk}
use Rattle.std.specs.List.{list_any}
use Rattle.just_ast_definitions.specs.declared.assignment.Assignment.{Assignment}
use Rattle.just_ast_expressions.specs.declared.expression.Expression.{Expression}
use Rattle.just_justfile.specs.declared.justfile.Justfile.{Justfile, out-Justfile}
use Rattle.just_names.specs.declared.number.Number.{Number}
use Rattle.just_parts.specs.Needs.{has_number, same_number}

-- a variable that the analysis did not see as overridden
abbrev pub is_free : Justfile → Assignment → Bool
is_free j a = not (has_number (out-Justfile j).overridden a.number)

-- the values of such variables
abbrev pub free_values : Justfile → List Assignment → List Expression
free_values j xs = map (λ (a : Assignment). a.value) (filter (is_free j) xs)

-- the numbers of variables are put into a set
abbrev pub HasNumbersOf : {E : Type 0} → List Assignment → (Number → Bool) → (Number → Bool) → Result (Unit {0}) E → Type 0
HasNumbersOf xs old new result = OnOk result ((n : Number) → new n ≡ (old n || list_any (λ (a : Assignment). same_number n a.number) xs))
