-- Which variables a target asks for.
use Rattle.std.specs.Prelude.{◌≡◌, Bool, not, List, [], ◌∷◌, Option, Some, None}
use Rattle.std.specs.List.{filter, list_any}
use Rattle.std.specs.Map.{values_of}
use Rattle.just_ast_definitions.specs.declared.assignment.Assignment.{Assignment}
use Rattle.just_names.specs.declared.number.Number.{Number}
use Rattle.just_parts.specs.Needs.{same_number}
use Rattle.just_justfile.specs.declared.justfile.Justfile.{Justfile, out-Justfile}

-- a variable that is not private
abbrev pub is_public_variable : Assignment → Bool
is_public_variable a = not a.private

-- those of a module, in byte order of their names
abbrev pub public_variables : Justfile → List Assignment
public_variables j = filter is_public_variable (values_of (out-Justfile j).assignments)

-- the variables that a target asks for: its one, or those of its module that are not private
abbrev pub variables_asked : Justfile → Option Assignment → List Assignment
variables_asked j (Some variable) = variable ∷ []
variables_asked j None = public_variables j

-- a set has exactly their numbers
abbrev pub AreTargetNumbers : Justfile → Option Assignment → (Number → Bool) → Type 0
AreTargetNumbers j variable set = (n : Number) → set n ≡ list_any (λ (a : Assignment). same_number n a.number) (variables_asked j variable)
