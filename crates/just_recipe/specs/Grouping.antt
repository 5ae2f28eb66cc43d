-- How arguments are grouped: for each parameter those that it is given.
use Rattle.std.specs.Prelude.{ℕ, zero, suc, Bool, not, ◌&&◌, List, [], ◌∷◌, ◌++◌, length, take, drop, if◌then◌else◌}
use Rattle.just_ast_definitions.specs.Parameter.{is_variadic}
use Rattle.just_ast_definitions.specs.declared.parameter.Parameter.{Parameter}

-- it takes all arguments that are left: a variadic one, where values are no lists
abbrev pub takes_all : Bool → Parameter → Bool
takes_all lists p = not lists && is_variadic p.kind

-- the first argument, while there is one, and how many arguments a parameter takes of those that are left
abbrev pub one_of : ℕ → ℕ
one_of zero = 0
one_of (suc n) = 1

abbrev pub share : Bool → Parameter → ℕ → ℕ
share lists p left = if takes_all lists p then left else one_of left

module _ {A : Type 0} where
  -- each parameter in turn takes its share of the arguments that are left
  abbrev pub grouped : Bool → List Parameter → List A → List (List A)
  grouped lists [] left = []
  grouped lists (p ∷ ps) left = take (share lists p (length left)) left ∷ grouped lists ps (drop (share lists p (length left)) left)

  -- groups, one after another
  abbrev pub concatenated : List (List A) → List A
  concatenated [] = []
  concatenated (group ∷ groups) = group ++ concatenated groups
