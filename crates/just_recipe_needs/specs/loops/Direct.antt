-- What expressions name themselves: variables of the module that are not hidden, and functions of the module that are called.
use Rattle.std.specs.Prelude.{◌↔◌, ◌⊎◌, ◌&&◌, ℕ, Bool, not, List, [], ◌∷◌, flat_map, is_some, if◌then◌else◌}
use Rattle.std.specs.List.{Contains}
use Rattle.just_names.specs.Texts.{Text}
use Rattle.just_ast_references.specs.Mentions.{Calls, Mention, Names}
use Rattle.just_parts.specs.Known.{Known}
use Rattle.just_parts.specs.Reading.{mentions}
use Rattle.just_parts.specs.Scopes.{Scoped}
use Rattle.just_recipe_needs.specs.declared.direct_names.DirectNames.{DirectNames}
use Rattle.just_table.specs.Entries.{find}

module _ (m : Known) where
  -- the variable that is named, where it is not hidden
  abbrev pub mentioned_variable : (Text → Bool) → Mention → List Text
  mentioned_variable hidden (Calls name arguments) = []
  mentioned_variable hidden (Names name) = if is_some (find name m.assignments) && not (hidden name) then name ∷ [] else []

  -- the function that is called
  abbrev pub function_of : Mention → List Text
  function_of (Calls name arguments) = if is_some (find name m.functions) then name ∷ [] else []
  function_of (Names name) = []

  -- those of what an expression says
  abbrev pub variables_of : (Text → Bool) → List Mention → List Text
  variables_of hidden = flat_map (mentioned_variable hidden)

  abbrev pub functions_of : List Mention → List Text
  functions_of = flat_map function_of

  -- those of expressions in their scopes
  abbrev pub variables_in : List Scoped → List Text
  variables_in = flat_map (λ (s : Scoped). variables_of s.hidden (mentions s.expression))

  abbrev pub functions_in : List Scoped → List Text
  functions_in = flat_map (λ (s : Scoped). functions_of (mentions s.expression))

-- names gain others, and no more
abbrev pub GainsNames : List Text → List Text → List Text → Type 0
GainsNames more old new = (name : Text) → Contains new name ↔ (Contains old name ⊎ Contains more name)

-- names are those of a list, in whatever order
abbrev pub AreNames : List Text → List Text → Type 0
AreNames listed names = (name : Text) → Contains names name ↔ Contains listed name

-- what is said is noted, and no more
pub record Notes (m : Known) (hidden : Text → Bool) (said : List Mention) (old new : DirectNames) : Type 0 where
  pub variables : GainsNames (variables_of m hidden said) old.variables.keys new.variables.keys
  pub functions : GainsNames (functions_of m said) old.functions.keys new.functions.keys

-- the names are those that expressions in their scopes name
pub record AreDirect (m : Known) (scopes : List Scoped) (names : DirectNames) : Type 0 where
  pub variables : AreNames (variables_in m scopes) names.variables.keys
  pub functions : AreNames (functions_in m scopes) names.functions.keys

-- so it is of a call, whatever is hidden
abbrev pub NotesCall : Known → Text → DirectNames → DirectNames → Type 0
NotesCall m name old new = (hidden : Text → Bool) (arguments : ℕ) → Notes m hidden (Calls name arguments ∷ []) old new
