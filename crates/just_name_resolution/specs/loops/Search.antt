-- A search for what is needed: what it has found, and what it looks into next.
use Rattle.std.specs.Prelude.{◌≡◌, ◌⊎◌, ℕ, ◌+◌, ◌≤◌, Bool, true, false, ◌||◌, not, List, [], ◌∷◌, ◌++◌, length, map, count_by, Option, None, Some}
use Rattle.std.specs.Borrow.{Bor}
use Rattle.std.specs.HashSet.{contains}
use Rattle.std.specs.List.{Contains}
use Rattle.std.specs.Str.{bytes_eq}
use Rattle.just_names.specs.Texts.{Text}
use Rattle.just_names.specs.declared.number.Number.{Number}
use Rattle.just_name_resolution.specs.declared.needs.Search.{Search}
use Rattle.just_name_resolution.specs.declared.needs.Waiting.{Waiting}
use Rattle.just_parts.specs.Needs.{HaveNumbersApart, IsNumberIn, Needs, overridden_by, same_number}
use Rattle.just_ast_definitions.specs.declared.assignment.Assignment.{Assignment}
use Rattle.just_ast_definitions.specs.declared.function_definition.FunctionDefinition.{FunctionDefinition}
use Rattle.just_ast_definitions.specs.declared.function_definition.FunctionParameter.{FunctionParameter}
use Rattle.just_ast_references.specs.Mentions.{Calls, Mention, Names, mention_of}
use Rattle.just_ast_references.specs.declared.references.Reference.{Reference}
use Rattle.just_table.specs.Entries.{find}
use Rattle.just_parts.specs.Known.{Known, hides, none_hidden}
use Rattle.just_parts.specs.Reading.{Reads, mentions}
use Rattle.just_name_resolution.specs.Called.{IsCalledFrom}
use Rattle.just_parts.specs.Scopes.{Scoped, scoped}
use Rattle.just_parts.specs.loops.Scopes.{body_scoped, value_scoped}

-- Which numbers and which functions are found, and the expressions that are looked into next.
pub record Found : Type 0 where
  pub number : Number → Bool
  pub function : Text → Bool
  pub waiting : List Scoped

-- the names that are hidden under parameters, or without any
abbrev pub hidden_by : Option (Bor (List FunctionParameter)) → Text → Bool
hidden_by None = none_hidden
hidden_by (Some parameters) = hides parameters.now

-- an expression that waits
abbrev pub scoped_of : Waiting → Scoped
scoped_of w = scoped (hidden_by w.parameters) w.expression.now

-- what a search has found, with the numbers and the functions that were there before it
abbrev pub found_in : (Number → Bool) → (Text → Bool) → Search → Found
found_in old visited s = record {
  number = λ n. old n || contains same_number s.numbers n;
  function = λ name. visited name || contains bytes_eq s.functions name;
  waiting = map scoped_of s.stack.items;
}

-- how many variables and functions are not found
abbrev pub variables_left : Known → (Number → Bool) → ℕ
variables_left m found = count_by (λ (e : Text × Assignment). not (found e.1.number)) m.assignments

abbrev pub functions_left : Known → (Text → Bool) → ℕ
functions_left m found = count_by (λ (e : Text × FunctionDefinition). not (found e.0)) m.functions

abbrev pub unfound : Known → Found → ℕ
unfound m f = variables_left m f.number + functions_left m f.function

-- a variable is among what is said, and is not hidden
pub record Says (m : Known) (hidden : Text → Bool) (said : List Mention) (name : Text) (a : Assignment) : Type 0 where
  pub among : Contains said (Names name)
  pub shown : hidden name ≡ false
  pub is : find name m.assignments ≡ Some a

-- a function of the module is among what is said
pub record SaysCall (m : Known) (said : List Mention) (name : Text) (f : FunctionDefinition) : Type 0 where
  pub arguments : ℕ
  pub among : Contains said (Calls name arguments)
  pub is : find name m.functions ≡ Some f

-- the value of a variable that is not overridden, or the body of a function, that is among what is said
pub data LeadsOn (m : Known) (overridden : Number → Bool) (hidden : Text → Bool) (said : List Mention) : Scoped → Type 0 where
  to_value : {name : Text} {a : Assignment} → Says m hidden said name a → overridden a.number ≡ false → LeadsOn m overridden hidden said (value_scoped a)
  to_body : {name : Text} {f : FunctionDefinition} → SaysCall m said name f → LeadsOn m overridden hidden said (body_scoped f)

-- a variable that was found, whose value waits unless it is overridden
pub record FindsVariable (m : Known) (overridden : Number → Bool) (hidden : Text → Bool) (said : List Mention) (waiting : List Scoped) (n : Number) : Type 0 where
  pub name : Text
  pub assigned : Assignment
  pub says : Says m hidden said name assigned
  pub number : assigned.number ≡ n
  pub waits : overridden n ≡ false → Contains waiting (value_scoped assigned)

-- a function that was found, whose body waits
pub record FindsFunction (m : Known) (said : List Mention) (waiting : List Scoped) (name : Text) : Type 0 where
  pub function : FunctionDefinition
  pub says : SaysCall m said name function
  pub waits : Contains waiting (body_scoped function)

-- What is said is looked at: whatever it leads to is found, and nothing else, and what is found anew waits.
pub record Looks (m : Known) (overridden : Number → Bool) (hidden : Text → Bool) (said : List Mention) (old new : Found) : Type 0 where
  pub keeps_numbers : (n : Number) → old.number n ≡ true → new.number n ≡ true
  pub keeps_functions : (name : Text) → old.function name ≡ true → new.function name ≡ true
  pub keeps_waiting : (s : Scoped) → Contains old.waiting s → Contains new.waiting s
  pub numbers : (name : Text) (a : Assignment) → Says m hidden said name a → new.number a.number ≡ true
  pub functions : (name : Text) (f : FunctionDefinition) → SaysCall m said name f → new.function name ≡ true
  pub new_number : (n : Number) → new.number n ≡ true → (old.number n ≡ true) ⊎ FindsVariable m overridden hidden said new.waiting n
  pub new_function : (name : Text) → new.function name ≡ true → (old.function name ≡ true) ⊎ FindsFunction m said new.waiting name
  pub new_waiting : (s : Scoped) → Contains new.waiting s → Contains old.waiting s ⊎ LeadsOn m overridden hidden said s
  -- so less is left to look at
  pub less : unfound m new + length new.waiting ≤ unfound m old + length old.waiting

-- a call is looked at, whatever else there is, and a variable that is not hidden
abbrev pub LooksAtCall : Known → (Text → Bool) → Text → Search → Search → Type 0
LooksAtCall m visited name old new =
    (overridden : Number → Bool) (hidden : Text → Bool) (references : Number → Bool) (arguments : ℕ) →
    Looks m overridden hidden (Calls name arguments ∷ []) (found_in references visited old) (found_in references visited new)

abbrev pub LooksAtName : Known → (Number → Bool) → (Number → Bool) → Text → Search → Search → Type 0
LooksAtName m overridden references name old new =
    (hidden : Text → Bool) (visited : Text → Bool) → hidden name ≡ false →
    Looks m overridden hidden (Names name ∷ []) (found_in references visited old) (found_in references visited new)

-- what is said is looked at so far as nothing of it is left
pub record LooksSoFar (m : Known) (overridden : Number → Bool) (hidden : Text → Bool) (all : List Mention) (left : List Reference) (old new : Found) : Type 0 where
  pub said : List Mention
  pub whole : said ++ map mention_of left ≡ all
  pub looks : Looks m overridden hidden said old new

-- an expression is looked into: what it leads to is found
pub record IsDone (m : Known) (f : Found) (s : Scoped) : Type 0 where
  pub numbers : (name : Text) (a : Assignment) → Says m s.hidden (mentions s.expression) name a → f.number a.number ≡ true
  pub functions : (name : Text) (d : FunctionDefinition) → SaysCall m (mentions s.expression) name d → f.function name ≡ true

-- it waits, or is looked into
abbrev pub WaitsOrIsSearched : Known → Found → Scoped → Type 0
WaitsOrIsSearched m f s = Contains f.waiting s ⊎ IsDone m f s

-- A variable that one of some expressions reads, each in its scope.
pub record IsReadFrom (m : Known) (firsts : List Scoped) (name : Text) : Type 0 where
  pub from : Scoped
  pub there : Contains firsts from
  pub reads : Reads m from.hidden from.expression name

-- A function that is called from one of some expressions.
pub record IsCalledIn (m : Known) (overridden : Number → Bool) (firsts : List Scoped) (name : Text) : Type 0 where
  pub from : Scoped
  pub there : Contains firsts from
  pub called : IsCalledFrom m overridden from.hidden from.expression name

-- A search from some expressions, with numbers and functions that were there before it.
pub record IsSearchFrom (m : Known) (overridden : Number → Bool) (firsts : List Scoped) (old : Number → Bool) (visited : Text → Bool) (f : Found) : Type 0 where
  pub keeps : (n : Number) → old n ≡ true → f.number n ≡ true
  pub only : (n : Number) → f.number n ≡ true → (old n ≡ true) ⊎ IsNumberIn m (Needs m (overridden_by overridden m) (IsReadFrom m firsts)) n
  pub keeps_functions : (name : Text) → visited name ≡ true → f.function name ≡ true
  pub only_called : (name : Text) → f.function name ≡ true → (visited name ≡ true) ⊎ IsCalledIn m overridden firsts name
  -- whatever is called from what waits is called from where it starts
  pub called : (s : Scoped) → Contains f.waiting s → (name : Text) → IsCalledFrom m overridden s.hidden s.expression name → IsCalledIn m overridden firsts name
  -- whatever is read by what waits is needed
  pub needed : (s : Scoped) → Contains f.waiting s → (name : Text) → Reads m s.hidden s.expression name
      → Needs m (overridden_by overridden m) (IsReadFrom m firsts) name
  -- where it starts, each function that it found, and each variable that it found and that is not overridden, are looked into or wait
  pub start : (s : Scoped) → Contains firsts s → WaitsOrIsSearched m f s
  pub bodies : (name : Text) (d : FunctionDefinition) → find name m.functions ≡ Some d → f.function name ≡ true
      → (visited name ≡ true) ⊎ WaitsOrIsSearched m f (body_scoped d)
  pub values :
      HaveNumbersApart m → (name : Text) (a : Assignment) → find name m.assignments ≡ Some a → overridden a.number ≡ false → f.number a.number ≡ true
      → (old a.number ≡ true) ⊎ WaitsOrIsSearched m f (value_scoped a)
