-- Numbers that are collected, start after start.
use Rattle.std.specs.Prelude.{◌≡◌, ◌⊎◌, Bool, true, false, List, Some}
use Rattle.std.specs.List.{Contains}
use Rattle.just_names.specs.Texts.{Text}
use Rattle.just_names.specs.declared.number.Number.{Number}
use Rattle.just_ast_definitions.specs.declared.assignment.Assignment.{Assignment}
use Rattle.just_ast_definitions.specs.declared.function_definition.FunctionDefinition.{FunctionDefinition}
use Rattle.just_name_resolution.specs.Called.{IsCalledFrom, IsWholeSearch}
use Rattle.just_parts.specs.Known.{Known, hides, none_hidden}
use Rattle.just_parts.specs.Needs.{HaveNumbersApart, IsNumberIn, LosesNothing, Needs, overridden_by}
use Rattle.just_parts.specs.Reading.{Reads}
use Rattle.just_table.specs.Entries.{find}

-- a variable that the body of a function of the module reads
pub record IsReadInBody (m : Known) (function name : Text) : Type 0 where
  pub definition : FunctionDefinition
  pub is : find function m.functions ≡ Some definition
  pub reads : Reads m (hides definition.parameters) definition.body name

-- a variable that one of some names leads to
pub record ComesFrom (leads : Text → Text → Type 0) (names : List Text) (variable : Text) : Type 0 where
  pub from : Text
  pub there : Contains names from
  pub leads_there : leads from variable

-- a name leads to itself
abbrev pub IsItself : Text → Text → Type 0
IsItself name variable = variable ≡ name

-- variables, and what the bodies of functions read
abbrev pub IsStart : Known → List Text → List Text → Text → Type 0
IsStart m variables functions name = ComesFrom IsItself variables name ⊎ ComesFrom (IsReadInBody m) functions name

module _ (m : Known) (overridden : Number → Bool) where
  abbrev pub HaveNumbers : (Text → Type 0) → (Number → Bool) → Type 0
  HaveNumbers start references = (name : Text) (a : Assignment) → start name → find name m.assignments ≡ Some a → references a.number ≡ true

  -- Numbers gain only what is needed from a start, and lose nothing; and where numbers tell variables apart, and numbers and functions belonged together, they still do, and there are those of the start.
  pub record Collects (start : Text → Type 0) (old : Number → Bool) (visited : Text → Bool) (new : Number → Bool) (more : Text → Bool) : Type 0 where
    pub keeps : LosesNothing old new
    pub only : (n : Number) → new n ≡ true → (old n ≡ true) ⊎ IsNumberIn m (Needs m (overridden_by overridden m) start) n
    pub whole : HaveNumbersApart m → IsWholeSearch m overridden old visited → IsWholeSearch m overridden new more
    pub all : HaveNumbersApart m → IsWholeSearch m overridden old visited → HaveNumbers start new

  -- What the value of a variable needs is collected, and what it calls, unless the variable is overridden.
  pub record CollectsValue (a : Assignment) (old : Number → Bool) (visited : Text → Bool) (new : Number → Bool) (more : Text → Bool) : Type 0 where
    pub keeps : LosesNothing old new
    pub only : (n : Number) → new n ≡ true
        → (old n ≡ true) ⊎ ((overridden a.number ≡ false) × IsNumberIn m (Needs m (overridden_by overridden m) (Reads m none_hidden a.value)) n)
    pub whole : HaveNumbersApart m → IsWholeSearch m overridden old visited → IsWholeSearch m overridden new more
    pub all : HaveNumbersApart m → IsWholeSearch m overridden old visited → overridden a.number ≡ false → HaveNumbers (Reads m none_hidden a.value) new
    pub called : HaveNumbersApart m → IsWholeSearch m overridden old visited → overridden a.number ≡ false → (name : Text) → IsCalledFrom m overridden none_hidden a.value name → more name ≡ true
