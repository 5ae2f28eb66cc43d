-- What functions of a module are called.
use Rattle.std.specs.Prelude.{◌≡◌, ◌⊎◌, ℕ, Bool, true, false, Some}
use Rattle.std.specs.List.{Contains}
use Rattle.just_names.specs.Texts.{Text}
use Rattle.just_names.specs.declared.number.Number.{Number}
use Rattle.just_ast_definitions.specs.declared.assignment.Assignment.{Assignment}
use Rattle.just_ast_definitions.specs.declared.function_definition.FunctionDefinition.{FunctionDefinition}
use Rattle.just_ast_expressions.specs.declared.expression.Expression.{Expression}
use Rattle.just_ast_references.specs.Mentions.{Calls, Names}
use Rattle.just_parts.specs.Known.{Known, hides, none_hidden}
use Rattle.just_parts.specs.Needs.{HaveNumbersApart, IsClosed}
use Rattle.just_parts.specs.Reading.{Reads, mentions}
use Rattle.just_table.specs.Entries.{find}

-- A function of the module is called from an expression: at once, from the body of a function that it calls, or from the value of a variable that it names, that is not hidden and not overridden. This is the least such relation.
pub data IsCalledFrom (m : Known) (overridden : Number → Bool) : (Text → Bool) → Expression → Text → Type 0 where
  directly : {hidden : Text → Bool} {e : Expression} {name : Text} {f : FunctionDefinition} (arguments : ℕ) → Contains (mentions e) (Calls name arguments)
      → find name m.functions ≡ Some f → IsCalledFrom m overridden hidden e name
  through_body : {hidden : Text → Bool} {e : Expression} {function name : Text} {f : FunctionDefinition} (arguments : ℕ) → Contains (mentions e) (Calls function arguments)
      → find function m.functions ≡ Some f → IsCalledFrom m overridden (hides f.parameters) f.body name → IsCalledFrom m overridden hidden e name
  through_value : {hidden : Text → Bool} {e : Expression} {variable name : Text} {a : Assignment} → Contains (mentions e) (Names variable) → hidden variable ≡ false
      → find variable m.assignments ≡ Some a → overridden a.number ≡ false → IsCalledFrom m overridden none_hidden a.value name → IsCalledFrom m overridden hidden e name

module _ (m : Known) where
  -- for each visited function, whatever its body reads is among the references
  abbrev pub AreBodiesRead : (Number → Bool) → (Text → Bool) → Type 0
  AreBodiesRead references visited =
      (function name : Text) (f : FunctionDefinition) (a : Assignment) → find function m.functions ≡ Some f → visited function ≡ true →
      find name m.assignments ≡ Some a → Reads m (hides f.parameters) f.body name → references a.number ≡ true

  -- References and visited functions belong together: whatever is read or called from the body of a visited function, or from the value of a reference that is not overridden, is there too. Nothing at all belongs together.
  pub record IsWholeSearch (overridden references : Number → Bool) (visited : Text → Bool) : Type 0 where
    pub closed : IsClosed m overridden references
    pub bodies_read : AreBodiesRead references visited
    pub bodies_called : (function name : Text) (f : FunctionDefinition) → find function m.functions ≡ Some f → visited function ≡ true
        → IsCalledFrom m overridden (hides f.parameters) f.body name → visited name ≡ true
    pub values_called : (variable name : Text) (a : Assignment) → find variable m.assignments ≡ Some a → overridden a.number ≡ false → references a.number ≡ true
        → IsCalledFrom m overridden none_hidden a.value name → visited name ≡ true

  -- Visited functions gain those that are called from an expression, and lose nothing: no others ever, and all of them where they belong together with the references, and numbers tell variables apart.
  pub record GainsCalled (overridden references : Number → Bool) (hidden : Text → Bool) (e : Expression) (old new : Text → Bool) : Type 0 where
    pub keeps : (name : Text) → old name ≡ true → new name ≡ true
    pub only : (name : Text) → new name ≡ true → (old name ≡ true) ⊎ IsCalledFrom m overridden hidden e name
    pub all : HaveNumbersApart m → IsWholeSearch overridden references old → (name : Text) → IsCalledFrom m overridden hidden e name → new name ≡ true
