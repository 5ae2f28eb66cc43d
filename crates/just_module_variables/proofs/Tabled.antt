-- The variables and functions of a module, resolved.
use Rattle.std.proofs.Common.{◌≡◌, ◌∙◌, ℕ, List, [], ◌∷◌, None, Option, Some, ap, refl, subst, sym}
use Rattle.just_names.specs.Texts.{Text}
use Rattle.just_names.specs.declared.name.Name.{Name}
use Rattle.just_names.specs.declared.number.Number.{Number}
use Rattle.std.proofs.lemmas.List.Elements.{All-map, All-nil}
use Rattle.std.specs.HashMap.{HashMap, get}
use Rattle.std.specs.Option.{option_map}
use Rattle.std.specs.Str.{bytes_eq}
use Rattle.std.specs.declared.alloc.Global.{Global}
use Rattle.std.specs.declared.vec.Vec.{Vec}
use Rattle.just_parts.specs.Syntax.{SyntaxAnswers}
use Rattle.just_ast_definitions.specs.declared.assignment.Assignment.{Assignment}
use Rattle.just_ast_definitions.specs.declared.function_definition.FunctionDefinition.{FunctionDefinition}
use Rattle.just_table.specs.Entries.{IsKeyed, find, put, put_all}
use Rattle.just_table.proofs.Shown.{put_keyed}
use Rattle.just_module_contents.specs.Contents.{Contents}
use Rattle.just_module_contents.specs.Known.{functions_under, variables_under}
use Rattle.just_module_contents.specs.Kept.{kept_variables}
use Rattle.just_module_variables.specs.Numbered.{name_of_assignment, name_of_function, numbered_assignment, numbered_function}
use Rattle.just_module_variables.proofs.Asking.{tables_apart}
use Rattle.just_name_resolution.proofs.Alike.{find_changed}
use Rattle.just_parts.specs.Needs.{HaveNumbersApart}
use Rattle.just_module_variables.specs.Resolved.{AreInOrder, ResolvesTo}
use Rattle.just_parts.specs.Known.{Known, known}
use Rattle.just_module_variables.specs.Variables.{AreTables, AreVariables, known_with_numbers, variable_number}

-- what keeps a number, over what may be there
mapped_number : (f : Assignment → Assignment) → ((a : Assignment) → (f a).number ≡ a.number) → (o : Option Assignment) → option_map (λ (a : Assignment). a.number) (option_map f o) ≡ option_map (λ (a : Assignment). a.number) o
mapped_number f same None = refl
mapped_number f same (Some a) = ap (λ n. Some n) (same a)

all_keyed : {V : Type 0} (key_of : V → List ℕ) (es : List (List ℕ × V)) → IsKeyed key_of es → (vs : List V) → IsKeyed key_of (put_all key_of es vs)
all_keyed key_of es keyed [] = keyed
all_keyed key_of es keyed (v ∷ vs) = all_keyed key_of (put (key_of v) v es) (put_keyed key_of v es keyed) vs

module _ (answers : SyntaxAnswers) (m : Contents) where
  variables_keyed : IsKeyed name_of_assignment (variables_under m.variables)
  variables_keyed = all_keyed name_of_assignment [] (All-nil (λ (e : Text × Assignment). name_of_assignment e.1 ≡ e.0)) (kept_variables m.variables)

  functions_keyed : IsKeyed name_of_function (functions_under m.functions)
  functions_keyed = all_keyed name_of_function [] (All-nil (λ (e : Text × FunctionDefinition). name_of_function e.1 ≡ e.0)) m.functions

  -- they are tables, where numbers tell variables apart
  pub are_tables : (vs : List (Text × Assignment)) (fs : List (Text × FunctionDefinition)) (order : List Name) → AreVariables answers m vs fs order
      → HaveNumbersApart (known_with_numbers answers m) → AreTables vs fs
  are_tables vs fs order is apart =
      let numbered = known_with_numbers answers m in
      record {
        variables_keyed = subst (IsKeyed name_of_assignment) (sym is.assignments_are)
            (All-map (λ (e : Text × Assignment). name_of_assignment e.1 ≡ e.0) (λ (e : Text × Assignment). (e.0, numbered_assignment numbered e.1)) (variables_under m.variables) variables_keyed);
        functions_keyed = subst (IsKeyed name_of_function) (sym is.functions_are)
            (All-map (λ (e : Text × FunctionDefinition). name_of_function e.1 ≡ e.0) (λ (e : Text × FunctionDefinition). (e.0, numbered_function numbered e.1)) (functions_under m.functions) functions_keyed);
        apart = tables_apart answers m vs fs order is apart;
      }

  -- tables of these definitions, resolved
  pub are_variables : (variables : List (Text × Assignment)) (functions : List (Text × FunctionDefinition)) → variables ≡ variables_under m.variables → functions ≡ functions_under m.functions
      → {H : Type 0} (made : HashMap Text Number H × Vec Name Global) (assignments : List (Text × Assignment)) (bodies : List (Text × FunctionDefinition))
      → ResolvesTo (known answers variables functions) made assignments bodies → AreVariables answers m assignments bodies made.1.items
  are_variables variables functions same alike made assignments bodies resolved =
      let known_same : known answers variables functions ≡ known_with_numbers answers m = λ i. known answers (same i) (alike i) in
      let is = subst (λ (k : Known). ResolvesTo k made assignments bodies) known_same resolved variables_keyed functions_keyed in
      record { assignments_are = is.assignments_are; functions_are = is.functions_are; evaluation_order = is.evaluation_order }

  -- numbers that are told by names in such tables
  pub are_numbers : (variables : List (Text × Assignment)) (functions : List (Text × FunctionDefinition)) → variables ≡ variables_under m.variables → functions ≡ functions_under m.functions
      → {H : Type 0} (made : HashMap Text Number H × Vec Name Global) (assignments : List (Text × Assignment)) (bodies : List (Text × FunctionDefinition))
      → ResolvesTo (known answers variables functions) made assignments bodies → (name : Text) → get bytes_eq made.0 name ≡ variable_number assignments name
  are_numbers variables functions same alike made assignments bodies resolved name =
      let numbered = known_with_numbers answers m in
      let known_same : known answers variables functions ≡ numbered = λ i. known answers (same i) (alike i) in
      let is = subst (λ (k : Known). ResolvesTo k made assignments bodies) known_same resolved variables_keyed functions_keyed in
      is.bindings name ∙ (sym (mapped_number (numbered_assignment numbered) (λ a. refl) (find name (variables_under m.variables)))
      ∙ (ap (λ (o : Option Assignment). option_map (λ (a : Assignment). a.number) o) (sym (find_changed (numbered_assignment numbered) name (variables_under m.variables)))
      ∙ ap (λ (vs : List (Text × Assignment)). variable_number vs name) (sym is.assignments_are)))

  -- the same of equal tables
  pub variables_had : (assignments : List (Text × Assignment)) (functions : List (Text × FunctionDefinition)) (order : List Name) → AreVariables answers m assignments functions order
      → (vs : List (Text × Assignment)) (fs : List (Text × FunctionDefinition)) (ns : List Name) → vs ≡ assignments → fs ≡ functions → ns ≡ order → AreVariables answers m vs fs ns
  variables_had assignments functions order is vs fs ns same alike ordered = record {
    assignments_are = same ∙ is.assignments_are;
    functions_are = alike ∙ is.functions_are;
    evaluation_order = subst (AreInOrder (known_with_numbers answers m)) (sym ordered) is.evaluation_order;
  }
