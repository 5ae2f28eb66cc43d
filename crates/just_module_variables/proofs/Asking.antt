-- What is asked of the evaluation about a module: by its tables with numbers, and by what its names stand for without.
use Rattle.std.proofs.Common.{◌≡◌, ◌∙◌, ◌||◌, Bool, true, false, List, [], ◌∷◌, map, length, Option, None, Some, refl, sym, ap, subst}
use Rattle.std.specs.Prelude.{if◌then◌else◌}
use Rattle.std.specs.List.{Contains}
use Rattle.std.specs.Option.{IsSome, is_some, option_and_then, option_map, option_map_or}
use Rattle.std.specs.Str.{bytes_eq}
use Rattle.std.proofs.lemmas.Bool.{false≢true}
use Rattle.std.proofs.lemmas.List.{length-map}
use Rattle.just_names.specs.Texts.{Text}
use Rattle.just_names.specs.Name.{text_of_name}
use Rattle.just_names.specs.declared.name.Name.{Name}
use Rattle.just_names.specs.declared.number.Number.{Number}
use Rattle.just_errors.specs.Causes.{Cause}
use Rattle.just_names.specs.Index.{texts_of_names}
use Rattle.just_module_contents.specs.Constants.{AsksFor, IsNeeded, functions_asked, is_overridden, overriding}
use Rattle.just_module_contents.specs.Contents.{Contents}
use Rattle.just_module_contents.specs.Known.{functions_under, known_of, variables_under}
use Rattle.just_module_variables.specs.Numbered.{number_in_function, numbered_assignment, numbered_assignments, numbered_function, numbered_functions}
use Rattle.just_parts.specs.Bare.{bare_function, bare_function_parameter}
use Rattle.just_parts.specs.Evaluator.{functions_by_name, needed_by, override_by, unnumbered, unnumbered_assignment, unnumbered_function, wanted_by}
use Rattle.just_parts.specs.Known.{Known, defines, hides, known, none_hidden, range_of, sources}
use Rattle.just_parts.specs.Located.{located_assignment}
use Rattle.just_parts.specs.Needs.{AreNeededBy, HaveNumbersApart, IsClosed, Needs, onward, overridden_by, starts}
use Rattle.just_parts.specs.Reading.{IsEvaluationOrder, IsReadIn, Reads, at_once, through}
use Rattle.just_parts.specs.Syntax.{SyntaxAnswers}
use Rattle.just_ast_definitions.specs.declared.assignment.Assignment.{Assignment}
use Rattle.just_ast_expressions.specs.declared.expression.Expression.{Expression}
use Rattle.just_ast_definitions.specs.declared.function_definition.FunctionDefinition.{FunctionDefinition}
use Rattle.just_ast_definitions.specs.declared.function_definition.FunctionParameter.{FunctionParameter}
use Rattle.just_ast_references.specs.References.{references}
use Rattle.just_ast_references.proofs.Renumbering.{keeps_references, numbers_stay}
use Rattle.just_table.specs.Entries.{find}
use Rattle.just_parts.specs.Misnaming.{Misnames}
use Rattle.just_parts.proofs.Barer.{bare_parameters}
use Rattle.just_name_resolution.proofs.Placed.{the_value}
use Rattle.just_name_resolution.proofs.Alike.{some_found, find_changed}
use Rattle.just_module_variables.specs.Variables.{AreVariables, known_with_numbers}
use Rattle.just_module_variables.proofs.Judging.{bare_is, bare_of}
use Rattle.just_module_variables.proofs.Similar.{AreSimilar, changed_similar, defined_changed, misnames_same, needs_similar, order_of_similar, range_changed, read_in_similar, similar_changed, similar_then}
use Rattle.just_module_variables.proofs.Substituted.{changed_again, changed_same}

hides_bare : (ps : List FunctionParameter) (name : Text) → hides (map bare_function_parameter ps) name ≡ hides ps name
hides_bare [] name = refl
hides_bare (p ∷ ps) name = ap (λ b. bytes_eq (text_of_name p.name) name || b) (hides_bare ps name)

is_some_changed : {V W : Type 0} (f : V → W) (o : Option V) → is_some (option_map f o) ≡ is_some o
is_some_changed f None = refl
is_some_changed f (Some x) = refl

-- what is needed is a variable
reads_variable : {m : Known} {hidden : Text → Bool} {e : Expression} {name : Text} → Reads m hidden e name → IsSome (find name m.assignments)
reads_variable (at_once c h s) = s
reads_variable (through count c found r) = reads_variable r

needs_variable : {m : Known} {o : Text → Bool} (es : List Expression) {name : Text} → Needs m o (IsReadIn m es) name → IsSome (find name m.assignments)
needs_variable es (starts r) = reads_variable r.reads
needs_variable es (onward need on step) = reads_variable step.reads

module _ (answers : SyntaxAnswers) (m : Contents) where
  abbrev numbered : Known
  numbered = known_with_numbers answers m

  abbrev variables : List (Text × Assignment)
  variables = variables_under m.variables

  abbrev functions : List (Text × FunctionDefinition)
  functions = functions_under m.functions

  abbrev with_their_numbers : Known
  with_their_numbers = known answers (numbered_assignments numbered) (numbered_functions numbered)

  value_keeps : (a : Assignment) → references (numbered_assignment numbered a).value ≡ references a.value
  value_keeps a = keeps_references (number_in_function numbered []) a.value

  body_keeps : (f : FunctionDefinition) → references (numbered_function numbered f).body ≡ references f.body
  body_keeps f = keeps_references (number_in_function numbered f.parameters) f.body

  to_numbers : AreSimilar variables (numbered_assignments numbered) functions (numbered_functions numbered)
  to_numbers = similar_changed (numbered_assignment numbered) (numbered_function numbered) value_keeps (λ f. refl) body_keeps variables functions

  from_numbers : AreSimilar (numbered_assignments numbered) variables (numbered_functions numbered) functions
  from_numbers = changed_similar (numbered_assignment numbered) (numbered_function numbered) value_keeps (λ f. refl) body_keeps variables functions

  hidden_bare : (f : FunctionDefinition) → hides (bare_function f).parameters ≡ hides f.parameters
  hidden_bare f = λ i name. hides_bare f.parameters name i

  to_bare : AreSimilar variables (bare_of answers m).assignments functions (bare_of answers m).functions
  to_bare = similar_changed located_assignment bare_function (λ a. refl) hidden_bare (λ f. refl) variables functions

  from_bare : AreSimilar (bare_of answers m).assignments variables (bare_of answers m).functions functions
  from_bare = changed_similar located_assignment bare_function (λ a. refl) hidden_bare (λ f. refl) variables functions

  -- the same names are at fault
  count_bare : (f : FunctionDefinition) → length (bare_function f).parameters ≡ length f.parameters
  count_bare f = length-map f.parameters bare_function_parameter

  bare_range : (name : Text) → range_of (bare_of answers m) name ≡ range_of with_their_numbers name
  bare_range name =
      range_changed answers located_assignment bare_function count_bare variables functions name
      ∙ sym (range_changed answers (numbered_assignment numbered) (numbered_function numbered) (λ f. refl) variables functions name)

  bare_defined : (hidden : Text → Bool) (name : Text) → defines (bare_of answers m) hidden name ≡ defines with_their_numbers hidden name
  bare_defined hidden name =
      defined_changed answers located_assignment bare_function count_bare variables functions hidden name
      ∙ sym (defined_changed answers (numbered_assignment numbered) (numbered_function numbered) (λ f. refl) variables functions hidden name)

  -- variables and functions without numbers
  assignment_asked : (a : Assignment) → unnumbered_assignment (numbered_assignment numbered a) ≡ unnumbered_assignment (located_assignment a)
  assignment_asked a = λ i. record (unnumbered_assignment a) { value = numbers_stay (number_in_function numbered []) (λ name. None) a.value i }

  function_asked : (f : FunctionDefinition) → unnumbered_function (numbered_function numbered f) ≡ unnumbered_function (bare_function f)
  function_asked f = λ i. record f { parameters = sym (bare_parameters f.parameters) i; body = numbers_stay (number_in_function numbered f.parameters) (λ name. None) f.body i }

  function_found : (o : Option FunctionDefinition) → option_map unnumbered_function (option_map (numbered_function numbered) o) ≡ option_map unnumbered_function (option_map bare_function o)
  function_found None = refl
  function_found (Some f) = ap (λ (x : FunctionDefinition). Some x) (function_asked f)

  bare_asked : unnumbered (numbered_assignments numbered) ≡ unnumbered (bare_of answers m).assignments
  bare_asked =
      changed_again (numbered_assignment numbered) unnumbered_assignment variables
      ∙ changed_same (λ a. unnumbered_assignment (numbered_assignment numbered a)) (λ a. unnumbered_assignment (located_assignment a)) assignment_asked variables
      ∙ sym (changed_again located_assignment unnumbered_assignment variables)

  bare_functions_asked : (name : Text) → functions_by_name (numbered_functions numbered) name ≡ functions_by_name (bare_of answers m).functions name
  bare_functions_asked name =
      ap (option_map unnumbered_function) (find_changed (numbered_function numbered) name functions)
      ∙ function_found (find name functions)
      ∙ ap (option_map unnumbered_function) (sym (find_changed bare_function name functions))

  -- of tables that the code has
  module _ (vs : List (Text × Assignment)) (fs : List (Text × FunctionDefinition)) (order : List Name) (is : AreVariables answers m vs fs order) where
    abbrev tables : Known
    tables = known answers vs fs

    tables_are : with_their_numbers ≡ tables
    tables_are = λ i. known answers (sym is.assignments_are i) (sym is.functions_are i)

    pub known_from_tables : AreSimilar vs (known_of answers m).assignments fs (known_of answers m).functions
    known_from_tables =
        let first : AreSimilar (numbered_assignments numbered) (bare_of answers m).assignments (numbered_functions numbered) (bare_of answers m).functions =
        similar_then (numbered_assignments numbered) variables (bare_of answers m).assignments (numbered_functions numbered) functions (bare_of answers m).functions from_numbers to_bare in
        subst (λ (k : Known). AreSimilar vs k.assignments fs k.functions) (bare_is answers m)
        (subst (λ (k : Known). AreSimilar k.assignments (bare_of answers m).assignments k.functions (bare_of answers m).functions) tables_are first)

    pub tables_from_known : AreSimilar (known_of answers m).assignments vs (known_of answers m).functions fs
    tables_from_known =
        let first : AreSimilar (bare_of answers m).assignments (numbered_assignments numbered) (bare_of answers m).functions (numbered_functions numbered) =
        similar_then (bare_of answers m).assignments variables (numbered_assignments numbered) (bare_of answers m).functions functions (numbered_functions numbered) from_bare to_numbers in
        subst (λ (k : Known). AreSimilar k.assignments vs k.functions fs) (bare_is answers m)
        (subst (λ (k : Known). AreSimilar (bare_of answers m).assignments k.assignments (bare_of answers m).functions k.functions) tables_are first)

    pub tables_ordered : IsEvaluationOrder (sources vs fs) (texts_of_names order)
    tables_ordered =
        order_of_similar numbered (sources vs fs)
        (subst (λ (k : Known). AreSimilar variables k.assignments functions k.functions) tables_are to_numbers)
        (subst (λ (k : Known). AreSimilar k.assignments variables k.functions functions) tables_are from_numbers)
        (texts_of_names order) is.evaluation_order.in_order

    pub misnames_known : {hidden : Text → Bool} {e : Expression} {c : Cause} → Misnames tables hidden e c → Misnames (known_of answers m) hidden e c
    misnames_known {hidden} {e} {c} b =
        subst (λ (k : Known). Misnames k hidden e c) (bare_is answers m)
        (misnames_same with_their_numbers (bare_of answers m) bare_range bare_defined (subst (λ (k : Known). Misnames k hidden e c) (sym tables_are) b))

    pub misnames_tables : {hidden : Text → Bool} {e : Expression} {c : Cause} → Misnames (known_of answers m) hidden e c → Misnames tables hidden e c
    misnames_tables {hidden} {e} {c} b =
        subst (λ (k : Known). Misnames k hidden e c) tables_are
        (misnames_same (bare_of answers m) with_their_numbers (λ name. sym (bare_range name)) (λ h name. sym (bare_defined h name)) (subst (λ (k : Known). Misnames k hidden e c) (sym (bare_is answers m)) b))

    pub tables_asked : unnumbered vs ≡ unnumbered (known_of answers m).assignments
    tables_asked = ap unnumbered is.assignments_are ∙ bare_asked ∙ ap (λ (k : Known). unnumbered k.assignments) (bare_is answers m)

    pub tables_functions : functions_by_name fs ≡ functions_asked m
    tables_functions =
        let at : ((name : Text) → functions_by_name fs name ≡ functions_asked m name) = (λ name.
        ap (λ gs. functions_by_name gs name) is.functions_are ∙ bare_functions_asked name ∙ ap (λ (k : Known). functions_by_name k.functions name) (bare_is answers m)) in
        λ i name. at name i

    found_numbered : (name : Text) (a : Assignment) → find name vs ≡ Some a → (b : Assignment) × (find name variables ≡ Some b) × (numbered_assignment numbered b ≡ a)
    found_numbered name a found = some_found (numbered_assignment numbered) name variables a (ap (find name) (sym is.assignments_are) ∙ found)

    pub tables_apart : HaveNumbersApart numbered → HaveNumbersApart tables
    tables_apart apart x y a b is_a is_b same =
        let c = found_numbered x a is_a in
        let d = found_numbered y b is_b in
        apart x y c.0 d.0 c.1 d.1 (ap (λ (z : Assignment). z.number) c.2 ∙ same ∙ sym (ap (λ (z : Assignment). z.number) d.2))

    is_variable : (name : Text) → is_some (find name vs) ≡ is_some (find name (known_of answers m).assignments)
    is_variable name =
        ap (λ es. is_some (find name es)) is.assignments_are
        ∙ (ap is_some (find_changed (numbered_assignment numbered) name variables) ∙ is_some_changed (numbered_assignment numbered) (find name variables))
        ∙ sym (ap is_some (find_changed located_assignment name variables) ∙ is_some_changed located_assignment (find name variables))
        ∙ ap (λ (k : Known). is_some (find name k.assignments)) (bare_is answers m)

    -- what variables read is told by the tables alone
    abbrev told : Known
    told = sources vs fs

    -- the question of these tables, where numbers tell which variables are overridden and needed
    module _ (overrides : Text → Option Text) (es : List Expression) (lists : Bool) (numbers : Number → Option Text) (set : Number → Bool)
        (says : (name : Text) (a : Assignment) → find name vs ≡ Some a → numbers a.number ≡ overrides name) (apart : HaveNumbersApart numbered)
        (are_needed : AreNeededBy told (λ n. is_some (numbers n)) es set) where
      abbrev over : Number → Bool
      over n = is_some (numbers n)

      override_found : (name : Text) (o : Option Assignment) → find name vs ≡ o → option_and_then (λ (a : Assignment). numbers a.number) o ≡ (if is_some o then overrides name else None)
      override_found name None found = refl
      override_found name (Some a) found = says name a found

      override_asked : (name : Text) → override_by vs numbers name ≡ overriding (known_of answers m) overrides name
      override_asked name = override_found name (find name vs) refl ∙ ap (λ b. if b then overrides name else None) (is_variable name)

      over_found : (o : Option Assignment) → option_map_or (λ (a : Assignment). over a.number) o false ≡ is_some (option_and_then (λ (a : Assignment). numbers a.number) o)
      over_found None = refl
      over_found (Some a) = refl

      over_asked : (name : Text) → overridden_by over told name ≡ is_overridden (known_of answers m) overrides name
      over_asked name = over_found (find name vs) ∙ ap is_some (override_asked name)

      abbrev NeededHere : Text → Type 0
      NeededHere = Needs told (overridden_by over told) (IsReadIn told es)

      needed_known : {name : Text} → NeededHere name → IsNeeded (known_of answers m) overrides es name
      needed_known need =
          needs_similar told (known_of answers m) known_from_tables (overridden_by over told) (is_overridden (known_of answers m) overrides)
          (IsReadIn told es) (IsReadIn (known_of answers m) es) (λ name. sym (over_asked name)) (read_in_similar told (known_of answers m) known_from_tables es) need

      needed_here : {name : Text} → IsNeeded (known_of answers m) overrides es name → NeededHere name
      needed_here need =
          needs_similar (known_of answers m) told tables_from_known (is_overridden (known_of answers m) overrides) (overridden_by over told)
          (IsReadIn (known_of answers m) es) (IsReadIn told es) over_asked (read_in_similar (known_of answers m) told tables_from_known es) need

      -- a variable is in the set exactly where it is needed
      in_set : (name : Text) (a : Assignment) → find name vs ≡ Some a → set a.number ≡ true → NeededHere name
      in_set name a found there =
          let i = (are_needed (tables_apart apart) a.number).0 there in
          subst NeededHere (tables_apart apart i.name name i.assigned a i.is found i.number) i.there

      to_set : (name : Text) (a : Assignment) → find name vs ≡ Some a → NeededHere name → set a.number ≡ true
      to_set name a found need = (are_needed (tables_apart apart) a.number).1 (record { name = name; assigned = a; is = found; number = refl; there = need })

      set_found : (name : Text) (o : Option Assignment) → find name vs ≡ o → option_map_or (λ (a : Assignment). set a.number) o false ≡ true → NeededHere name
      set_found name None found h = absurd (false≢true h)
      set_found name (Some a) found h = in_set name a found h

      set_asked : (name : Text) → IsNeeded (known_of answers m) overrides es name → needed_by vs set name ≡ true
      set_asked name need =
          let here = needed_here need in
          let a = the_value (find name vs) (needs_variable es here) in
          ap (λ o. option_map_or (λ (x : Assignment). set x.number) o false) a.1 ∙ to_set name a.0 a.1 here

      pub tables_ask : AsksFor (known_of answers m) overrides es lists (wanted_by vs fs numbers set lists)
      tables_ask = record {
        assignments = tables_asked;
        functions = tables_functions;
        overrides = λ i name. override_asked name i;
        needed = λ name. (λ h. needed_known (set_found name (find name vs) refl h), set_asked name);
        lists = refl;
      }

      -- with the number of a variable it has those of whatever the variable reads
      pub tables_closed : IsClosed (sources vs fs) over set
      tables_closed from to a b is_a is_b step free there =
          let on : overridden_by over told from ≡ false = ap (λ o. option_map_or (λ (x : Assignment). over x.number) o false) is_a ∙ free in
          to_set to b is_b (onward (in_set from a is_a there) on step)

      -- what one of the expressions reads is needed
      pub tables_read : (e : Expression) → Contains es e → (name : Text) → Reads (sources vs fs) none_hidden e name → needed_by vs set name ≡ true
      tables_read e there name r =
          let read : IsReadIn (sources vs fs) es name = record { e = e; there = there; reads = r } in
          set_asked name (needed_known (starts read))
