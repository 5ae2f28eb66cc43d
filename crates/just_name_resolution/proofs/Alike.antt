-- What two modules have in common whose variables and functions differ in their numbers, depths and marks alone.
use Rattle.std.proofs.Common.{◌≡◌, ℕ, ◌<◌, Bool, true, false, cond, ◌||◌, List, [], ◌∷◌, map, length, get_or, Option, None, Some, refl, sym, ◌∙◌, ap, subst, subst₂, arith}
use Rattle.std.specs.Cmp.Lexicographic.{slice_cmp}
use Rattle.std.specs.List.{Contains, list_any}
use Rattle.std.specs.Map.{values_of}
use Rattle.std.specs.Option.{IsSome, is_some, option_map}
use Rattle.std.specs.Ordering.{match_ordering, nat_cmp}
use Rattle.std.specs.Str.{bytes_eq}
use Rattle.std.specs.declared.cmp.Ordering.{Ordering}
use Rattle.std.specs.declared.cmp.Ordering.TheVariants.{Equal, Greater, Less}
use Rattle.std.proofs.lemmas.List.{get_or-map, length-map}
use Rattle.std.proofs.lemmas.Option.{get_or_from_slice_get}
use Rattle.just_errors.specs.Causes.{Cause, Broken}
use Rattle.just_errors.specs.declared.compile_error.CompileErrorKind.TheVariants as kind
use Rattle.just_errors.specs.declared.phrases.ArgumentRange.{ArgumentRange}
use Rattle.just_graph.proofs.Index.{some_same, some_at}
use Rattle.just_names.specs.Texts.{Text}
use Rattle.just_names.specs.Name.{text_of_name}
use Rattle.just_names.specs.declared.name.Name.{Name}
use Rattle.just_names.specs.declared.number.Number.{Number}
use Rattle.just_parts.specs.Syntax.{SyntaxAnswers}
use Rattle.just_ast_definitions.specs.declared.assignment.Assignment.{Assignment}
use Rattle.just_ast_expressions.specs.declared.expression.Expression.{Expression}
use Rattle.just_ast_definitions.specs.declared.function_definition.FunctionDefinition.{FunctionDefinition}
use Rattle.just_ast_definitions.specs.declared.function_definition.FunctionParameter.{FunctionParameter}
use Rattle.just_ast_references.specs.declared.references.Reference.{Reference}
use Rattle.just_table.specs.Entries.{find, put, put_all}
use Rattle.just_parts.specs.Known.{Known, defines, hides, known, none_hidden, range_of, range_with}
use Rattle.just_parts.specs.Misnaming.{Expressions, IsCircleOf, Misnames, MisnamesAt, argument_count, circular_variables, in_body, in_value, undefined_function, undefined_variable}
use Rattle.just_parts.specs.Reading.{IsEvaluationOrder, Reads, ReadsOn, at_once, through}
use Rattle.just_name_resolution.proofs.Placed.{the_value}

abbrev pub parameter_names : FunctionDefinition → List Name
parameter_names f = map (λ (p : FunctionParameter). p.name) f.parameters

-- What the first module has under a name, the second has too, with the same name and value, or names of parameters and body. What it has not, the second has not.
pub record AreAlike (m n : Known) : Type 0 where
  pub variables : (name : Text) (a : Assignment) → find name m.assignments ≡ Some a → (b : Assignment) × (find name n.assignments ≡ Some b) × (b.name ≡ a.name) × (b.value ≡ a.value)
  pub no_variable : (name : Text) → find name m.assignments ≡ None → find name n.assignments ≡ None
  pub functions : (name : Text) (f : FunctionDefinition) → find name m.functions ≡ Some f → (g : FunctionDefinition) × (find name n.functions ≡ Some g) × (parameter_names g ≡ parameter_names f) × (g.body ≡ f.body)
  pub no_function : (name : Text) → find name m.functions ≡ None → find name n.functions ≡ None
  pub values : (a : Assignment) → Contains (values_of m.assignments) a → (b : Assignment) × Contains (values_of n.assignments) b × (b.value ≡ a.value)
  pub bodies : (f : FunctionDefinition) → Contains (values_of m.functions) f → (g : FunctionDefinition) × Contains (values_of n.functions) g × (parameter_names g ≡ parameter_names f) × (g.body ≡ f.body)
  pub builtin : m.builtin ≡ n.builtin
  pub constant : m.constant ≡ n.constant

hides_named : (ps : List FunctionParameter) (name : Text) → hides ps name ≡ list_any (λ (x : Name). bytes_eq (text_of_name x) name) (map (λ (p : FunctionParameter). p.name) ps)
hides_named [] name = refl
hides_named (p ∷ ps) name = ap (λ b. bytes_eq (text_of_name p.name) name || b) (hides_named ps name)

-- parameters of the same names hide the same
pub same_hidden : (f g : FunctionDefinition) → parameter_names g ≡ parameter_names f → hides f.parameters ≡ hides g.parameters
same_hidden f g e =
    let at : ((name : Text) → hides f.parameters name ≡ hides g.parameters name) =
    (λ name. hides_named f.parameters name ∙ (ap (list_any (λ (x : Name). bytes_eq (text_of_name x) name)) (sym e) ∙ sym (hides_named g.parameters name))) in
    λ i name. at name i

-- and are as many
pub same_count : (f g : FunctionDefinition) → parameter_names g ≡ parameter_names f → length f.parameters ≡ length g.parameters
same_count f g e =
    sym (length-map f.parameters (λ (p : FunctionParameter). p.name)) ∙ (ap length (sym e) ∙ length-map g.parameters (λ (p : FunctionParameter). p.name))

module _ (m n : Known) (alike : AreAlike m n) where
  pub variable_alike : (name : Text) → IsSome (find name m.assignments) → IsSome (find name n.assignments)
  variable_alike name s =
      let v = the_value (find name m.assignments) s in ap is_some (alike.variables name v.0 v.1).1

  -- the same names are variables
  is_variable : (name : Text) (o : Option Assignment) → find name m.assignments ≡ o → is_some (find name m.assignments) ≡ is_some (find name n.assignments)
  is_variable name None e = ap is_some (e ∙ sym (alike.no_variable name e))
  is_variable name (Some a) e = ap is_some e ∙ sym (ap is_some (alike.variables name a e).1)

  same_defined : (hidden : Text → Bool) (name : Text) → defines m hidden name ≡ defines n hidden name
  same_defined hidden name =
      ap (λ b. hidden name || (b || is_some (m.constant name))) (is_variable name (find name m.assignments) refl)
      ∙ ap (λ (c : Text → Option Number). hidden name || (is_some (find name n.assignments) || is_some (c name))) alike.constant

  -- and functions take as many arguments
  range_found : (name : Text) (o : Option FunctionDefinition) → find name m.functions ≡ o → range_of m name ≡ range_of n name
  range_found name None e =
      ap (λ o. range_with o (m.builtin name)) (e ∙ sym (alike.no_function name e)) ∙ ap (λ (b : Text → Option ArgumentRange). range_with (find name n.functions) (b name)) alike.builtin
  range_found name (Some f) e =
      let g = alike.functions name f e in
      let count : length f.parameters ≡ length g.0.parameters = same_count f g.0 g.2 in
      let same : range_with (Some f) (m.builtin name) ≡ range_with (Some g.0) (n.builtin name) = ap (λ (k : ℕ). Some (record { min = k; max = k })) count in
      ap (λ o. range_with o (m.builtin name)) e ∙ (same ∙ ap (λ o. range_with o (n.builtin name)) (sym g.1))

  same_range : (name : Text) → range_of m name ≡ range_of n name
  same_range name = range_found name (find name m.functions) refl

  -- an expression reads the same variables
  pub reads_alike : {hidden : Text → Bool} {e : Expression} {name : Text} → Reads m hidden e name → Reads n hidden e name
  reads_alike {name = name} (at_once c h s) = at_once c h (variable_alike name s)
  reads_alike {name = name} (through {function = function} {f = f} count c found r) =
      let g = alike.functions function f found in
      through count c g.1 (subst₂ (λ (h : Text → Bool) (e : Expression). Reads n h e name) (same_hidden f g.0 g.2) (sym g.3) (reads_alike r))

  pub reads_on_alike : {from to : Text} → ReadsOn m from to → ReadsOn n from to
  reads_on_alike {from} {to} r =
      let b = alike.variables from r.assigned r.is in
      record { assigned = b.0; is = b.1; reads = subst (λ (e : Expression). Reads n none_hidden e to) (sym b.3) (reads_alike r.reads) }

  -- the same names are at fault
  misnames_at_alike : {hidden : Text → Bool} {at : Reference} {c : Cause} → MisnamesAt m hidden at c → MisnamesAt n hidden at c
  misnames_at_alike (undefined_function {name = name} e) = undefined_function (sym (same_range (text_of_name name)) ∙ e)
  misnames_at_alike (argument_count {name = name} e apart) = argument_count (sym (same_range (text_of_name name)) ∙ e) apart
  misnames_at_alike {hidden} (undefined_variable {name = name} e) = undefined_variable (sym (same_defined hidden (text_of_name name)) ∙ e)

  pub misnames_alike : {hidden : Text → Bool} {e : Expression} {c : Cause} → Misnames m hidden e c → Misnames n hidden e c
  misnames_alike w = record { at = w.at; there = w.there; wrong = misnames_at_alike w.wrong }

  -- the same circles
  pub circle_alike : (variable : Text) (circle : List Text) → IsCircleOf m variable circle → IsCircleOf n variable circle
  circle_alike variable circle c = record { steps = c.steps; begins = c.begins; ends = c.ends; walk = λ k h. reads_on_alike (c.walk k h) }

  -- all that is told of the first is told of the second
  pub expressions_alike : (c : Cause) → Expressions m c → Expressions n c
  expressions_alike c (in_value {a = a} there w) =
      let b = alike.values a there in in_value b.1 (subst (λ (e : Expression). Misnames n none_hidden e c) (sym b.2) (misnames_alike w))
  expressions_alike c (in_body {f = f} there w) =
      let g = alike.bodies f there in
      in_body g.1 (subst₂ (λ (h : Text → Bool) (e : Expression). Misnames n h e c) (same_hidden f g.0 g.2) (sym g.3) (misnames_alike w))
  expressions_alike _ (circular_variables {variable = variable} {circle = circle} {a = a} walk found) =
      let b = alike.variables variable a found in
      subst (λ (x : Name). Expressions n (Broken x.token (kind.CircularVariableDependency variable circle))) b.2 (circular_variables (circle_alike variable circle walk) b.1)

-- an order serves both
pub order_alike : (m n : Known) → AreAlike m n → AreAlike n m → (order : List Text) → IsEvaluationOrder m order → IsEvaluationOrder n order
order_alike m n to back order o = record {
  lists = λ name. (λ h. variable_alike m n to name ((o.lists name).0 h), λ h. (o.lists name).1 (variable_alike n m back name h));
  once = o.once;
  reads_first = λ k name h r. o.reads_first k name h (reads_on_alike n m back r);
}

-- the entries of a table, with each value changed
abbrev pub changed : {V W : Type 0} → (V → W) → List (Text × V) → List (Text × W)
changed {V} {W} f es = map {B = Text × W} (λ (e : Text × V). (e.0, f e.1)) es

module _ {V W : Type 0} (f : V → W) where
  -- what is found in a changed table
  pub find_changed : (k : Text) (es : List (Text × V)) → find k (changed f es) ≡ option_map f (find k es)
  find_changed k [] = refl
  find_changed k (e ∷ es) = by_test (bytes_eq k e.0) (find_changed k es)
    where
      by_test : (b : Bool) → find k (changed f es) ≡ option_map f (find k es) → cond b (Some (f e.1)) (find k (changed f es)) ≡ option_map f (cond b (Some e.1) (find k es))
      by_test true rest = refl
      by_test false rest = rest

  some_of : (o : Option V) (y : W) → option_map f o ≡ Some y → (x : V) × (o ≡ Some x) × (f x ≡ y)
  some_of None y e = cc
  some_of (Some x) y e = (x, refl, some_same e)

  none_of : (o : Option V) → option_map f o ≡ None → o ≡ None
  none_of None e = refl
  none_of (Some x) e = cc

  pub some_found : (k : Text) (es : List (Text × V)) (y : W) → find k (changed f es) ≡ Some y → (x : V) × (find k es ≡ Some x) × (f x ≡ y)
  some_found k es y e = some_of (find k es) y (sym (find_changed k es) ∙ e)

  pub none_found : (k : Text) (es : List (Text × V)) → find k (changed f es) ≡ None → find k es ≡ None
  none_found k es e = none_of (find k es) (sym (find_changed k es) ∙ e)

  -- its values
  values_changed : (es : List (Text × V)) → values_of (changed f es) ≡ map f (values_of es)
  values_changed [] = refl
  values_changed (e ∷ es) = ap (λ (ys : List W). f e.1 ∷ ys) (values_changed es)

  value_changed : (es : List (Text × V)) (x : V) → Contains (values_of es) x → Contains (values_of (changed f es)) (f x)
  value_changed es x c =
      let xs = values_of es in
      subst (λ (ys : List W). Contains ys (f x)) (sym (values_changed es)) (c.0, omega (arith, c.1, length-map xs f), get_or-map f xs c.0 x (f x) c.1 ∙ ap f c.2)

  value_before : (es : List (Text × V)) (y : W) → Contains (values_of (changed f es)) y → (x : V) × Contains (values_of es) x × (f x ≡ y)
  value_before es y there =
      let xs = values_of es in
      let c : Contains (map f xs) y = subst (λ (ys : List W). Contains ys y) (values_changed es) there in
      let h : c.0 < length xs = omega (arith, c.1, length-map xs f) in
      let x = some_at xs c.0 h in
      let is : get_or xs c.0 x.0 ≡ x.0 = get_or_from_slice_get xs c.0 x.0 x.0 x.1 in
      (x.0, (c.0, h, is), ap f (sym is) ∙ (sym (get_or-map f xs c.0 x.0 y h) ∙ c.2))

  put_one : (k : Text) (x : V) (es : List (Text × V)) → put k (f x) (changed f es) ≡ changed f (put k x es)
  put_one k x [] = refl
  put_one k x (e ∷ es) = by_order (slice_cmp nat_cmp k e.0) (put_one k x es)
    where
      by_order : (o : Ordering) → put k (f x) (changed f es) ≡ changed f (put k x es)
          → match_ordering o ((k, f x) ∷ (e.0, f e.1) ∷ changed f es) ((e.0, f x) ∷ changed f es) ((e.0, f e.1) ∷ put k (f x) (changed f es)) ≡ changed f (match_ordering o ((k, x) ∷ e ∷ es) ((e.0, x) ∷ es) (e ∷ put k x es))
      by_order Less rest = refl
      by_order Equal rest = refl
      by_order Greater rest = ap (λ (ys : List (Text × W)). (e.0, f e.1) ∷ ys) rest

  -- changed values under the same keys are the changed table
  module _ (key : V → Text) (key' : W → Text) (same_key : (x : V) → key' (f x) ≡ key x) where
    pub put_changed_over : (es : List (Text × V)) (xs : List V) → put_all key' (changed f es) (map f xs) ≡ changed f (put_all key es xs)
    put_changed_over es [] = refl
    put_changed_over es (x ∷ xs) =
        ap (λ ys. put_all key' ys (map f xs)) (ap (λ k. put k (f x) (changed f es)) (same_key x) ∙ put_one (key x) x es) ∙ put_changed_over (put (key x) x es) xs

    pub put_changed : (xs : List V) → put_all key' [] (map f xs) ≡ changed f (put_all key [] xs)
    put_changed xs = put_changed_over [] xs

-- a part that a change keeps
kept : {V P : Type 0} (part : V → P) (f : V → V) → ((x : V) → part (f x) ≡ part x) → (x y : V) → f x ≡ y → part x ≡ part y
kept part f same x y e = sym (same x) ∙ ap part e

-- Variables that are changed in all but their names and values, and functions in all but the names of their parameters and their bodies.
module _ (answers : SyntaxAnswers) (f : Assignment → Assignment) (g : FunctionDefinition → FunctionDefinition) (same_name : (a : Assignment) → (f a).name ≡ a.name) (same_value : (a : Assignment) → (f a).value ≡ a.value) (same_parameters : (x : FunctionDefinition) → parameter_names (g x) ≡ parameter_names x) (same_body : (x : FunctionDefinition) → (g x).body ≡ x.body) (assignments : List (Text × Assignment)) (functions : List (Text × FunctionDefinition)) where
  pub changed_alike : AreAlike (known answers assignments functions) (known answers (changed f assignments) (changed g functions))
  changed_alike = record {
    variables = λ name a e. (f a, find_changed f name assignments ∙ ap (option_map f) e, same_name a, same_value a);
    no_variable = λ name e. find_changed f name assignments ∙ ap (option_map f) e;
    functions = λ name x e. (g x, find_changed g name functions ∙ ap (option_map g) e, same_parameters x, same_body x);
    no_function = λ name e. find_changed g name functions ∙ ap (option_map g) e;
    values = λ a c. (f a, value_changed f assignments a c, same_value a);
    bodies = λ x c. (g x, value_changed g functions x c, same_parameters x, same_body x);
    builtin = refl;
    constant = refl;
  }

  pub alike_changed : AreAlike (known answers (changed f assignments) (changed g functions)) (known answers assignments functions)
  alike_changed =
      let name_kept = kept (λ (a : Assignment). a.name) f same_name in
      let value_kept = kept (λ (a : Assignment). a.value) f same_value in
      let parameters_kept = kept parameter_names g same_parameters in
      let body_kept = kept (λ (x : FunctionDefinition). x.body) g same_body in
      record {
        variables = λ name b e. let a = some_found f name assignments b e in (a.0, a.1, name_kept a.0 b a.2, value_kept a.0 b a.2);
        no_variable = λ name e. none_found f name assignments e;
        functions = λ name y e. let x = some_found g name functions y e in (x.0, x.1, parameters_kept x.0 y x.2, body_kept x.0 y x.2);
        no_function = λ name e. none_found g name functions e;
        values = λ b c. let a = value_before f assignments b c in (a.0, a.1, value_kept a.0 b a.2);
        bodies = λ y c. let x = value_before g functions y c in (x.0, x.1, parameters_kept x.0 y x.2, body_kept x.0 y x.2);
        builtin = refl;
        constant = refl;
      }
