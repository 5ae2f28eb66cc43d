-- What two modules have in common whose variables and functions differ in numbers, depths and marks alone, also in the numbers of their expressions.
use Rattle.std.proofs.Common.{◌≡◌, ◌∙◌, ℕ, ◌||◌, Bool, List, map, length, Option, None, Some, refl, sym, ap, subst}
use Rattle.std.specs.List.{Contains}
use Rattle.std.specs.Option.{IsSome, is_some, option_map}
use Rattle.just_errors.specs.Causes.{Cause}
use Rattle.just_errors.specs.declared.phrases.ArgumentRange.{ArgumentRange}
use Rattle.just_names.specs.Texts.{Text}
use Rattle.just_names.specs.Name.{text_of_name}
use Rattle.just_parts.specs.Known.{Known, defines, hides, known, range_of, range_with}
use Rattle.just_parts.specs.Needs.{Needs, onward, starts}
use Rattle.just_parts.specs.Reading.{IsEvaluationOrder, IsReadIn, Reads, ReadsOn, at_once, through}
use Rattle.just_parts.specs.Syntax.{SyntaxAnswers}
use Rattle.just_ast_definitions.specs.declared.assignment.Assignment.{Assignment}
use Rattle.just_ast_expressions.specs.declared.expression.Expression.{Expression}
use Rattle.just_ast_definitions.specs.declared.function_definition.FunctionDefinition.{FunctionDefinition}
use Rattle.just_ast_references.specs.Mentions.{Calls, Names, mention_of}
use Rattle.just_ast_references.specs.References.{references}
use Rattle.just_ast_references.specs.declared.references.Reference.{Reference}
use Rattle.just_table.specs.Entries.{find}
use Rattle.just_parts.specs.Misnaming.{Misnames, MisnamesAt, argument_count, undefined_function, undefined_variable}
use Rattle.just_name_resolution.proofs.Alike.{changed, some_found, find_changed}
use Rattle.just_name_resolution.proofs.Placed.{the_value}

-- Whatever the first tables have under a name, the second have too, with the same calls and variables, and functions with parameters of the same names.
pub record AreSimilar (vs bs : List (Text × Assignment)) (fs gs : List (Text × FunctionDefinition)) : Type 0 where
  pub variable : (name : Text) (a : Assignment) → find name vs ≡ Some a → (b : Assignment) × (find name bs ≡ Some b) × (references b.value ≡ references a.value)
  pub function : (name : Text) (f : FunctionDefinition) → find name fs ≡ Some f → (g : FunctionDefinition) × (find name gs ≡ Some g) × (hides g.parameters ≡ hides f.parameters) × (references g.body ≡ references f.body)

pub similar_then : (vs bs cs : List (Text × Assignment)) (fs gs hs : List (Text × FunctionDefinition)) → AreSimilar vs bs fs gs → AreSimilar bs cs gs hs → AreSimilar vs cs fs hs
similar_then vs bs cs fs gs hs first second = record {
  variable = λ name a is.
      let b = first.variable name a is in
      let c = second.variable name b.0 b.1 in
      (c.0, c.1, c.2 ∙ b.2);
  function = λ name f is.
      let g = first.function name f is in
      let h = second.function name g.0 g.1 in
      (h.0, h.1, h.2 ∙ g.2, h.3 ∙ g.3);
}

-- an expression reads the same, whatever numbers it has
module _ (m n : Known) (similar : AreSimilar m.assignments n.assignments m.functions n.functions) where
  variable_there : (name : Text) → IsSome (find name m.assignments) → IsSome (find name n.assignments)
  variable_there name s = let v = the_value (find name m.assignments) s in ap is_some (similar.variable name v.0 v.1).1

  pub reads_similar : {hidden : Text → Bool} {e : Expression} {name : Text} → Reads m hidden e name → (d : Expression) → references d ≡ references e → Reads n hidden d name
  reads_similar {name = name} (at_once c h s) d same =
      at_once (subst (λ (rs : List Reference). Contains (map mention_of rs) (Names name)) (sym same) c) h (variable_there name s)
  reads_similar {name = name} (through {function = function} {f = f} count c found r) d same =
      let g = similar.function function f found in
      through count (subst (λ (rs : List Reference). Contains (map mention_of rs) (Calls function count)) (sym same) c) g.1
      (subst (λ (h : Text → Bool). Reads n h g.0.body name) (sym g.2) (reads_similar r g.0.body g.3))

  pub read_in_similar : (es : List Expression) (name : Text) → IsReadIn m es name → IsReadIn n es name
  read_in_similar es name r = record { e = r.e; there = r.there; reads = reads_similar r.reads r.e refl }

  pub reads_on_similar : {from to : Text} → ReadsOn m from to → ReadsOn n from to
  reads_on_similar {from} r =
      let b = similar.variable from r.assigned r.is in
      record { assigned = b.0; is = b.1; reads = reads_similar r.reads b.0.value b.2 }

  pub needs_similar : (o p : Text → Bool) (A B : Text → Type 0) → ((name : Text) → p name ≡ o name) → ((name : Text) → A name → B name) → {name : Text} → Needs m o A name → Needs n p B name
  needs_similar o p A B same more (starts {name = name} a) = starts (more name a)
  needs_similar o p A B same more (onward {name = name} need on step) = onward (needs_similar o p A B same more need) (same name ∙ on) (reads_on_similar step)

-- an order serves both
pub order_of_similar : (m n : Known) → AreSimilar m.assignments n.assignments m.functions n.functions → AreSimilar n.assignments m.assignments n.functions m.functions → (order : List Text) → IsEvaluationOrder m order → IsEvaluationOrder n order
order_of_similar m n to back order o = record {
  lists = λ name. (λ h. variable_there m n to name ((o.lists name).0 h), λ h. (o.lists name).1 (variable_there n m back name h));
  once = o.once;
  reads_first = λ k name h r. o.reads_first k name h (reads_on_similar n m back r);
}

-- where names are defined alike and functions take as many arguments, the same is at fault
module _ (m n : Known) (range : (name : Text) → range_of n name ≡ range_of m name) (defined : (hidden : Text → Bool) (name : Text) → defines n hidden name ≡ defines m hidden name) where
  misnames_at : {hidden : Text → Bool} {at : Reference} {c : Cause} → MisnamesAt m hidden at c → MisnamesAt n hidden at c
  misnames_at (undefined_function {name = name} e) = undefined_function (range (text_of_name name) ∙ e)
  misnames_at (argument_count {name = name} e apart) = argument_count (range (text_of_name name) ∙ e) apart
  misnames_at {hidden} (undefined_variable {name = name} e) = undefined_variable (defined hidden (text_of_name name) ∙ e)

  pub misnames_same : {hidden : Text → Bool} {e : Expression} {c : Cause} → Misnames m hidden e c → Misnames n hidden e c
  misnames_same w = record { at = w.at; there = w.there; wrong = misnames_at w.wrong }

-- Variables that are changed in all but what their values refer to, and functions in all but the names of their parameters and what their bodies refer to.
module _ (f : Assignment → Assignment) (g : FunctionDefinition → FunctionDefinition) (value : (a : Assignment) → references (f a).value ≡ references a.value)
    (hidden : (x : FunctionDefinition) → hides (g x).parameters ≡ hides x.parameters) (body : (x : FunctionDefinition) → references (g x).body ≡ references x.body)
    (vs : List (Text × Assignment)) (fs : List (Text × FunctionDefinition)) where
  pub similar_changed : AreSimilar vs (changed f vs) fs (changed g fs)
  similar_changed = record {
    variable = λ name a is. (f a, find_changed f name vs ∙ ap (option_map f) is, value a);
    function = λ name x is. (g x, find_changed g name fs ∙ ap (option_map g) is, hidden x, body x);
  }

  pub changed_similar : AreSimilar (changed f vs) vs (changed g fs) fs
  changed_similar = record {
    variable = λ name b is. let a = some_found f name vs b is in (a.0, a.1, sym (value a.0) ∙ ap (λ (x : Assignment). references x.value) a.2);
    function = λ name y is.
        let x = some_found g name fs y is in
        (x.0, x.1, sym (hidden x.0) ∙ ap (λ (z : FunctionDefinition). hides z.parameters) x.2, sym (body x.0) ∙ ap (λ (z : FunctionDefinition). references z.body) x.2);
  }

-- the same names are defined, and functions take as many arguments
module _ (answers : SyntaxAnswers) (f : Assignment → Assignment) (g : FunctionDefinition → FunctionDefinition) (count : (x : FunctionDefinition) → length (g x).parameters ≡ length x.parameters)
    (vs : List (Text × Assignment)) (fs : List (Text × FunctionDefinition)) where
  is_variable : (o : Option Assignment) → is_some (option_map f o) ≡ is_some o
  is_variable None = refl
  is_variable (Some a) = refl

  range_found : (o : Option FunctionDefinition) (builtin : Option ArgumentRange) → range_with (option_map g o) builtin ≡ range_with o builtin
  range_found None builtin = refl
  range_found (Some x) builtin = ap (λ (k : ℕ). Some (record { min = k; max = k })) (count x)

  pub range_changed : (name : Text) → range_of (known answers (changed f vs) (changed g fs)) name ≡ range_of (known answers vs fs) name
  range_changed name = ap (λ o. range_with o (answers.builtin name)) (find_changed g name fs) ∙ range_found (find name fs) (answers.builtin name)

  pub defined_changed : (hidden : Text → Bool) (name : Text) → defines (known answers (changed f vs) (changed g fs)) hidden name ≡ defines (known answers vs fs) hidden name
  defined_changed hidden name = ap (λ b. hidden name || (b || is_some (answers.constant name))) (ap is_some (find_changed f name vs) ∙ is_variable (find name vs))
