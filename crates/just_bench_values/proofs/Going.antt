-- What a state leads to.
use Rattle.std.proofs.Common.{◌≡◌, sym, ◌∙◌, ap, subst, ◌+◌, inl, inr, arith, List, [], ◌∷◌, ◌++◌, Option, None, Some, Result, Ok, Err, Bor}
use Rattle.std.specs.Option.{option_and_then, option_map}
use Rattle.just_names.specs.Texts.{Text}
use Rattle.just_names.specs.Name.{text_of_name}
use Rattle.just_names.specs.Token.{Place}
use Rattle.just_names.specs.declared.name.Name.{Name}
use Rattle.just_names.specs.declared.number.Number.{Number}
use Rattle.just_ast_definitions.specs.declared.function_definition.FunctionDefinition.{FunctionDefinition}
use Rattle.just_ast_expressions.specs.declared.expression.Expression.{Expression, out-Expression}
use Rattle.just_ast_expressions.specs.declared.expression.Shape.{Shape}
use Rattle.just_ast_expressions.specs.declared.expression.Shape.TheVariants as shape
use Rattle.just_ast_expressions.specs.Parts.{parts, shape_parts}
use Rattle.just_ast_expressions.proofs.PartsOf.{parts_of-Call, parts_of-Concatenation, parts_of-Group, parts_of-List}
use Rattle.just_ast_references.specs.References.{shape_mention}
use Rattle.just_errors.specs.declared.error.Error.{Error}
use Rattle.just_parts.specs.Evaluator.{FaultsAt}
use Rattle.just_parts.specs.Told.{IsToldIn, nowhere}
use Rattle.just_bench_values.specs.Lookup.{functions_in}
use Rattle.just_bench_values.specs.Sink.{sent, sent_one}
use Rattle.just_bench_values.specs.loops.Tasks.{Advances, Goes, IsPlaceOfOne, Sends, call_in, cost, ran_tasks, frame_value, values_in, variable_in, with_sum}
use Rattle.just_bench_values.specs.Values.{one_after_another, shape_evaluated}
use Rattle.just_bench_values.specs.declared.sink.Sink.{Sink}
use Rattle.just_bench_values.specs.declared.sink.Sink.TheVariants as sink
use Rattle.just_bench_values.specs.declared.tasks.Among.{Among}
use Rattle.just_bench_values.specs.declared.tasks.Elements.{Elements}
use Rattle.just_bench_values.specs.declared.tasks.Frame.{Frame}
use Rattle.just_bench_values.specs.declared.tasks.Pending.{Pending}
use Rattle.just_bench_values.specs.declared.tasks.State.{State}
use Rattle.just_bench_values.specs.declared.tasks.Task.{Task}
use Rattle.just_bench_values.specs.declared.tasks.Task.TheVariants as task
use Rattle.just_bench_values.proofs.Branches as branch
use Rattle.just_bench_values.proofs.Measure.{cost_cons}
use Rattle.just_bench_values.proofs.Places.{at_its_call, at_nowhere, at_variable, in_arguments, in_elements, in_group, in_left, in_right}
use Rattle.just_bench_values.proofs.Told.{faults_on, told_on}
use Rattle.just_bench_values.proofs.Ran.{of_begun, of_list, of_sent, of_sum_joined, of_sum_kept}

abbrev pub left_of : Bor (List Expression) → Elements
left_of rest = record { rest = rest }

abbrev pub pending : Bor Name → Bor (List Expression) → List (List Text) → Pending
pending name rest values = record { name = name; rest = rest; values = values }

abbrev pub at : List Task → Frame → Sink → State
at ts f s = record { tasks = ts; frame = f; sink = s }

-- two tasks that are pushed
pub pushed_two : {T : Type 0} {us vs ws : List T} {x y z : T} → us ≡ x ∷ vs → vs ≡ y ∷ ws → y ≡ z → us ≡ x ∷ z ∷ ws
pushed_two {ws} {x} first second same = first ∙ ap (λ ts. x ∷ ts) (second ∙ ap (λ t. t ∷ ws) same)

-- a state leads to what is equal to a state that it leads to
pub goes_to : (a : Among) (old : State) (ts us : List Task) (f g : Frame) (s t : Sink) → us ≡ ts → g ≡ f → t ≡ s → Goes a old (at ts f s) → Goes a old (at us g t)
goes_to a old ts us f g s t tasks frame sink goes = subst (Goes a old) (sym (λ i. at (tasks i) (frame i) (sink i))) goes

module _ (a : Among) (ts : List Task) (f : Frame) where
  abbrev functions : List (Text × FunctionDefinition)
  functions = functions_in a.functions

  abbrev next : Sink → Option Sink
  next s = ran_tasks a ts f s

  module _ (e : Bor Expression) (s : Sink) where
    abbrev from : State
    from = at (task.Value e ∷ ts) f s

    parts_at : (es : List Expression) → parts e.now ≡ es → cost functions f.calls (parts e.now) ≡ cost functions f.calls es
    parts_at es is = ap (cost functions f.calls) is

    pub goes_text : (cooked : Text) → (out-Expression e.now).shape ≡ shape.StringLiteral cooked → Goes a from (at ts f (sent_one s cooked))
    goes_text cooked is = record {
      same = ap (option_and_then (λ value. next (sent s value))) (sym (branch.at_StringLiteral a f e.now cooked is));
      less = omega arith;
      within = λ place. inr;
    }

    pub goes_variable : (name : Name) (number : Option Number) (t : Sink) → (out-Expression e.now).shape ≡ shape.Variable name number → option_map (sent s) (variable_in a f (text_of_name name)) ≡ Some t → Goes a from (at ts f t)
    goes_variable name number t is gone = record {
      same = of_sent next s (variable_in a f (text_of_name name)) t gone ∙ ap (option_and_then (λ value. next (sent s value))) (sym (branch.at_Variable a f e.now name number is));
      less = omega arith;
      within = λ place. inr;
    }

    -- a step that tells what the variable comes to
    pub variable_advances : {X : Type 0} (name : Name) (number : Option Number) (t : Sink) (r : Result X Error) → (out-Expression e.now).shape ≡ shape.Variable name number →
        Sends (variable_in a f (text_of_name name)) (λ place. place ≡ name.token) s t r → Advances a from (at ts f t) r
    variable_advances name number t (Ok value) is sends = goes_variable name number t is sends
    variable_advances name number t (Err err) is sends = (
      faults_on (λ none. ap (option_and_then (λ value. next (sent s value))) (branch.at_Variable a f e.now name number is ∙ none)) err sends.0,
      told_on {P = λ place. place ≡ name.token} {Q = IsPlaceOfOne a (task.Value e ∷ ts)} (λ place told. inl (at_variable functions e.now name number is place told)) err sends.1,
    )

    -- an expression that has no value
    pub nothing_told : (form : Shape) (err : Error) → (out-Expression e.now).shape ≡ form → shape_evaluated (variable_in a f) (call_in a f) form ≡ None → shape_mention form ≡ [] →
        FaultsAt {A = List Text} None err → IsToldIn (λ place. place ≡ nowhere) err → Advances a {A = Unit {0}} from from (Err err)
    nothing_told form err is none nameless fault told = (
      faults_on (λ _. ap (option_and_then (λ value. next (sent s value))) (branch.at_none a f e.now form is none)) err fault,
      told_on {P = λ place. place ≡ nowhere} {Q = IsPlaceOfOne a (task.Value e ∷ ts)} (λ place here. inl (at_nowhere functions e.now form is nameless place here)) err told,
    )

    pub goes_group : (contents : Bor Expression) → (out-Expression e.now).shape ≡ shape.Group contents.now → Goes a from (at (task.Value contents ∷ ts) f s)
    goes_group contents is = record {
      same = ap (option_and_then (λ value. next (sent s value))) (sym (branch.at_Group a f e.now contents.now is));
      less = omega (arith, parts_at (contents.now ∷ []) (ap shape_parts is ∙ parts_of-Group contents.now), cost_cons functions f.calls contents.now []);
      within = λ place. elim_group place;
    }
      where
        elim_group : (place : Place) → IsPlaceOfOne a (task.Value contents ∷ ts) place → IsPlaceOfOne a (task.Value e ∷ ts) place
        elim_group place (inl inside) = inl (in_group functions e.now contents.now is place inside)
        elim_group place (inr later) = inr later

    pub goes_list : (elements : Bor (List Expression)) (es : List Expression) → (out-Expression e.now).shape ≡ shape.List es → elements.now ≡ es → Goes a from (at (task.Elements (left_of elements) ∷ ts) f s)
    goes_list elements es is same_es = record {
      same = ap (λ xs. option_and_then (λ vs. next (sent s (one_after_another vs))) (values_in a f xs)) same_es ∙ of_list next s (values_in a f es)
          ∙ ap (option_and_then (λ value. next (sent s value))) (sym (branch.at_List a f e.now es is));
      less = omega (arith, parts_at es (ap shape_parts is ∙ parts_of-List es), ap (cost functions f.calls) same_es);
      within = λ place. elim_list place;
    }
      where
        elim_list : (place : Place) → IsPlaceOfOne a (task.Elements (left_of elements) ∷ ts) place → IsPlaceOfOne a (task.Value e ∷ ts) place
        elim_list place (inl inside) = inl (in_elements functions e.now es elements.now is same_es place inside)
        elim_list place (inr later) = inr later

    pub goes_call : (name : Bor Name) (rest : Bor (List Expression)) (es : List Expression) (values : List (List Text)) → (out-Expression e.now).shape ≡ shape.Call name.now es → rest.now ≡ es → values ≡ [] →
        Goes a from (at (task.Call (pending name rest values) ∷ ts) f s)
    goes_call name rest es values is same_es empty = record {
      same = ap (λ vs. option_and_then (λ value. next (sent s value)) (option_and_then (λ more. call_in a f (text_of_name name.now) (vs ++ more)) (values_in a f rest.now))) empty
          ∙ ap (λ xs. option_and_then (λ value. next (sent s value)) (option_and_then (λ more. call_in a f (text_of_name name.now) more) (values_in a f xs))) same_es
          ∙ of_begun next s (call_in a f (text_of_name name.now)) (values_in a f es)
          ∙ ap (option_and_then (λ value. next (sent s value))) (sym (branch.at_Call a f e.now name.now es is));
      less = omega (arith, parts_at es (ap shape_parts is ∙ parts_of-Call name.now es), ap (cost functions f.calls) same_es);
      within = λ place. elim_call place;
    }
      where
        elim_call : (place : Place) → IsPlaceOfOne a (task.Call (pending name rest values) ∷ ts) place → IsPlaceOfOne a (task.Value e ∷ ts) place
        elim_call place (inl (inl here)) = inl (at_its_call functions e.now name.now es is place here)
        elim_call place (inl (inr inside)) = inl (in_arguments functions e.now name.now es rest.now is same_es place inside)
        elim_call place (inr later) = inr later

    module _ (lhs rhs : Bor Expression) (is : (out-Expression e.now).shape ≡ shape.Concatenation lhs.now rhs.now) where
      whole : cost functions f.calls (parts e.now) ≡ cost functions f.calls (parts lhs.now) + 4 + (cost functions f.calls (parts rhs.now) + 4 + cost functions f.calls [])
      whole = parts_at (lhs.now ∷ rhs.now ∷ []) (ap shape_parts is ∙ parts_of-Concatenation lhs.now rhs.now)
          ∙ cost_cons functions f.calls lhs.now (rhs.now ∷ []) ∙ ap (λ n. cost functions f.calls (parts lhs.now) + 4 + n) (cost_cons functions f.calls rhs.now [])

      within_sum : (others : List Task) → ((place : Place) → IsPlaceOfOne a others place → IsPlaceOfOne a ts place) → (place : Place) →
          IsPlaceOfOne a (task.Value lhs ∷ task.Right rhs ∷ others) place → IsPlaceOfOne a (task.Value e ∷ ts) place
      within_sum others more place (inl inside) = inl (in_left functions e.now lhs.now rhs.now is place inside)
      within_sum others more place (inr (inl inside)) = inl (in_right functions e.now lhs.now rhs.now is place inside)
      within_sum others more place (inr (inr later)) = inr (more place later)

-- a sum
pub goes_sum : (a : Among) (ts : List Task) (f : Frame) (e : Bor Expression) (s : Sink) (lhs rhs : Bor Expression) → (out-Expression e.now).shape ≡ shape.Concatenation lhs.now rhs.now →
    Goes a (at (task.Value e ∷ ts) f s) (with_sum lhs rhs (at ts f s))
goes_sum a ts f e (sink.Texts texts) lhs rhs is = record {
  same = of_sum_kept (λ s. ran_tasks a ts f s) texts (frame_value a f lhs.now) (frame_value a f rhs.now)
      ∙ ap (option_and_then (λ value. ran_tasks a ts f (sent (sink.Texts texts) value))) (sym (branch.at_Concatenation a f e.now lhs.now rhs.now is));
  less = omega (arith, whole a ts f e (sink.Texts texts) lhs rhs is);
  within = within_sum a ts f e (sink.Texts texts) lhs rhs is (task.Close (sink.Texts texts) ∷ ts) kept;
}
  where
    kept : (place : Place) → IsPlaceOfOne a (task.Close (sink.Texts texts) ∷ ts) place → IsPlaceOfOne a ts place
    kept place (inl none) = absurd none
    kept place (inr later) = later
goes_sum a ts f e (sink.Joined written apart) lhs rhs is = record {
  same = of_sum_joined (λ s. ran_tasks a ts f s) written apart (frame_value a f lhs.now) (frame_value a f rhs.now)
      ∙ ap (option_and_then (λ value. ran_tasks a ts f (sent (sink.Joined written apart) value))) (sym (branch.at_Concatenation a f e.now lhs.now rhs.now is));
  less = omega (arith, whole a ts f e (sink.Joined written apart) lhs rhs is);
  within = within_sum a ts f e (sink.Joined written apart) lhs rhs is ts (λ place later. later);
}
