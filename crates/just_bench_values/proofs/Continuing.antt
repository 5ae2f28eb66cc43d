-- What the tasks that are no expressions lead to.
use Rattle.std.proofs.Common.{◌≡◌, refl, sym, ◌∙◌, ap, subst, suc, ◌+◌, ◌-◌, ◌<◌, inl, inr, arith, List, [], ◌∷◌, ◌++◌, length, Option, Some, Bor}
use Rattle.std.specs.List.{Contains}
use Rattle.std.specs.Option.{option_and_then}
use Rattle.just_names.specs.Texts.{Text}
use Rattle.just_names.specs.Name.{text_of_name}
use Rattle.just_names.specs.Token.{Place}
use Rattle.just_names.specs.declared.name.Name.{Name}
use Rattle.just_ast_definitions.specs.declared.function_definition.FunctionDefinition.{FunctionDefinition}
use Rattle.just_ast_expressions.specs.declared.expression.Expression.{Expression}
use Rattle.just_ast_expressions.specs.Parts.{parts}
use Rattle.just_parts.specs.Evaluator.{functions_by_name}
use Rattle.just_parts.specs.Told.{IsPlaceIn, IsPlaceInOne}
use Rattle.just_table.specs.Entries.{find}
use Rattle.just_bench_values.specs.Lookup.{constant_values, functions_in, local_values}
use Rattle.just_bench_values.specs.loops.Lookup.{in_called}
use Rattle.just_bench_values.specs.Sink.{sent}
use Rattle.just_bench_values.specs.loops.Tasks.{Goes, IsPlaceOfOne, call_in, cost, ran_tasks, frame_value, values_in}
use Rattle.just_bench_values.specs.Values.{bound, one_after_another, value_with}
use Rattle.just_bench_values.specs.declared.sink.Sink.{Sink}
use Rattle.just_bench_values.specs.declared.sink.Sink.TheVariants as sink
use Rattle.just_bench_values.specs.declared.tasks.Among.{Among}
use Rattle.just_bench_values.specs.declared.tasks.Frame.{Frame}
use Rattle.just_bench_values.specs.declared.tasks.Task.{Task}
use Rattle.just_bench_values.specs.declared.tasks.Task.TheVariants as task
use Rattle.just_bench_values.proofs.Called.{call_down}
use Rattle.just_bench_values.proofs.Going.{at, left_of, pending}
use Rattle.just_bench_values.proofs.Measure.{body_less, cost_cons}
use Rattle.just_bench_values.proofs.Ran.{of_argument, of_call, of_elements}

-- nothing is in a list without elements
pub none_left : (es : List Expression) → length es ≡ 0 → es ≡ []
none_left [] none = refl
none_left (e ∷ es) none = absurd (omega (arith, none))

module _ (a : Among) (ts : List Task) (f : Frame) (s : Sink) where
  abbrev functions : List (Text × FunctionDefinition)
  functions = functions_in a.functions

  abbrev next : Sink → Option Sink
  next s = ran_tasks a ts f s

  -- the first of some expressions, and the others
  module _ (all rest : Bor (List Expression)) (first : Bor Expression) (is : all.now ≡ first.now ∷ rest.now) where
    whole : cost functions f.calls all.now ≡ cost functions f.calls (parts first.now) + 4 + cost functions f.calls rest.now
    whole = ap (cost functions f.calls) is ∙ cost_cons functions f.calls first.now rest.now

    here : (place : Place) → IsPlaceIn functions first.now place → IsPlaceInOne functions all.now place
    here place inside = record { e = first.now; there = subst (λ es. Contains es first.now) (sym is) (0, omega arith, refl); in_it = inside }

    later : (place : Place) → IsPlaceInOne functions rest.now place → IsPlaceInOne functions all.now place
    later place one = record {
      e = one.e;
      there = subst (λ es. Contains es one.e) (sym is) (suc one.there.0, omega (arith, one.there.1), one.there.2);
      in_it = one.in_it;
    }

    pub goes_elements : Goes a (at (task.Elements (left_of all) ∷ ts) f s) (at (task.Value first ∷ task.Elements (left_of rest) ∷ ts) f s)
    goes_elements = record {
      same = of_elements next s (frame_value a f first.now) (values_in a f rest.now) ∙ ap (λ es. option_and_then (λ vs. next (sent s (one_after_another vs))) (values_in a f es)) (sym is);
      less = omega (arith, whole);
      within = within_elements;
    }
      where
        within_elements : (place : Place) → IsPlaceOfOne a (task.Value first ∷ task.Elements (left_of rest) ∷ ts) place → IsPlaceOfOne a (task.Elements (left_of all) ∷ ts) place
        within_elements place (inl inside) = inl (here place inside)
        within_elements place (inr (inl inside)) = inl (later place inside)
        within_elements place (inr (inr after)) = inr after

    pub goes_argument : (name : Bor Name) (values : List (List Text)) →
        Goes a (at (task.Call (pending name all values) ∷ ts) f s) (at (task.Value first ∷ task.Keep (pending name rest values) s ∷ ts) f (sink.Texts []))
    goes_argument name values = record {
      same = of_argument next s (call_in a f (text_of_name name.now)) values (frame_value a f first.now) (values_in a f rest.now)
          ∙ ap (λ es. option_and_then (λ value. next (sent s value)) (option_and_then (λ more. call_in a f (text_of_name name.now) (values ++ more)) (values_in a f es))) (sym is);
      less = omega (arith, whole);
      within = within_argument;
    }
      where
        within_argument : (place : Place) → IsPlaceOfOne a (task.Value first ∷ task.Keep (pending name rest values) s ∷ ts) place → IsPlaceOfOne a (task.Call (pending name all values) ∷ ts) place
        within_argument place (inl inside) = inl (inr (here place inside))
        within_argument place (inr (inl (inl called))) = inl (inl called)
        within_argument place (inr (inl (inr inside))) = inl (inr (later place inside))
        within_argument place (inr (inr after)) = inr after

  -- the body of a function
  module _ (name : Bor Name) (rest : Bor (List Expression)) (none : rest.now ≡ []) (values : List (List Text)) where
    pub goes_in : (body : Bor Expression) (inside : Frame) (g : FunctionDefinition) → find (text_of_name name.now) functions ≡ Some g →
        length g.parameters ≡ length values → 0 < f.calls → inside.calls ≡ f.calls - 1 → local_values inside.locals ≡ bound g.parameters values → body.now ≡ g.body →
        Goes a (at (task.Call (pending name rest values) ∷ ts) f s) (at (task.Value body ∷ task.Leave f ∷ ts) inside s)
    goes_in body inside g found many some calls locals is = record {
      same = ap (option_and_then (λ value. next (sent s value))) (into_body ∙ sym (call_down functions (constant_values a.constants) (text_of_name name.now) values f.calls g some found many))
          ∙ of_call next s (call_in a f (text_of_name name.now)) values
          ∙ ap (λ es. option_and_then (λ value. next (sent s value)) (option_and_then (λ more. call_in a f (text_of_name name.now) (values ++ more)) (values_in a f es))) (sym none);
      less = omega (arith, body_less functions f.calls (text_of_name name.now) g some found, same_cost, ap (cost functions f.calls) none);
      within = within_body;
    }
      where
        into_body : frame_value a inside body.now ≡ value_with (f.calls - 1) (functions_by_name functions) (constant_values a.constants) (bound g.parameters values) g.body
        into_body = λ i. value_with (calls i) (functions_by_name functions) (constant_values a.constants) (locals i) (is i)

        same_cost : cost functions inside.calls (parts body.now) ≡ cost functions (f.calls - 1) (parts g.body)
        same_cost = λ i. cost functions (calls i) (parts (is i))

        within_body : (place : Place) → IsPlaceOfOne a (task.Value body ∷ task.Leave f ∷ ts) place → IsPlaceOfOne a (task.Call (pending name rest values) ∷ ts) place
        within_body place (inl there) = inl (inl (in_called found (subst (λ e. IsPlaceIn functions e place) is there)))
        within_body place (inr (inl never)) = absurd never
        within_body place (inr (inr after)) = inr after
