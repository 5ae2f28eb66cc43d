-- A program has no texts where its command or its arguments have none.
use Rattle.std.proofs.Common.{◌≡◌, refl, ap, map, Option, None, Some}
use Rattle.std.specs.Option.{option_and_then, option_map}
use Rattle.just_ast_expressions.specs.declared.expression.Expression.{Expression}
use Rattle.just_ast_expressions.specs.declared.interpreter.Interpreter.{Interpreter}
use Rattle.just_bench_values.specs.Settings.{interpreter_with, text_with}
use Rattle.just_bench_values.specs.Values.{Outcome, all_of}

none_first : {A B : Type 0} (f : A → Option B) (o : Option A) → o ≡ None → option_and_then f o ≡ None
none_first f o none = ap (option_and_then f) none

none_after : {A B C : Type 0} (f : A → B → C) (first : Option A) (rest : Option B) → rest ≡ None → option_and_then (λ a. option_map (f a) rest) first ≡ None
none_after f None rest none = refl
none_after f (Some a) rest none = ap (option_map (f a)) none

module _ (value : Expression → Outcome) (i : Interpreter Expression) where
  pub no_command : text_with value i.command ≡ None → interpreter_with value i ≡ None
  no_command none = none_first _ (text_with value i.command) none

  pub no_arguments : all_of (map (text_with value) i.arguments) ≡ None → interpreter_with value i ≡ None
  no_arguments none = none_after _ (text_with value i.command) (all_of (map (text_with value) i.arguments)) none
