-- What private functions say beside `Evaluation.antt`.
use Rattle.std.specs.Prelude.{◌≡◌, List, Option, Result, Ok, Err}
use Rattle.std.specs.Option.{option_copied}
use Rattle.just_errors.specs.declared.halt.Halt.{Halt}
use Rattle.just_justfile.specs.declared.justfile.Justfile.{Justfile}
use Rattle.just_names.specs.Texts.{Text}
use Rattle.just_parts.specs.declared.layers.config.EvaluateFormat.{EvaluateFormat}
use Rattle.just_run_layers.specs.Evaluation.{Inquiry}
use Rattle.just_run_layers.specs.Host.{Answer}
use Rattle.just_run_layers.specs.Interactions.{Log, executed_in}
use Rattle.just_run_layers.specs.declared.host.Entry.{Entry}
use Rattle.just_scopes.specs.Open.{OpensLazily}
use Rattle.just_scopes.specs.Opening.{Handed, Opened}
use Rattle.just_evaluate.specs.declared.evaluation_target.EvaluationTarget.{EvaluationTarget}
use Rattle.just_invoke.specs.Lazily.{HasOpenedLazily}
use Rattle.just_invoke.specs.Evaluation.{ValuesAsked, numbers_of, text_in}

-- those of a target in a format
abbrev pub values_behind : EvaluateFormat → EvaluationTarget → ValuesAsked
values_behind format target = record { format = format; justfile = target.justfile.now; variable = option_copied target.assignment }

-- for the private functions: the steps came to this text, or there is none
pub data IsTextMade (displayed : List Text → Text) (root : Justfile) (values : ValuesAsked) (handed : Handed)
    (evaluator : Inquiry → Option Answer) (host : Entry → Option Answer) (old new : Log) (result : Result Text Halt) : Type 0 where
  unmade : (e : Halt) → result ≡ Err e → OpensLazily evaluator host handed root (numbers_of values) old new (Err e) → executed_in new ≡ executed_in old →
      IsTextMade displayed root values handed evaluator host old new result
  made : (opened : List Opened) → HasOpenedLazily evaluator host handed root (numbers_of values) old new opened → result ≡ Ok (text_in displayed values opened) →
      IsTextMade displayed root values handed evaluator host old new result
