use Rattle.std.proofs.Common.{◌≡◌, ◌++◌, drop}
use Rattle.std.specs.Option.{option_map}
use Rattle.just_run_layers.specs.Evaluation.{context_contents_of}
use Rattle.just_bench_evaluation.specs.Answered.{run_value}
use Rattle.just_bench_evaluation.specs.Lines.{fragments_text}
use Rattle.just_bench_evaluation.proofs.lines.fragments_text.Given as goal

abbrev pub invariant-loop-fragment : goal.invariant-loop-fragment
invariant-loop-fragment l =
    let value = run_value (context_contents_of l.context) l.is_dependency l.scope in
    option_map (λ rest. l.text ++ rest) (fragments_text value (drop l.fragment-index l.fragments)) ≡ fragments_text value l.fragments
