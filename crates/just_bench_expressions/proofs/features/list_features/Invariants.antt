use Rattle.std.proofs.Common.{◌≡◌, ◌++◌, drop}
use Rattle.just_bench_expressions.specs.Features.{list_features}
use Rattle.just_bench_expressions.proofs.features.list_features.Given as goal

abbrev pub invariant-loop-lexeme : goal.invariant-loop-lexeme
invariant-loop-lexeme l = list_features l.lexemes ≡ l.uses ++ list_features (drop l.lexeme-index l.lexemes)
