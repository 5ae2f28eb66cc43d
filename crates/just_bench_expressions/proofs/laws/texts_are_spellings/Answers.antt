use Rattle.just_bench_expressions.proofs.Spellings.{lexemes_spelled, texts_spelled}
use Rattle.just_bench_expressions.proofs.laws.texts_are_spellings.Goals as goal

pub returns-clause-texts : goal.returns-clause-texts
returns-clause-texts c = texts_spelled

pub returns-clause-lexemes : goal.returns-clause-lexemes
returns-clause-lexemes c = lexemes_spelled
