use Rattle.std.proofs.Common.{rules, tests, ◌∙◌}
use Rattle.std.proofs.lemmas.Iterator.{YieldsList-from_slice}
use Rattle.std.proofs.lemmas.Iterator.Search.{YieldsList-from_take_while}
use Rattle.std.proofs.lemmas.Iterator.Consumers.{count_from_yields_List}
use Rattle.std.proofs.lemmas.List.Folds.{length-prefix_len}
use Rattle.just_names.specs.Identifier.{is_identifier_continue}
use Rattle.just_bench_expressions.proofs.lexer.name_rest.Goals as goal

pub returns-clause-is : goal.returns-clause-is
returns-clause-is c =
    count_from_yields_List c.take_while.result _ c.count.ensures.ran
    (YieldsList-from_take_while _ is_identifier_continue (YieldsList-from_slice c.args.bytes.now (cc)) c.take_while.ensures.closure c.take_while.ensures.done (λ x b q k. search (rules, tests)))
    ∙ length-prefix_len is_identifier_continue c.args.bytes.now
