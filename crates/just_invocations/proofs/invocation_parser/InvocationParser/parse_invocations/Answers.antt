use Rattle.std.proofs.Common.{[], map}
use Rattle.std.specs.List.{All}
use Rattle.std.proofs.lemmas.Result.{IfOk-weaker}
use Rattle.just_names.specs.Texts.{texts}
use Rattle.just_parts.specs.Evaluator.{count_fault_of}
use Rattle.just_justfile.specs.Closed.{IsHeld}
use Rattle.just_invocations.specs.Split.{Chain, IsSplit, invoked_of}
use Rattle.just_invocations.proofs.Holding.{all_held, chain_held, split_held}
use Rattle.just_invocations.proofs.invocation_parser.InvocationParser.parse_invocations.Goals as goal

pub returns-then-is_empty-clause-held : goal.returns-then-is_empty-clause-held
returns-then-is_empty-clause-held g c =
    let counts = count_fault_of (g.E.ConstantEvaluation.answers c.args.evaluation.now) in
    let root = c.args.root.now in
    let recipes = c.args.recipes.now in
    let words = texts c.args.words.now in
    IfOk-weaker c.parse_none.result (λ found. IsSplit counts root recipes words (map invoked_of found.items)) (λ found. All (λ i. IsHeld recipes i.recipe.now) found.items)
    (λ found p. all_held recipes found.items (split_held counts root recipes words (map invoked_of found.items) p)) c.parse_none.ensures.split

pub returns-else-is_empty-clause-held : goal.returns-else-is_empty-clause-held
returns-else-is_empty-clause-held g c =
    let counts = count_fault_of (g.E.ConstantEvaluation.answers c.args.evaluation.now) in
    let root = c.args.root.now in
    let recipes = c.args.recipes.now in
    let words = texts c.args.words.now in
    IfOk-weaker c.parse_some.result (λ found. Chain counts root recipes words (map invoked_of found.items) []) (λ found. All (λ i. IsHeld recipes i.recipe.now) found.items)
    (λ found p. all_held recipes found.items (chain_held counts root recipes words (map invoked_of found.items) [] p)) c.parse_some.ensures.chain
