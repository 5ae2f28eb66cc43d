use Rattle.std.proofs.Common.{rules, ◌≡◌, ◌∷◌, sym, ◌∙◌, take, drop, false, true}
use Rattle.std.proofs.lemmas.Result.{IfOk-weaker}
use Rattle.just_names.specs.Texts.{texts}
use Rattle.just_invocations.specs.Cause.{cause_of}
use Rattle.just_invocations.specs.Words.{has_colon}
use Rattle.just_invocations.specs.Head.{WordsLead, IsHead}
use Rattle.just_invocations.proofs.HeadLemmas.{head_by_names, head_by_path, no_head_by_path}
use Rattle.just_invocations.proofs.head.parse_head.Goals as goal

pub returns-then-not-contains_colon-clause-ok : goal.returns-then-not-contains_colon-clause-ok
returns-then-not-contains_colon-clause-ok c =
    let words = c.args.words.now in
    let root = c.args.root.now in
    let recipes = c.args.recipes.now in
    let whole : words ≡ c.in-Some.word.now ∷ c.in-Some.rest.now = search rules in
    let none : has_colon c.in-Some.word.now.now ≡ false = sym c.contains_colon.ensures ∙ c.if-not-contains_colon.true in
    IfOk-weaker c.walk-then-not-contains_colon.result
    (λ found. WordsLead root recipes root (texts (take found.1 words)) (texts (drop found.1 words)) found.0.now)
    (λ found. IsHead root recipes (texts (take found.1 words)) (texts (drop found.1 words)) found.0.now)
    (λ found p. head_by_names root recipes words c.in-Some.word.now c.in-Some.rest.now found.1 found.0.now whole none p)
    c.walk-then-not-contains_colon.ensures.ok

pub returns-in-Ok-clause-ok : goal.returns-in-Ok-clause-ok
returns-in-Ok-clause-ok c =
    let whole : c.args.words.now ≡ c.in-Some.word.now ∷ c.in-Some.rest.now = search rules in
    let colon : has_colon c.in-Some.word.now.now ≡ true = sym c.contains_colon.ensures ∙ c.if-not-contains_colon.false in
    head_by_path c.args.root.now c.args.recipes.now c.args.words.now c.in-Some.word.now c.in-Some.rest.now c.is_empty.result c.in-Ok.recipe.now whole colon c.is_empty.ensures c.in-Ok.ensures.ok

pub returns-in-Err-clause-err : goal.returns-in-Err-clause-err
returns-in-Err-clause-err c =
    let whole : c.args.words.now ≡ c.in-Some.word.now ∷ c.in-Some.rest.now = search rules in
    let colon : has_colon c.in-Some.word.now.now ≡ true = sym c.contains_colon.ensures ∙ c.if-not-contains_colon.false in
    no_head_by_path c.args.root.now c.args.recipes.now c.args.words.now c.in-Some.word.now c.in-Some.rest.now c.is_empty.result (cause_of c.in-Err.e) whole colon c.is_empty.ensures c.in-Err.ensures.err
