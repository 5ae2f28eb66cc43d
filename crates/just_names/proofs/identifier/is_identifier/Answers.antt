use Rattle.std.proofs.Common.{rules, tests, ◌≡◌, true, ◌∷◌}
use Rattle.std.specs.List.{list_all}
use Rattle.std.proofs.lemmas.Iterator.{YieldsList-from_slice}
use Rattle.std.proofs.lemmas.Iterator.Search.{all_from_yields_List}
use Rattle.just_names.specs.Identifier.{is_identifier_start, is_identifier_continue}
use Rattle.just_names.proofs.identifier.is_identifier.Goals as goal

pub returns-then-starts_identifier : goal.returns-then-starts_identifier
returns-then-starts_identifier c =
    let rest = c.in-Some.rest.now in
    let e : c.all.result ≡ list_all is_identifier_continue rest =
    all_from_yields_List is_identifier_continue _ _ _ c.all.ensures.ran (YieldsList-from_slice rest cc) (λ x b q k. search (rules, tests)) in
    let parts : c.args.word.now ≡ c.in-Some.first.now ∷ rest = search rules in
    let start : is_identifier_start c.in-Some.first.now ≡ true = (cc) in
    (rw (parts, start) e)
