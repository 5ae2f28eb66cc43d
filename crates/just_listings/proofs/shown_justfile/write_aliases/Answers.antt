use Rattle.std.proofs.Common.{rules, ◌≡◌, ◌∙◌, [], ◌∷◌, ◌++◌, Bor, List, None, Some, ap, codes, map, refl, subst, sym}
use Rattle.std.specs.List.{filter_map}
use Rattle.std.specs.Map.{values_of}
use Rattle.std.specs.Option.{option_map}
use Rattle.std.proofs.lemmas.Map.Iter.{iter_end}
use Rattle.just_ast_definitions.specs.DefinitionTexts.{alias_text}
use Rattle.just_ast_definitions.specs.declared.alias.Alias.{Alias}
use Rattle.just_names.specs.Texts.{Text}
use Rattle.just_names.specs.Token.{lexeme}
use Rattle.just_names.specs.declared.number.Number.{Number}
use Rattle.just_recipe.specs.Recipes.{find_number}
use Rattle.just_justfile.specs.Closed.{resolved_name}
use Rattle.just_listings.specs.Shown.{alias_shown, stands_after}
use Rattle.just_listings.proofs.Gaps.{AreWritten, none_found, one_found, one_written}
use Rattle.just_listings.proofs.shown_justfile.write_aliases.Goals as goal

pub loop-alias-preserved-in_default : goal.loop-alias-preserved-in_default
loop-alias-preserved-in_default g c =
    let took = g.W.Write.write_str_gives in
    let now : Bor (Alias Number) → Alias Number = λ a. a.now in
    let leads : find_number c.args.recipes.now c.in-Some.alias.now.target.0 ≡ None = search rules in
    let none : alias_shown c.args.recipes.now c.in-Some.alias.now ≡ None = ap (λ o. alias_text (lexeme c.in-Some.alias.now.name.token) (option_map resolved_name o)) leads in
    subst (λ (texts : List Text). AreWritten took c.args.f.now c.args.begun.now texts c.loop-alias.f c.loop-alias.begun)
    (sym (none_found (alias_shown c.args.recipes.now) now c.loop-alias.yielded c.in-Some.alias none)) c.loop-alias.invariant

pub loop-alias-preserved : goal.loop-alias-preserved
loop-alias-preserved g c =
    let took = g.W.Write.write_str_gives in
    let now : Bor (Alias Number) → Alias Number = λ a. a.now in
    let recipe = c.in-Some-get.recipe.now in
    let leads : find_number c.args.recipes.now c.in-Some.alias.now.target.0 ≡ Some recipe = search rules in
    let text : Text = codes "alias " ++ (lexeme c.in-Some.alias.now.name.token ++ (codes " := " ++ resolved_name recipe)) in
    let some : alias_shown c.args.recipes.now c.in-Some.alias.now ≡ Some text = ap (λ o. alias_text (lexeme c.in-Some.alias.now.name.token) (option_map resolved_name o)) leads in
    one_written took c.args.f.now c.args.begun.now (filter_map (alias_shown c.args.recipes.now) (map now c.loop-alias.yielded)) (filter_map (alias_shown c.args.recipes.now) (map now (c.loop-alias.yielded ++ c.in-Some.alias ∷ []))) text
    c.loop-alias.f c.write_next.new.f c.loop-alias.begun c.write_next.new.begun (one_found (alias_shown c.args.recipes.now) now c.loop-alias.yielded c.in-Some.alias text some) c.loop-alias.invariant
    (λ plain. c.in_ok-write_next.ensures.text plain refl) c.in_ok-write_next.ensures.begun

pub returns-clause-text : goal.returns-clause-text
returns-clause-text g c = λ plain ok.
    let took = g.W.Write.write_str_gives in
    let now : Bor (Alias Number) → Alias Number = λ x. x.now in
    let start : c.into_iter-alias-iterator.result ≡ values_of c.args.aliases.now = first_of (search rules, cc) in
    let all = (iter_end now (values_of c.args.aliases.now) c.loop-alias.yielded c.into_iter-alias-iterator.result c.loop-alias.alias-iterator c.next.new.self c.next.result start c.loop-alias.yielded_by c.in-None.is c.next.ensures.steps).0 in
    (subst (λ (values : List (Alias Number)). AreWritten took c.args.f.now c.args.begun.now (filter_map (alias_shown c.args.recipes.now) values) c.loop-alias.f c.loop-alias.begun) all c.loop-alias.invariant).0 plain

pub returns-clause-begun : goal.returns-clause-begun
returns-clause-begun g c =
    let now : Bor (Alias Number) → Alias Number = λ x. x.now in
    let start : c.into_iter-alias-iterator.result ≡ values_of c.args.aliases.now = first_of (search rules, cc) in
    let all = (iter_end now (values_of c.args.aliases.now) c.loop-alias.yielded c.into_iter-alias-iterator.result c.loop-alias.alias-iterator c.next.new.self c.next.result start c.loop-alias.yielded_by c.in-None.is c.next.ensures.steps).0 in
    c.loop-alias.invariant.1 ∙ ap (λ (values : List (Alias Number)). stands_after c.args.begun.now (filter_map (alias_shown c.args.recipes.now) values)) all
