use Rattle.std.proofs.Common.{rules, ◌≡◌, refl, sym, ap, ◌∙◌, [], ◌∷◌, ◌+◌, ◌++◌, take, map, Some, Ok}
use Rattle.std.specs.Fmt.{◌++?◌}
use Rattle.std.specs.Option.{option_map}
use Rattle.std.proofs.lemmas.List.{take_all, take_more}
use Rattle.just_recipe.specs.RecipeTexts.{all_texts, each_after}
use Rattle.just_recipe.proofs.Writing.{each_text, each_more, each_is, put_ok, put_more, put_along, put_where_ok}
use Rattle.just_recipe.proofs.texts.write_each.Goals as goal

pub loop-item-preserved : goal.loop-item-preserved
loop-item-preserved g c =
    let took = g.W.Write.write_str_gives in
    let items = c.args.items.now in
    let i = c.loop-item.item-index in
    let item = c.item-item.result in
    let text = each_text c.args.before.now g.T.Display.output in
    let one = Some c.args.before.now ++? g.T.Display.output item in
    let is : take (i + 1) items ≡ take i items ++ item ∷ [] = take_more items i item c.loop-item-test.true ∙ ap (λ x. take i items ++ x ∷ []) (sym c.item-item.is) in
    let more : text (take i items) ++? one ≡ text (take (i + 1) items) = sym (ap text is ∙ each_more c.args.before.now g.T.Display.output (take i items) item) in
    put_along took c.args.f.now c.write.new.self (text (take i items) ++? one) (text (take (i + 1) items)) more
    (put_more took c.args.f.now c.loop-item.f c.write.new.self (text (take i items)) one c.loop-item.invariant
    (put_ok took c.loop-item.f c.write.new.self (Ok tt) one refl c.in_ok-write.ensures.writes))

pub returns : goal.returns
returns g c =
    let took = g.W.Write.write_str_gives in
    let items = c.args.items.now in
    let text = each_text c.args.before.now g.T.Display.output in
    let i = c.loop-item.item-index in
    let all : take i items ≡ items = search (rules, take_all) in
    let whole = option_map (each_after c.args.before.now) (all_texts (map g.T.Display.output items)) in
    let is : text (take i items) ≡ whole = ap text all ∙ each_is c.args.before.now g.T.Display.output items in
    put_where_ok took c.args.f.now c.loop-item.f (Ok tt) whole (λ ok. put_along took c.args.f.now c.loop-item.f (text (take i items)) whole is c.loop-item.invariant)
