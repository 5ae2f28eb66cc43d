use Rattle.std.proofs.Common.{rules, refl, take, true, ◌≡◌, ◌∷◌, [], ◌++◌, sym, ◌∙◌, ap}
use Rattle.std.specs.List.{flat_map}
use Rattle.std.proofs.lemmas.Grind.{put_two}
use Rattle.std.proofs.lemmas.List.{take_all}
use Rattle.just_names.specs.Texts.{text_of}
use Rattle.just_listings.proofs.spaced_path.SpacedPathDisplay.fmt.Goals as goal

pub returns-after-loop-name-clause-writes : goal.returns-after-loop-name-clause-writes
returns-after-loop-name-clause-writes g c = λ plain ok.
    let items : c.args.self.now.path.now.components ≡ c.in-Some.first.now ∷ c.in-Some.rest.now = search rules in
    let one = c.in_ok-write.ensures.writes plain refl in
    let all : take c.loop-name.name-index c.in-Some.rest.now ≡ c.in-Some.rest.now = search (rules, take_all) in
    let two = c.loop-name.invariant one.plain in
    put_two _ _ _ _ _ _ _ one two (ap (λ t. c.in-Some.first.now ++ flat_map (λ d. (32 ∷ []) ++ d) t) all ∙ ap (λ cs. text_of cs true) (sym items))
