use Rattle.std.proofs.Common.{rules, refl, take, ◌≡◌, ◌∷◌, ◌++◌, sym, ◌∙◌, ap}
use Rattle.std.specs.List.{flat_map}
use Rattle.std.proofs.lemmas.Grind.{put_two}
use Rattle.std.proofs.lemmas.List.{take_all}
use Rattle.just_names.specs.Texts.{text_of, joined}
use Rattle.just_paths.proofs.modulepath.ModulepathDisplay.fmt.Goals as goal

pub returns-after-loop-name-clause-writes : goal.returns-after-loop-name-clause-writes
returns-after-loop-name-clause-writes g c = λ plain ok.
    let items : c.args.self.now.components ≡ c.in-Some.first.now ∷ c.in-Some.rest.now = search rules in
    let text : c.in-Some.first.now ++ flat_map (λ d. c.separator-separator.result.now ++ d) c.in-Some.rest.now ≡ text_of c.args.self.now.components c.args.self.now.spaced =
    ap (λ s. joined s (c.in-Some.first.now ∷ c.in-Some.rest.now)) c.separator-separator.ensures
    ∙ ap (λ cs. text_of cs c.args.self.now.spaced) (sym items) in
    let one = c.in_ok-write.ensures.writes plain refl in
    let all : take c.loop-name.name-index c.in-Some.rest.now ≡ c.in-Some.rest.now = search (rules, take_all) in
    let two = c.loop-name.invariant one.plain in
    put_two _ _ _ _ _ _ _ one two (ap (λ t. c.in-Some.first.now ++ flat_map (λ d. c.separator-separator.result.now ++ d) t) all ∙ text)
