use Rattle.std.proofs.Common.{◌∙◌, ap, rules, sym}
use Rattle.std.proofs.lemmas.Fn.{always_returns_same}
use Rattle.just_justfile.specs.Walks.{names_rise}
use Rattle.just_justfile.proofs.Searching.{beside, found_at, found_nowhere}
use Rattle.just_justfile.proofs.resolution.find_module.Goals as goal

pub returns-in-Ok : goal.returns-in-Ok
returns-in-Ok c =
    let there = c.in-Ok.ensures.position (beside c.args.name.now) (always_returns_same _ _ _ (λ a r g called. search rules)) in
    sym (found_at c.args.modules.now (names_rise c.requires) c.args.name.now c.in-Ok.at c.index-modules-at.result c.in-Ok.ensures.bound (sym c.index-modules-at.is) (ap (beside c.args.name.now) c.index-modules-at.is ∙ there c.index-modules-at.result))

pub returns-in-Err : goal.returns-in-Err
returns-in-Err c =
    let parted = c.in-Err.ensures.position (beside c.args.name.now) (always_returns_same _ _ _ (λ a r g called. search rules)) in
    sym (found_nowhere c.args.modules.now (names_rise c.requires) c.args.name.now c.in-Err.field-0 parted)
