use Rattle.std.proofs.Common.{rules, ◌≡◌, ◌⊎◌, [], ◌∷◌, sym, subst}
use Rattle.just_paths.specs.Clean.{IsClean}
use Rattle.just_paths.specs.Join.{led, whole}
use Rattle.just_names.specs.Texts.{texts}
use Rattle.just_paths.proofs.Joins.{led_whole, clean_led, joined_texts}
use Rattle.just_paths.proofs.join.clean_join.Goals as goal

pub returns-clause-path : goal.returns-clause-path
returns-clause-path c =
    let components : texts c.deref.result.now ≡ led [] (whole c.args.folder.now c.args.text.now) = search (rules, led_whole) in
    search (rules, joined_texts)

pub returns-clause-clean : goal.returns-clause-clean
returns-clause-clean c = subst (λ p. (p ≡ 47 ∷ []) ⊎ IsClean p) (sym (returns-clause-path c)) (clean_led (whole c.args.folder.now c.args.text.now))
