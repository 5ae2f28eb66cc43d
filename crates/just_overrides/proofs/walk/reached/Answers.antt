use Rattle.std.proofs.Common.{◌≡◌, ◌∙◌, ap, drop, get_or, [], rules}
use Rattle.std.proofs.lemmas.List.{get_or_default}
use Rattle.std.specs.Option.{option_copied}
use Rattle.just_overrides.proofs.Stepping.{goes_from, next_reached, step_ordered}
use Rattle.just_overrides.specs.Reached.{module_step}
use Rattle.just_overrides.proofs.walk.reached.Goals as goal

pub loop-name-preserved : goal.loop-name-preserved
loop-name-preserved c =
    let root = c.args.root.now in
    let name = c.as_str.result.now in
    let found : option_copied c.step-found.result ≡ module_step root c.in-Some.module.now name = search rules in
    let is : name ≡ get_or c.args.names.now c.loop-name.name-index [] = c.as_str.ensures ∙ c.name-item.is ∙ get_or_default c.args.names.now c.loop-name.name-index c.name-item.result [] c.loop-name-test.true in
    record {
      goes_on = c.loop-name.invariant.goes_on ∙ ap (λ o. goes_from root (option_copied o) (drop c.loop-name.name-index c.args.names.now)) c.in-Some.is
          ∙ next_reached root c.args.names.now c.loop-name.name-index c.in-Some.module.now (option_copied c.step-found.result) c.loop-name-test.true (found ∙ ap (module_step root c.in-Some.module.now) is);
      ordered = step_ordered root c.requires c.in-Some.module.now name c.step-found.result (search rules) found;
    }
