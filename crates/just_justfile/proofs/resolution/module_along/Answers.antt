use Rattle.std.proofs.Common.{◌≡◌, ◌∙◌, ap, drop, get_or, [], rules}
use Rattle.std.proofs.lemmas.List.{get_or_default}
use Rattle.std.specs.Option.{option_copied}
use Rattle.just_justfile.specs.Walks.{module_named}
use Rattle.just_justfile.specs.declared.justfile.Justfile.{out-Justfile}
use Rattle.just_justfile.proofs.Leading.{found_ordered}
use Rattle.just_justfile.proofs.Walking.{along_from, inner_next}
use Rattle.just_justfile.proofs.resolution.module_along.Goals as goal

pub loop-name-preserved : goal.loop-name-preserved
loop-name-preserved c =
    let modules = (out-Justfile c.in-Some.module.now).modules in
    let name = c.as_str.result.now in
    let found : option_copied c.find_module-found.result ≡ module_named name modules = search rules in
    let is : name ≡ get_or c.args.names.now c.loop-name.name-index [] = c.as_str.ensures ∙ c.name-item.is ∙ get_or_default c.args.names.now c.loop-name.name-index c.name-item.result [] c.loop-name-test.true in
    record {
      goes_on = c.loop-name.invariant.goes_on ∙ ap (λ o. along_from (option_copied o) (drop c.loop-name.name-index c.args.names.now)) c.in-Some.is
          ∙ inner_next c.args.names.now c.loop-name.name-index c.in-Some.module.now (option_copied c.find_module-found.result) c.loop-name-test.true (found ∙ ap (λ n. module_named n modules) is);
      ordered = found_ordered name modules c.find_module-found.result (search rules) found;
    }
