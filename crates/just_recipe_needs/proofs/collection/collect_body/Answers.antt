use Rattle.std.specs.HashSet.{contains}
use Rattle.std.specs.Str.{bytes_eq}
use Rattle.just_name_resolution.proofs.LookingAt.{found_some}
use Rattle.just_name_resolution.specs.Lent.{tables_in}
use Rattle.just_parts.specs.Known.{hides}
use Rattle.just_parts.specs.Needs.{has_number, same_number}
use Rattle.just_parts.specs.Reading.{Reads}
use Rattle.just_recipe_needs.proofs.Gathering.{body_collected, collected}
use Rattle.std.proofs.Common.{subst}
use Rattle.just_recipe_needs.specs.Collected.{Collects}
use Rattle.just_recipe_needs.proofs.collection.collect_body.Goals as goal

pub returns : goal.returns
returns c =
    let m = tables_in c.args.sources.now.tables in
    let overridden = has_number c.args.sources.now.overrides.now in
    let old = contains same_number c.args.references.now in
    let visited = contains bytes_eq c.args.visited.now in
    let new = contains same_number c.collect_references.new.references in
    let more = contains bytes_eq c.collect_references.new.visited in
    let d = c.in-Some.definition.now in
    let done = c.in_ok-collect_references.ensures in
    body_collected m overridden old new visited more c.args.function.now d
    (found_some c.get.result c.in-Some.definition c.as_str.result.now c.args.function.now m.functions c.get.ensures c.as_str.ensures c.in-Some.is)
    (subst (λ ps. Collects m overridden (Reads m (hides ps) d.body) old visited new more) c.as_slice.ensures
    (collected m overridden old new visited more (Reads m (hides c.as_slice.result.now) d.body) done.gains done.all done.whole))
