use Rattle.std.proofs.Common.{rules, ◌<◌, get_or, length}
use Rattle.just_module_variables.proofs.Steps.{found_more}
use Rattle.just_module_variables.proofs.resolution.names_at.Goals as goal

pub loop-place-preserved : goal.loop-place-preserved
loop-place-preserved c =
    let within : get_or c.args.places.now c.loop-place.place-index 0 < length c.args.names.now = search rules in
    found_more c.args.names.now c.loop-place.found.items c.push.new.self.items c.args.places.now c.loop-place.place-index c.copied.result c.index-names-place.result c.loop-place.invariant
    c.in_ok-push.ensures.items c.copied.ensures c.loop-place-test.true within c.index-names-place.is
