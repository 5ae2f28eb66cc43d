use Rattle.std.proofs.Common.{◌∙◌, ap}
use Rattle.std.specs.List.{filter}
use Rattle.just_justfile.specs.declared.justfile.Justfile.{out-Justfile}
use Rattle.just_listings.specs.Public.{is_public_module, module_place}
use Rattle.just_listings.proofs.Ordering.{listed_in_order}
use Rattle.just_listings.proofs.modules.public_modules.Goals as goal

pub returns : goal.returns
returns c =
    listed_in_order module_place c.args.unsorted (filter is_public_module (out-Justfile c.args.justfile.now).modules) c.in_ok-placed.placed.items c.in_ok-ordered.ordered.items c.in_ok-modules.modules.items
    (c.in_ok-placed.ensures.public ∙ ap (filter is_public_module) c.as_slice.ensures) c.in_ok-placed.ensures.places c.in_ok-ordered.ensures c.in_ok-modules.ensures
