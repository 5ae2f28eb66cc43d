use Rattle.std.proofs.Common.{map, rules}
use Rattle.just_names.specs.Name.{text_of_name}
use Rattle.just_justfile.proofs.Leading.{end_ordered}
use Rattle.just_justfile.proofs.resolution.Resolution+Modulepath.resolve_module.Goals as goal

pub find_last-requires-in-Inside : goal.find_last-requires-in-Inside
find_last-requires-in-Inside c = search (rules, end_ordered (map text_of_name c.as_slice.result.now) c.args.absent.now c.args.modules.now c.in-Inside.module.now c.requires c.in-Inside.ensures)
