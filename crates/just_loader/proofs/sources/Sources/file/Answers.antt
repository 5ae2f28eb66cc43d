use Rattle.just_paths.specs.Clean.{IsClean}
use Rattle.just_loader.proofs.Tables.{some_keyed}
use Rattle.just_loader.proofs.Paths.{some_holds}
use Rattle.just_loader.proofs.sources.Sources.file.Goals as goal

pub returns-clause-path : goal.returns-clause-path
returns-clause-path c = some_keyed c.get.result c.self.inside.files c.args.path.now c.self.invariant.0.keyed c.get.ensures

pub returns-clause-clean : goal.returns-clause-clean
returns-clause-clean c = some_holds IsClean c.get.result c.self.inside.files c.args.path.now c.self.invariant.0.clean c.get.ensures
