use Rattle.std.proofs.Common.{◌≡◌, take, map}
use Rattle.just_names.specs.Texts.{texts}
use Rattle.just_loader.specs.ModuleFile.{relative}
use Rattle.just_loader.proofs.module_file.relative_paths.Given as goal

abbrev pub invariant-loop-path : goal.invariant-loop-path
invariant-loop-path l = l.shown ≡ map (relative l.folder) (texts (take l.path-index l.paths))
