use Rattle.std.proofs.Common.{take}
use Rattle.just_loader.proofs.LoadedPaths.{AreListed, places_of}
use Rattle.just_loader.proofs.files.loaded_paths.Given as goal

abbrev pub invariant-loop-node : goal.invariant-loop-node
invariant-loop-node l = AreListed l.scan (places_of (take l.node-index l.nodes)) l.seen.items l.loaded
