use Rattle.std.proofs.Common.{◌∙◌, Some, ap, rules}
use Rattle.std.specs.HashMap.{get}
use Rattle.std.specs.Map.{keys_of}
use Rattle.std.specs.Str.{bytes_eq}
use Rattle.just_loader.specs.ModuleFile.{relative}
use Rattle.just_module_assembly.proofs.ShownPaths.{held_path, one_less}
use Rattle.just_module_assembly.proofs.paths.relative_paths.Goals as goal

pub loop-key-preserved : goal.loop-key-preserved
loop-key-preserved c = (
  search rules,
  search rules,
  one_less c.folder_of-folder.result.now c.in_ok-clone.field-0 c.in_ok-shown-2.shown (search rules) (get bytes_eq c.loop-key.paths) (get bytes_eq c.insert.new.self) c.in_ok-insert.ensures.updates.0 c.in-Some.key.now _ _ _ (search rules) (ap keys_of c.in-Some.ensures.steps) c.loop-key.invariant.2,
)

pub loop-key-preserved-in_ok-insert : goal.loop-key-preserved-in_ok-insert
loop-key-preserved-in_ok-insert c = (
  search rules,
  search rules,
  one_less c.folder_of-folder.result.now c.in_ok-clone.field-0 c.in_ok-shown-2.shown (search rules) (get bytes_eq c.loop-key.paths) (get bytes_eq c.insert.new.self) c.in_ok-insert.ensures.updates.0 c.in-Some.key.now _ _ _ (search rules) (ap keys_of c.in-Some.ensures.steps) c.loop-key.invariant.2,
)

pub returns : goal.returns
returns c = λ k held.
    held_path c.folder_of-folder.result.now (get bytes_eq c.loop-key.paths) c.args.asts.now.entries (search rules) k held ∙ ap (λ folder. Some (relative folder k.1)) c.folder_of-folder.ensures
