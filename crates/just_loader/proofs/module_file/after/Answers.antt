use Rattle.just_loader.proofs.ModuleFiles.{after_strip}
use Rattle.just_loader.proofs.module_file.after.Goals as goal

pub returns : goal.returns
returns c = after_strip c.args.prefix.now c.args.text.now c.strip_prefix.result c.strip_prefix.ensures.cases
