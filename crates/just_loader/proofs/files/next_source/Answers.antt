use Rattle.std.proofs.Common.{◌∙◌, sym, subst}
use Rattle.just_paths.specs.Clean.{IsClean}
use Rattle.just_loader.proofs.ComingIn.{import_next, module_next, name_is, path_clean, path_is}
use Rattle.just_loader.proofs.files.next_source.Goals as goal

pub module-requires : goal.module-requires
module-requires c = subst IsClean (sym c.as_str-path.ensures) (path_clean c.args.scan.now c.args.step.target c.index.result.now c.requires.target c.index.ensures c.requires.clean)

pub returns-in-None-clause-next : goal.returns-in-None-clause-next
returns-in-None-clause-next c =
    import_next c.args.scan.now c.args.before.now c.args.step c.as_str-path.result.now c.import.result c.in-None.is
    (c.as_str-path.ensures ∙ path_is c.args.scan.now c.args.step.target c.index.result.now c.requires.target c.index.ensures)
    c.import.ensures.chain c.import.ensures.offsets c.import.ensures.module c.import.ensures.path c.import.ensures.folder

pub returns-in-Some-clause-next : goal.returns-in-Some-clause-next
returns-in-Some-clause-next c =
    module_next c.args.scan.now c.args.before.now c.args.step c.in-Some.field-0 c.index-in-Some.result.now c.as_str-path.result.now c.module.result c.in-Some.is
    (name_is c.args.scan.now c.in-Some.field-0 c.args.step.tag c.index-in-Some.result.now (rw c.in-Some.is at c.requires.named) c.index-in-Some.ensures)
    (c.as_str-path.ensures ∙ path_is c.args.scan.now c.args.step.target c.index.result.now c.requires.target c.index.ensures)
    c.module.ensures.chain c.module.ensures.offsets c.module.ensures.module c.module.ensures.path c.module.ensures.folder
