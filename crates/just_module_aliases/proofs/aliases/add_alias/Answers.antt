use Rattle.std.proofs.Common.{◌∙◌, sym}
use Rattle.just_module_aliases.specs.Aliased.{alias_targets}
use Rattle.just_module_aliases.proofs.Aliasing.{refused}
use Rattle.just_module_aliases.proofs.aliases.add_alias.Goals as goal

pub returns-in_ok-clone-in-None-clause-named : goal.returns-in_ok-clone-in-None-clause-named
returns-in_ok-clone-in-None-clause-named c =
    refused (alias_targets c.args.absent.now c.args.disabled.now c.args.modules.now c.args.recipes.now) c.args.alias.now c.copied.result c.new.result c.in_ok-clone-in-None.field-0
    (sym c.in_ok-meaning.ensures ∙ c.in-None.is) c.copied.ensures (c.new.ensures ∙ c.lexeme.ensures) c.in_ok-clone-in-None.ensures.cases
