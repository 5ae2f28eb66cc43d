use Rattle.std.proofs.Common.{◌≡◌, ◌++◌, drop}
use Rattle.just_module_contents.specs.Definitions.{aliases_in, docs_in, functions_in, lists_in, recipes_in, sets_in, variables_in}
use Rattle.just_module_contents.specs.Named.{alias_by, function_by, name_by, naming_by, set_by, unexported_by, variable_by}
use Rattle.just_module_contents.specs.Labels.{doc_by}
use Rattle.just_module_contents.specs.Said.{said}
use Rattle.just_module_contents.specs.Recipes.{recipes_of}
use Rattle.just_module_contents.proofs.definitions.Definitions.add.Given as goal

abbrev pub invariant-loop-item : goal.invariant-loop-item
invariant-loop-item g l =
    let enabled = (g.S.Syntax.answers l.syntax).enabled in
    let left = drop l.item-index l.items in
    (recipes_in l.initial.self ++ recipes_of enabled l.items ≡ recipes_in l.self ++ recipes_of enabled left)
    × (functions_in l.initial.self ++ said function_by enabled l.items ≡ functions_in l.self ++ said function_by enabled left)
    × (variables_in l.initial.self ++ said variable_by enabled l.items ≡ variables_in l.self ++ said variable_by enabled left)
    × (aliases_in l.initial.self ++ said alias_by enabled l.items ≡ aliases_in l.self ++ said alias_by enabled left)
    × (l.initial.self.modules.items ++ said name_by enabled l.items ≡ l.self.modules.items ++ said name_by enabled left)
    × (l.initial.self.named.items ++ said naming_by enabled l.items ≡ l.self.named.items ++ said naming_by enabled left)
    × (docs_in l.initial.self ++ said doc_by enabled l.items ≡ docs_in l.self ++ said doc_by enabled left)
    × (l.initial.self.unexports.items ++ said unexported_by enabled l.items ≡ l.self.unexports.items ++ said unexported_by enabled left)
    × (sets_in l.initial.self ++ said set_by enabled l.items ≡ sets_in l.self ++ said set_by enabled left)
    × (lists_in l.self ≡ lists_in l.initial.self)
