use Rattle.std.proofs.Common.{◌≡◌, [], take}
use Rattle.just_names.specs.Name.{text_of_name}
use Rattle.just_ast_definitions.specs.declared.assignment.Assignment.{Assignment}
use Rattle.just_table.specs.Entries.{put_all}
use Rattle.just_module_contents.specs.Definitions.{variables_in}
use Rattle.just_module_variables.proofs.variables.variable_table.Given as goal

abbrev pub invariant-loop-place : goal.invariant-loop-place
invariant-loop-place l = l.variables ≡ put_all (λ (a : Assignment). text_of_name a.name) [] (take l.place (variables_in l.definitions))
