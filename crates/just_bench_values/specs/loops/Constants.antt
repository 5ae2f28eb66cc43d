-- What private functions say beside `Constants.antt`.
use Rattle.std.specs.Prelude.{◌≡◌, List, Some}
use Rattle.just_names.specs.Texts.{Text}
use Rattle.just_names.specs.Name.{text_of_name}
use Rattle.just_parts.specs.Evaluator.{IsBindingOf, Wanted}
use Rattle.just_ast_definitions.specs.declared.assignment.Assignment.{Assignment}
use Rattle.just_table.specs.Entries.{find, put}
use Rattle.just_bench_values.specs.Lookup.{table_values}
use Rattle.just_bench_values.specs.declared.lookup.Constant.{Constant}
use Rattle.just_bench_values.specs.Constants.{assigned_value}

-- A table of constants has one more: that of a variable of this name.
pub record Adds (assignments : List (Text × Assignment)) (wanted : Wanted) (name : Text) (old new : List (Text × Constant)) : Type 0 where
  pub constant : Constant
  pub assigned : Assignment
  pub is : find name assignments ≡ Some assigned
  pub named : text_of_name constant.binding.name ≡ name
  pub binding : IsBindingOf assigned constant.binding
  pub value : assigned_value wanted (table_values old) name ≡ Some constant.binding.value
  pub after : new ≡ put name constant old
