use Rattle.std.proofs.Common.{◌∙◌, IfOk, List, Option, ap, subst, sym}
use Rattle.std.specs.Borrow.{Bor}
use Rattle.std.specs.HashSet.{contains}
use Rattle.std.specs.Str.{bytes_eq}
use Rattle.just_ast_definitions.specs.declared.function_definition.FunctionParameter.{FunctionParameter}
use Rattle.just_parts.specs.Needs.{IsSame}
use Rattle.just_name_resolution.proofs.Checked.{nothing_hides}
use Rattle.just_name_resolution.specs.loops.Search.{hidden_by}
use Rattle.just_name_resolution.proofs.needs.hidden_in.Goals as goal

pub returns-in-Some : goal.returns-in-Some
returns-in-Some c =
    subst (λ (p : Option (Bor (List FunctionParameter))). IfOk c.hidden_names.result (λ names. IsSame (hidden_by p) (contains bytes_eq names)))
    (sym c.in-Some.is) c.hidden_names.ensures

pub returns-in-None : goal.returns-in-None
returns-in-None c = λ name. (λ i. nothing_hides c.new.result.keys c.new.ensures.empty i name) ∙ ap (λ p. hidden_by p name) (sym c.in-None.is)
