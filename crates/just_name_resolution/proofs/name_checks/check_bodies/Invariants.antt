use Rattle.std.specs.Map.{values_of}
use Rattle.just_ast_definitions.specs.declared.function_definition.FunctionDefinition.{FunctionDefinition}
use Rattle.just_parts.specs.Known.{hides}
use Rattle.just_name_resolution.specs.Lent.{known_in}
use Rattle.just_parts.specs.Misnaming.{Misnames}
use Rattle.just_name_resolution.proofs.Checked.{Walked}
use Rattle.just_name_resolution.proofs.name_checks.check_bodies.Given as goal

abbrev pub invariant-loop-function : goal.invariant-loop-function
invariant-loop-function g l =
    Walked (λ (f : FunctionDefinition). Misnames (known_in (g.S.Syntax.answers l.known.syntax.now) l.known) (hides f.parameters) f.body) (values_of l.known.functions.now) l.function-iterator
