use Rattle.std.proofs.Common.{◌≡◌}
use Rattle.std.specs.HashMap.{get}
use Rattle.std.specs.Map.{lookup}
use Rattle.just_parts.specs.Asts.{same_ast_key, root_ast_key}
use Rattle.just_compiler.proofs.compilation.Compilation.root_ast.Given as goal

abbrev pub invariant-loop-key : goal.invariant-loop-key
invariant-loop-key l =
    (goal.iterator-loop-key).can_next l.key-iterator ×
    (goal.iterator-loop-key).is_finite l.key-iterator ×
    (lookup (same_ast_key (root_ast_key l.self.root)) l.key-iterator ≡ get same_ast_key l.self.asts (root_ast_key l.self.root))
