use Rattle.std.proofs.Common.{◌≡◌, ◌++◌, map}
use Rattle.std.specs.HashSet.{contains}
use Rattle.std.specs.List.{flat_map}
use Rattle.std.specs.Str.{bytes_eq}
use Rattle.just_ast_references.specs.Mentions.{mention_of}
use Rattle.just_module_variables.specs.loops.Places.{target_in, targets_in}
use Rattle.just_parts.specs.Scopes.{scoped}
use Rattle.just_module_variables.proofs.nodes.row.Given as goal

abbrev pub invariant-loop-reference : goal.invariant-loop-reference
invariant-loop-reference l =
    l.row.items ++ flat_map (target_in l.places (contains bytes_eq l.hidden)) (map mention_of l.reference-iterator)
    ≡ targets_in l.places (scoped (contains bytes_eq l.hidden) l.expression)
