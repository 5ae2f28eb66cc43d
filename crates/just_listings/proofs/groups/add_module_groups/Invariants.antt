use Rattle.std.proofs.Common.{◌≡◌, ◌++◌, map, take}
use Rattle.just_ast_expressions.specs.declared.string_literal.StringLiteral.{StringLiteral}
use Rattle.just_justfile.specs.declared.justfile.Justfile.{out-Justfile}
use Rattle.just_listings.specs.Groups.{all_at}
use Rattle.just_listings.specs.Public.{module_place}
use Rattle.just_listings.proofs.groups.add_module_groups.Given as goal

abbrev pub invariant-loop-group : goal.invariant-loop-group
invariant-loop-group l =
    l.groups.items ≡ l.initial.groups.items ++ all_at (module_place l.justfile) (map (λ (group : StringLiteral). group.cooked) (take l.group-index (out-Justfile l.justfile).groups))
