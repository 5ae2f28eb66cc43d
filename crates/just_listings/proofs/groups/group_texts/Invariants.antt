use Rattle.std.proofs.Common.{◌≡◌, map, take}
use Rattle.just_ast_expressions.specs.declared.string_literal.StringLiteral.{StringLiteral}
use Rattle.just_justfile.specs.declared.justfile.Justfile.{out-Justfile}
use Rattle.just_listings.specs.Order.{referents}
use Rattle.just_listings.proofs.groups.group_texts.Given as goal

abbrev pub invariant-loop-group : goal.invariant-loop-group
invariant-loop-group l = referents l.groups.items ≡ map (λ (group : StringLiteral). group.cooked) (take l.group-index (out-Justfile l.justfile).groups)
