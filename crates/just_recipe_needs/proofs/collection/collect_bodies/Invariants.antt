use Rattle.std.proofs.Common.{map}
use Rattle.std.specs.Borrow.{Bor}
use Rattle.std.specs.HashSet.{contains}
use Rattle.std.specs.Str.{bytes_eq}
use Rattle.just_name_resolution.specs.Lent.{tables_in}
use Rattle.just_names.specs.Texts.{Text}
use Rattle.just_parts.specs.Needs.{has_number, same_number}
use Rattle.just_recipe_needs.specs.Collected.{Collects, ComesFrom, IsReadInBody}
use Rattle.just_recipe_needs.proofs.collection.collect_bodies.Given as goal

abbrev pub invariant-loop-function : goal.invariant-loop-function
invariant-loop-function l =
    let m = tables_in l.sources.tables in
    Collects m (has_number l.sources.overrides.now) (ComesFrom (IsReadInBody m) (map (λ (p : Bor Text). p.now) l.yielded))
    (contains same_number l.initial.references) (contains bytes_eq l.initial.visited) (contains same_number l.references) (contains bytes_eq l.visited)
