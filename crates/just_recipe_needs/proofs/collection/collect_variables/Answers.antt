use Rattle.std.proofs.Common.{rules, ◌≡◌, ◌∷◌, [], map, sym, subst}
use Rattle.std.specs.Borrow.{Bor}
use Rattle.std.specs.HashSet.{contains}
use Rattle.std.specs.Map.Iter.{deref}
use Rattle.std.specs.Str.{bytes_eq}
use Rattle.std.proofs.lemmas.List.{map-append}
use Rattle.std.proofs.lemmas.Map.Iter.{iter_end}
use Rattle.just_name_resolution.specs.Lent.{tables_in}
use Rattle.just_names.specs.Texts.{Text}
use Rattle.just_parts.specs.Needs.{has_number, same_number}
use Rattle.just_recipe_needs.proofs.Gathering.{collects_more}
use Rattle.just_recipe_needs.specs.Collected.{Collects, ComesFrom, IsItself}
use Rattle.just_recipe_needs.proofs.collection.collect_variables.Goals as goal

pub loop-variable-preserved : goal.loop-variable-preserved
loop-variable-preserved c =
    let m = tables_in c.args.sources.now.tables in
    let overridden = has_number c.args.sources.now.overrides.now in
    let now : Bor Text → Text = λ p. p.now in
    let old = contains same_number c.args.references.now in
    let visited = contains bytes_eq c.args.visited.now in
    let new = contains same_number c.collect_variable.new.references in
    let more = contains bytes_eq c.collect_variable.new.visited in
    subst (λ names. Collects m overridden (ComesFrom IsItself names) old visited new more) (sym (map-append now c.loop-variable.yielded (c.in-Some.variable ∷ [])))
    (collects_more m overridden IsItself (map now c.loop-variable.yielded) c.in-Some.variable.now old (contains same_number c.loop-variable.references) new
    visited (contains bytes_eq c.loop-variable.visited) more c.loop-variable.invariant c.in_ok-collect_variable.ensures)

pub returns : goal.returns
returns c =
    let m = tables_in c.args.sources.now.tables in
    let whole : map (deref {X = Text}) c.loop-variable.yielded ≡ c.args.variables.now.keys = search (rules, iter_end) in
    subst (λ names. Collects m (has_number c.args.sources.now.overrides.now) (ComesFrom IsItself names) (contains same_number c.args.references.now) (contains bytes_eq c.args.visited.now)
    (contains same_number c.loop-variable.references) (contains bytes_eq c.loop-variable.visited)) whole c.loop-variable.invariant
