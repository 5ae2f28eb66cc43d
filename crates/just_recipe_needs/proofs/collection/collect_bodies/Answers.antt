use Rattle.std.proofs.Common.{rules, ◌≡◌, ◌∷◌, [], map, sym, subst}
use Rattle.std.specs.Borrow.{Bor}
use Rattle.std.specs.HashSet.{contains}
use Rattle.std.specs.Map.Iter.{deref}
use Rattle.std.specs.Str.{bytes_eq}
use Rattle.std.proofs.lemmas.List.{map-append}
use Rattle.std.proofs.lemmas.Map.Iter.{iter_end}
use Rattle.just_name_resolution.specs.Lent.{tables_in}
use Rattle.just_names.specs.Texts.{Text}
use Rattle.just_parts.specs.Needs.{has_number, same_number}
use Rattle.just_recipe_needs.proofs.Gathering.{collects_more}
use Rattle.just_recipe_needs.specs.Collected.{Collects, ComesFrom, IsReadInBody}
use Rattle.just_recipe_needs.proofs.collection.collect_bodies.Goals as goal

pub loop-function-preserved : goal.loop-function-preserved
loop-function-preserved c =
    let m = tables_in c.args.sources.now.tables in
    let overridden = has_number c.args.sources.now.overrides.now in
    let now : Bor Text → Text = λ p. p.now in
    let old = contains same_number c.args.references.now in
    let visited = contains bytes_eq c.args.visited.now in
    let new = contains same_number c.collect_body.new.references in
    let more = contains bytes_eq c.collect_body.new.visited in
    subst (λ names. Collects m overridden (ComesFrom (IsReadInBody m) names) old visited new more) (sym (map-append now c.loop-function.yielded (c.in-Some.function ∷ [])))
    (collects_more m overridden (IsReadInBody m) (map now c.loop-function.yielded) c.in-Some.function.now old (contains same_number c.loop-function.references) new
    visited (contains bytes_eq c.loop-function.visited) more c.loop-function.invariant c.in_ok-collect_body.ensures)

pub returns : goal.returns
returns c =
    let m = tables_in c.args.sources.now.tables in
    let whole : map (deref {X = Text}) c.loop-function.yielded ≡ c.args.functions.now.keys = search (rules, iter_end) in
    subst (λ names. Collects m (has_number c.args.sources.now.overrides.now) (ComesFrom (IsReadInBody m) names) (contains same_number c.args.references.now) (contains bytes_eq c.args.visited.now)
    (contains same_number c.loop-function.references) (contains bytes_eq c.loop-function.visited)) whole c.loop-function.invariant
