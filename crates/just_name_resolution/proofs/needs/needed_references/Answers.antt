use Rattle.std.proofs.Common.{◌≡◌, ◌<◌, ◌≤◌, List, [], ◌∷◌, ◌++◌, None, get_or, map, take, ◌∙◌, ap, refl, subst, sym}
use Rattle.std.specs.Borrow.{Bor}
use Rattle.std.specs.HashSet.{contains}
use Rattle.std.specs.List.{list_any}
use Rattle.std.specs.Str.{bytes_eq}
use Rattle.std.proofs.lemmas.List.{map-append, take_all, take_more}
use Rattle.just_name_resolution.specs.loops.Search.{scoped_of}
use Rattle.just_name_resolution.proofs.LookingAt.{pushed}
use Rattle.just_name_resolution.proofs.Starts.{found_by, scoped_all}
use Rattle.just_name_resolution.proofs.needs.needed_references.Goals as goal
use Rattle.just_parts.specs.Known.{none_hidden}
use Rattle.just_parts.specs.Needs.{has_number, same_number}
use Rattle.just_ast_expressions.specs.declared.expression.Expression.{Expression}
use Rattle.just_name_resolution.specs.Lent.{tables_in}
use Rattle.just_parts.specs.Scopes.{Scoped, scoped}

pub loop-place-preserved : goal.loop-place-preserved
loop-place-preserved c =
    let item = c.index.result.now in
    let one : Bor Expression → Scoped = λ e. scoped none_hidden e.now in
    let i = c.loop-place.place in
    let es = c.args.expressions.now.items in
    pushed c.loop-place.stack.items c.push.new.self.items (record { expression = item; parameters = None }) (one item) c.in_ok-push.ensures.items refl
    ∙ ap (λ (ss : List Scoped). ss ++ one item ∷ []) c.loop-place.invariant
    ∙ ap (λ (e : Bor Expression). map one (take i es) ++ one e ∷ []) c.index.ensures
    ∙ sym (map-append one (take i es) (get_or es i item ∷ []))
    ∙ ap (map one) (sym (take_more es i item (subst (λ n. i < n) (c.len-place-end.ensures ∙ c.args.expressions.now.ok.0) c.loop-place-test.true)))

pub returns : goal.returns
returns c =
    let m = tables_in c.args.tables.now in
    let es = c.args.expressions.now.items in
    let one : Bor Expression → Scoped = λ e. scoped none_hidden e.now in
    let all : map scoped_of c.loop-place.stack.items ≡ map (scoped none_hidden) (map (λ e. e.now) es) =
    c.loop-place.invariant ∙ ap (map one) (take_all c.loop-place.place es (subst (λ n. n ≤ c.loop-place.place) (c.len-place-end.ensures ∙ c.args.expressions.now.ok.0) c.loop-place-test.false)) ∙ scoped_all es in
    record {
      needed = found_by m (has_number c.args.overrides.now) (contains same_number c.new-references.result) (contains bytes_eq c.new-visited.result) c.in_ok-found.found (map scoped_of c.loop-place.stack.items) (map (λ e. e.now) es)
          all c.in_ok-found.ensures.found c.in_ok-found.ensures.over
          (λ n. ap (list_any (same_number n)) c.new-references.ensures.empty) (λ x. ap (list_any (bytes_eq x)) c.new-visited.ensures.empty);
    }
