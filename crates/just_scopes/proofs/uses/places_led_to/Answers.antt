use Rattle.std.proofs.Common.{◌≡◌, ◌∙◌, ◌<◌, false, length, replicate, sym, subst, arith}
use Rattle.std.proofs.lemmas.Grind.{common_steps}
use Rattle.std.specs.List.{All, Contains}
use Rattle.std.proofs.lemmas.List.Elements.{All-contains_itself, All-weaker}
use Rattle.just_graph.specs.Graph.{HasEdge, IsGraph}
use Rattle.just_graph.specs.Steps.{Reached}
use Rattle.just_scopes.proofs.Using.{are-off, is-graph, reached-below, reaches, starts-below}
use Rattle.just_scopes.proofs.uses.places_led_to.Goals as goal

pub reach-requires-clause-graph : goal.reach-requires-clause-graph
reach-requires-clause-graph c = subst IsGraph (sym c.as_slice.ensures.value) (is-graph c.args.recipes.now c.are_ordered.ensures c.in_ok-rows.rows.items c.in_ok-rows.ensures)

pub reach-requires-clause-start : goal.reach-requires-clause-start
reach-requires-clause-start c =
    subst (λ rows. All (λ a. a < length rows) c.as_slice-2.result.now) (sym c.as_slice.ensures.value)
    (starts-below c.args.recipes.now c.are_ordered.ensures c.in_ok-rows.rows.items c.in_ok-rows.ensures c.args.tops.now c.requires c.as_slice-2.result.now (c.as_slice-2.ensures.value ∙ c.in_ok-starts.ensures))

pub returns-clause-led : goal.returns-clause-led
returns-clause-led c = λ a.
    let recipes = c.args.recipes.now in
    let fresh : c.resize.new.self.items ≡ replicate c.len.result false = grind (arith, common_steps, c.in_ok-resize.ensures.items, c.new-stops.ensures.items) in
    let l = reaches recipes c.are_ordered.ensures c.in_ok-rows.rows.items c.in_ok-rows.ensures c.args.tops.now c.as_slice-2.result.now c.as_slice-3.result.now (c.as_slice-2.ensures.value ∙ c.in_ok-starts.ensures)
    (are-off c.len.result c.as_slice-3.result.now (c.as_slice-3.ensures.value ∙ fresh)) a in (
      (λ i. l.0 (subst (λ rows. Reached (HasEdge rows) c.as_slice-2.result.now c.as_slice-3.result.now a) c.as_slice.ensures.value ((c.in_ok-found.ensures.reached a).0 i))),
      (λ t. (c.in_ok-found.ensures.reached a).1 (subst (λ rows. Reached (HasEdge rows) c.as_slice-2.result.now c.as_slice-3.result.now a) (sym c.as_slice.ensures.value) (l.1 t))),
    )

pub returns-clause-below : goal.returns-clause-below
returns-clause-below c =
    let recipes = c.args.recipes.now in
    let starts = starts-below recipes c.are_ordered.ensures c.in_ok-rows.rows.items c.in_ok-rows.ensures c.args.tops.now c.requires c.as_slice-2.result.now (c.as_slice-2.ensures.value ∙ c.in_ok-starts.ensures) in
    All-weaker (Contains c.in_ok-found.found.items) (λ a. a < length recipes)
    (λ a i. reached-below recipes c.are_ordered.ensures c.in_ok-rows.rows.items c.in_ok-rows.ensures starts a
    (subst (λ rows. Reached (HasEdge rows) c.as_slice-2.result.now c.as_slice-3.result.now a) c.as_slice.ensures.value ((c.in_ok-found.ensures.reached a).0 i))) c.in_ok-found.found.items (All-contains_itself c.in_ok-found.found.items)
