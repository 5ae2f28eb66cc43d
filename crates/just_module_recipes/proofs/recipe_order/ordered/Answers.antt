use Rattle.std.proofs.Common.{◌≡◌, ◌<◌, ◌-◌, ◌∙◌, ℕ, [], ap, sym, subst, arith, length, get_or, slice_index, map}
use Rattle.std.proofs.lemmas.List.{get_or_default}
use Rattle.std.proofs.lemmas.Grind.{common_steps}
use Rattle.std.specs.List.{Contains}
use Rattle.just_errors.specs.Causes.{Broken}
use Rattle.just_errors.specs.declared.compile_error.CompileErrorKind.TheVariants as kind
use Rattle.just_graph.specs.Graph.{HasEdge}
use Rattle.just_graph.specs.Building.{EachRow}
use Rattle.just_graph.specs.Steps.{IsCircle, IsOrder, circle_by}
use Rattle.just_module_contents.proofs.RecipePlaces.{length-lent}
use Rattle.just_module_contents.specs.Definitions.{recipes_in}
use Rattle.just_module_contents.specs.Recipes.{Depends, name_of_recipe, recipe_at}
use Rattle.just_module_recipes.specs.loops.Rows.{Circular, circle, near}
use Rattle.just_module_recipes.specs.declared.targets.Target.TheVariants.{Near}
use Rattle.just_module_recipes.proofs.Ordering.{circles_kept, is_order_of}
use Rattle.just_module_recipes.proofs.RecipeCircles.{circle_below, circle_of, closing_dependency, closing_read, closing_row, last_read}
use Rattle.just_module_recipes.proofs.Steps.{edges, is_graph}
use Rattle.just_names.specs.Token.{Place}
use Rattle.just_module_recipes.proofs.recipe_order.ordered.Goals as goal

pub order-requires-clause-graph : goal.order-requires-clause-graph
order-requires-clause-graph c =
    let rs = recipes_in c.args.kept.now in
    let rows = c.args.rows.now in
    let it = c.requires.rows.0 in
    let are = c.requires.rows.1 in
    let g = c.as_slice.result.now in
    let told : EachRow (λ a row. row ≡ near (get_or rows a [])) (length rows) g = subst (EachRow (λ a row. row ≡ near (get_or rows a [])) (length rows)) (sym c.as_slice.ensures.value) c.in_ok-edges.ensures in
    is_graph rs c.requires.different it rows are g told

pub order-requires-clause-roots : goal.order-requires-clause-roots
order-requires-clause-roots c = λ k d h.
    let rs = recipes_in c.args.kept.now in
    let rows = c.args.rows.now in
    let are = c.requires.rows.1 in
    let g = c.as_slice.result.now in
    let told : EachRow (λ a row. row ≡ near (get_or rows a [])) (length rows) g = subst (EachRow (λ a row. row ≡ near (get_or rows a [])) (length rows)) (sym c.as_slice.ensures.value) c.in_ok-edges.ensures in
    let long : length rs ≡ length c.args.kept.now.recipes.items = length-lent c.args.kept.now.recipes.items in
    let same : length c.as_slice-2.result.now ≡ c.len.result = ap length c.as_slice-2.ensures.value ∙ c.in_ok-roots.ensures.count in
    let count : c.len.result ≡ length c.args.kept.now.recipes.items = grind (arith, common_steps) in
    let at : get_or c.as_slice-2.result.now k d ≡ k = get_or_default c.as_slice-2.result.now k d 0 h ∙ (ap (λ xs. slice_index xs k) c.as_slice-2.ensures.value ∙ c.in_ok-roots.ensures.each k (omega (arith, h, same))) in
    omega (arith, at, h, same, count, long, are.count, told.count)

pub returns-in-Ok-clause-kept : goal.returns-in-Ok-clause-kept
returns-in-Ok-clause-kept c = λ _ h.
    let rs = recipes_in c.args.kept.now in
    let rows = c.args.rows.now in
    let it = c.requires.rows.0 in
    let are = c.requires.rows.1 in
    let g = c.as_slice.result.now in
    let told : EachRow (λ a row. row ≡ near (get_or rows a [])) (length rows) g = subst (EachRow (λ a row. row ≡ near (get_or rows a [])) (length rows)) (sym c.as_slice.ensures.value) c.in_ok-edges.ensures in
    let long : length rs ≡ length c.args.kept.now.recipes.items = length-lent c.args.kept.now.recipes.items in
    let count : c.len.result ≡ length c.args.kept.now.recipes.items = grind (arith, common_steps) in
    let o : IsOrder (HasEdge g) (length g) c.as_slice-2.result.now c.in-Ok.order.items = rw c.in-Ok.is at c.in_ok-order.ensures.ordered in
    let same : c.in_ok-roots.roots.items ≡ c.as_slice-2.result.now = sym c.as_slice-2.ensures.value in
    let each : ((i : ℕ) → i < length rs → slice_index c.as_slice-2.result.now i ≡ i) = (λ i l. ap (λ xs. slice_index xs i) (sym same) ∙ c.in_ok-roots.ensures.each i (omega (arith, l, long, count))) in
    let many : length c.as_slice-2.result.now ≡ length rs = ap length (sym same) ∙ (c.in_ok-roots.ensures.count ∙ (count ∙ sym long)) in
    circles_kept rs c.requires.different it rows are g told c.as_slice-2.result.now c.in-Ok.order.items each many o h

pub returns-in-Ok-clause-ordered : goal.returns-in-Ok-clause-ordered
returns-in-Ok-clause-ordered c =
    let rs = recipes_in c.args.kept.now in
    let rows = c.args.rows.now in
    let it = c.requires.rows.0 in
    let are = c.requires.rows.1 in
    let g = c.as_slice.result.now in
    let told : EachRow (λ a row. row ≡ near (get_or rows a [])) (length rows) g = subst (EachRow (λ a row. row ≡ near (get_or rows a [])) (length rows)) (sym c.as_slice.ensures.value) c.in_ok-edges.ensures in
    let long : length rs ≡ length c.args.kept.now.recipes.items = length-lent c.args.kept.now.recipes.items in
    let count : c.len.result ≡ length c.args.kept.now.recipes.items = grind (arith, common_steps) in
    let o : IsOrder (HasEdge g) (length g) c.as_slice-2.result.now c.in-Ok.order.items = rw c.in-Ok.is at c.in_ok-order.ensures.ordered in
    let same : c.in_ok-roots.roots.items ≡ c.as_slice-2.result.now = sym c.as_slice-2.ensures.value in
    let each : ((i : ℕ) → i < length rs → slice_index c.as_slice-2.result.now i ≡ i) = (λ i l. ap (λ xs. slice_index xs i) (sym same) ∙ c.in_ok-roots.ensures.each i (omega (arith, l, long, count))) in
    let many : length c.as_slice-2.result.now ≡ length rs = ap length (sym same) ∙ (c.in_ok-roots.ensures.count ∙ (count ∙ sym long)) in
    is_order_of rs c.requires.different it rows are g told c.as_slice-2.result.now c.in-Ok.order.items each many o

pub recipe_at-last-requires : goal.recipe_at-last-requires
recipe_at-last-requires c =
    let rs = recipes_in c.args.kept.now in
    let rows = c.args.rows.now in
    let it = c.requires.rows.0 in
    let are = c.requires.rows.1 in
    let g = c.as_slice.result.now in
    let told : EachRow (λ a row. row ≡ near (get_or rows a [])) (length rows) g = subst (EachRow (λ a row. row ≡ near (get_or rows a [])) (length rows)) (sym c.as_slice.ensures.value) c.in_ok-edges.ensures in
    let long : length rs ≡ length c.args.kept.now.recipes.items = length-lent c.args.kept.now.recipes.items in
    let edge : IsCircle (HasEdge g) c.in-Err.circle.items = rw c.in-Err.is at c.in_ok-order.ensures.circle in
    let circular : IsCircle (Depends rs) c.in-Err.circle.items = circle_by (λ a b. (edges rs c.requires.different it rows are g told a b).0) c.in-Err.circle.items edge in
    let len : c.len-in-Err.result ≡ length c.in-Err.circle.items = grind (arith, common_steps) in
    let last : c.index-closing.result.now ≡ slice_index c.in-Err.circle.items (length c.in-Err.circle.items - 2) = closing_read _ _ _ len edge.steps c.index-closing.ensures in
    let l : slice_index c.in-Err.circle.items (length c.in-Err.circle.items - 2) < length rs = circle_below rs c.in-Err.circle.items circular (length c.in-Err.circle.items - 2) (omega (arith, edge.steps)) in
    omega (arith, last, l, long)

pub names_at-requires : goal.names_at-requires
names_at-requires c = λ k d h.
    let rs = recipes_in c.args.kept.now in
    let rows = c.args.rows.now in
    let it = c.requires.rows.0 in
    let are = c.requires.rows.1 in
    let g = c.as_slice.result.now in
    let told : EachRow (λ a row. row ≡ near (get_or rows a [])) (length rows) g = subst (EachRow (λ a row. row ≡ near (get_or rows a [])) (length rows)) (sym c.as_slice.ensures.value) c.in_ok-edges.ensures in
    let long : length rs ≡ length c.args.kept.now.recipes.items = length-lent c.args.kept.now.recipes.items in
    let edge : IsCircle (HasEdge g) c.in-Err.circle.items = rw c.in-Err.is at c.in_ok-order.ensures.circle in
    let circular : IsCircle (Depends rs) c.in-Err.circle.items = circle_by (λ a b. (edges rs c.requires.different it rows are g told a b).0) c.in-Err.circle.items edge in
    let same : length c.as_slice-in-Err.result.now ≡ length c.in-Err.circle.items = ap length c.as_slice-in-Err.ensures.value in
    let l : slice_index c.in-Err.circle.items k < length rs = circle_below rs c.in-Err.circle.items circular k (omega (arith, h, same)) in
    let at : get_or c.as_slice-in-Err.result.now k d ≡ slice_index c.in-Err.circle.items k = get_or_default c.as_slice-in-Err.result.now k d 0 h ∙ ap (λ xs. slice_index xs k) c.as_slice-in-Err.ensures.value in
    omega (arith, at, l, long)

pub row_at-requires : goal.row_at-requires
row_at-requires c =
    let rs = recipes_in c.args.kept.now in
    let rows = c.args.rows.now in
    let it = c.requires.rows.0 in
    let are = c.requires.rows.1 in
    let g = c.as_slice.result.now in
    let told : EachRow (λ a row. row ≡ near (get_or rows a [])) (length rows) g = subst (EachRow (λ a row. row ≡ near (get_or rows a [])) (length rows)) (sym c.as_slice.ensures.value) c.in_ok-edges.ensures in
    let edge : IsCircle (HasEdge g) c.in-Err.circle.items = rw c.in-Err.is at c.in_ok-order.ensures.circle in
    let circular : IsCircle (Depends rs) c.in-Err.circle.items = circle_by (λ a b. (edges rs c.requires.different it rows are g told a b).0) c.in-Err.circle.items edge in
    let len : c.len-in-Err.result ≡ length c.in-Err.circle.items = grind (arith, common_steps) in
    let last : c.index-closing.result.now ≡ slice_index c.in-Err.circle.items (length c.in-Err.circle.items - 2) = closing_read _ _ _ len edge.steps c.index-closing.ensures in
    let l : slice_index c.in-Err.circle.items (length c.in-Err.circle.items - 2) < length rs = circle_below rs c.in-Err.circle.items circular (length c.in-Err.circle.items - 2) (omega (arith, edge.steps)) in
    omega (arith, last, l, are.count)

pub dependency_token-requires-clause-dependent : goal.dependency_token-requires-clause-dependent
dependency_token-requires-clause-dependent c =
    let rs = recipes_in c.args.kept.now in
    let rows = c.args.rows.now in
    let it = c.requires.rows.0 in
    let are = c.requires.rows.1 in
    let g = c.as_slice.result.now in
    let told : EachRow (λ a row. row ≡ near (get_or rows a [])) (length rows) g = subst (EachRow (λ a row. row ≡ near (get_or rows a [])) (length rows)) (sym c.as_slice.ensures.value) c.in_ok-edges.ensures in
    let long : length rs ≡ length c.args.kept.now.recipes.items = length-lent c.args.kept.now.recipes.items in
    let edge : IsCircle (HasEdge g) c.in-Err.circle.items = rw c.in-Err.is at c.in_ok-order.ensures.circle in
    let circular : IsCircle (Depends rs) c.in-Err.circle.items = circle_by (λ a b. (edges rs c.requires.different it rows are g told a b).0) c.in-Err.circle.items edge in
    let len : c.len-in-Err.result ≡ length c.in-Err.circle.items = grind (arith, common_steps) in
    let last : c.index-closing.result.now ≡ slice_index c.in-Err.circle.items (length c.in-Err.circle.items - 2) = closing_read _ _ _ len edge.steps c.index-closing.ensures in
    let l : slice_index c.in-Err.circle.items (length c.in-Err.circle.items - 2) < length rs = circle_below rs c.in-Err.circle.items circular (length c.in-Err.circle.items - 2) (omega (arith, edge.steps)) in
    omega (arith, last, l, long)

pub dependency_token-requires-clause-place : goal.dependency_token-requires-clause-place
dependency_token-requires-clause-place c =
    let rs = recipes_in c.args.kept.now in
    let rows = c.args.rows.now in
    let it = c.requires.rows.0 in
    let are = c.requires.rows.1 in
    let g = c.as_slice.result.now in
    let told : EachRow (λ a row. row ≡ near (get_or rows a [])) (length rows) g = subst (EachRow (λ a row. row ≡ near (get_or rows a [])) (length rows)) (sym c.as_slice.ensures.value) c.in_ok-edges.ensures in
    let edge : IsCircle (HasEdge g) c.in-Err.circle.items = rw c.in-Err.is at c.in_ok-order.ensures.circle in
    let circular : IsCircle (Depends rs) c.in-Err.circle.items = circle_by (λ a b. (edges rs c.requires.different it rows are g told a b).0) c.in-Err.circle.items edge in
    let len : c.len-in-Err.result ≡ length c.in-Err.circle.items = grind (arith, common_steps) in
    let last : c.index-closing.result.now ≡ slice_index c.in-Err.circle.items (length c.in-Err.circle.items - 2) = closing_read _ _ _ len edge.steps c.index-closing.ensures in
    let l : slice_index c.in-Err.circle.items (length c.in-Err.circle.items - 2) < length rs = circle_below rs c.in-Err.circle.items circular (length c.in-Err.circle.items - 2) (omega (arith, edge.steps)) in
    let again : c.len-in-Err-2.result ≡ length c.in-Err.circle.items = grind (arith, common_steps) in
    let final : c.index.result.now ≡ slice_index c.in-Err.circle.items (length c.in-Err.circle.items - 1) = last_read _ _ _ again edge.steps c.index.ensures in
    subst (λ row. Contains row (Near c.index.result.now)) (sym c.row_at.ensures) (closing_row rows g told c.in-Err.circle.items edge c.index-closing.result.now c.index.result.now (omega (arith, last, l, are.count)) last final)

pub returns-clause-named : goal.returns-clause-named
returns-clause-named c =
    let rs = recipes_in c.args.kept.now in
    let rows = c.args.rows.now in
    let it = c.requires.rows.0 in
    let are = c.requires.rows.1 in
    let g = c.as_slice.result.now in
    let told : EachRow (λ a row. row ≡ near (get_or rows a [])) (length rows) g = subst (EachRow (λ a row. row ≡ near (get_or rows a [])) (length rows)) (sym c.as_slice.ensures.value) c.in_ok-edges.ensures in
    let edge : IsCircle (HasEdge g) c.in-Err.circle.items = rw c.in-Err.is at c.in_ok-order.ensures.circle in
    let circular : IsCircle (Depends rs) c.in-Err.circle.items = circle_by (λ a b. (edges rs c.requires.different it rows are g told a b).0) c.in-Err.circle.items edge in
    let len : c.len-in-Err.result ≡ length c.in-Err.circle.items = grind (arith, common_steps) in
    let last : c.index-closing.result.now ≡ slice_index c.in-Err.circle.items (length c.in-Err.circle.items - 2) = closing_read _ _ _ len edge.steps c.index-closing.ensures in
    let again : c.len-in-Err-2.result ≡ length c.in-Err.circle.items = grind (arith, common_steps) in
    let final : c.index.result.now ≡ slice_index c.in-Err.circle.items (length c.in-Err.circle.items - 1) = last_read _ _ _ again edge.steps c.index.ensures in
    let names = c.in_ok-names-in-Err.ensures ∙ ap (map (λ a. name_of_recipe (recipe_at rs a))) c.as_slice-in-Err.ensures.value in
    let recipe = c.new.ensures ∙ (c.lexeme.ensures ∙ ap name_of_recipe c.recipe_at-last.ensures.there) in
    subst (λ (p : Place). Circular rs (Broken p (kind.CircularRecipeDependency c.new.result c.in_ok-names-in-Err.names))) (sym c.dependency_token.ensures.token_is)
    (circle (circle_of rs c.in-Err.circle.items circular _ _ names (recipe ∙ ap (λ x. name_of_recipe (recipe_at rs x)) last))
    (closing_dependency rs c.in-Err.circle.items circular c.new.result c.in_ok-names-in-Err.names c.index-closing.result.now c.index.result.now c.dependency_token.result names recipe last final c.dependency_token.ensures))
