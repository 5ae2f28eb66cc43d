use Rattle.std.proofs.Common.{◌≡◌, ◌<◌, ◌≤◌, ◌∙◌, Bor, [], ◌∷◌, Some, length, map, refl, sym, ap, subst}
use Rattle.std.specs.List.{slice_get}
use Rattle.std.proofs.lemmas.List.{map-append}
use Rattle.std.proofs.lemmas.Option.{slice_get_read}
use Rattle.just_graph.proofs.Index.{map_get, some_at}
use Rattle.just_ast_definitions.specs.declared.assignment.Assignment.{Assignment}
use Rattle.just_module_contents.specs.Definitions.{variables_in}
use Rattle.just_module_contents.specs.Kept.{claim_of_variable}
use Rattle.just_module_contents.specs.loops.Kept.{stays}
use Rattle.just_module_contents.specs.Recipes.{lent}
use Rattle.just_module_contents.proofs.Keeping.{keeps_all, keeps_more, keeps_same}
use Rattle.just_module_contents.proofs.RecipePlaces.{length-lent}
use Rattle.just_module_contents.proofs.precedence.kept_variables.Goals as goal

pub loop-place-preserved : goal.loop-place-preserved
loop-place-preserved c =
    let items = c.args.definitions.now.variables.items in
    let all = variables_in c.args.definitions.now in
    let place = c.loop-place.place in
    let count : c.len-place-end.result ≡ length items = c.len-place-end.ensures ∙ c.args.definitions.now.variables.ok.0 in
    let lends : slice_get items place ≡ Some c.index.result.now = slice_get_read items (length items) place c.index.result.now refl (subst (λ n. place < n) count c.loop-place-test.true) c.index.ensures in
    let claims : c.as_slice-in-loop-place.result.now ≡ map claim_of_variable all = c.as_slice-in-loop-place.ensures.value ∙ c.in_ok-claims.ensures in
    keeps_more claim_of_variable all place c.index.result.now.now (map_get (λ (r : Bor Assignment). r.now) items place c.index.result.now lends) (lent c.loop-place.kept.items) c.loop-place.invariant (lent c.push.new.self.items)
    (ap (λ cs. stays cs place) (sym claims) ∙ sym c.is_kept.ensures ∙ c.if-not-is_kept.false)
    (ap lent c.in_ok-push.ensures.items ∙ map-append (λ (r : Bor Assignment). r.now) c.loop-place.kept.items (c.index.result.now ∷ []))

pub loop-place-preserved-then-not-is_kept : goal.loop-place-preserved-then-not-is_kept
loop-place-preserved-then-not-is_kept c =
    let all = variables_in c.args.definitions.now in
    let place = c.loop-place.place in
    let long : length all ≡ length c.args.definitions.now.variables.items = length-lent c.args.definitions.now.variables.items in
    let count : c.len-place-end.result ≡ length c.args.definitions.now.variables.items = c.len-place-end.ensures ∙ c.args.definitions.now.variables.ok.0 in
    let claims : c.as_slice-in-loop-place.result.now ≡ map claim_of_variable all = c.as_slice-in-loop-place.ensures.value ∙ c.in_ok-claims.ensures in
    let x = some_at all place (subst (λ n. place < n) (count ∙ sym long) c.loop-place-test.true) in
    keeps_same claim_of_variable all place x.0 x.1 (lent c.loop-place.kept.items) c.loop-place.invariant (ap (λ cs. stays cs place) (sym claims) ∙ sym c.is_kept.ensures ∙ c.if-not-is_kept.true)

pub returns : goal.returns
returns c =
    let long : length (variables_in c.args.definitions.now) ≡ length c.args.definitions.now.variables.items = length-lent c.args.definitions.now.variables.items in
    let count : c.len-place-end.result ≡ length c.args.definitions.now.variables.items = c.len-place-end.ensures ∙ c.args.definitions.now.variables.ok.0 in
    keeps_all claim_of_variable (variables_in c.args.definitions.now) c.loop-place.place (lent c.loop-place.kept.items) (subst (λ n. n ≤ c.loop-place.place) (count ∙ sym long) c.loop-place-test.false) c.loop-place.invariant
