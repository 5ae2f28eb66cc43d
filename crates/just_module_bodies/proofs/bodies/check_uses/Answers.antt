use Rattle.std.proofs.Common.{◌≡◌, ◌∙◌, List, length, refl, subst, sym, arith}
use Rattle.std.proofs.lemmas.Grind.{common_steps}
use Rattle.std.proofs.lemmas.Option.{slice_get_within}
use Rattle.just_names.specs.Texts.{Text}
use Rattle.just_module_contents.specs.Contents.{function_texts}
use Rattle.just_module_contents.specs.Definitions.{contents_in, lists_in}
use Rattle.just_module_contents.specs.Rules.{StandsFor}
use Rattle.just_module_contents.proofs.Leave.{needs_told, stands_more, uses_kept}
use Rattle.just_module_contents.proofs.RecipePlaces.{length-lent}
use Rattle.just_module_bodies.proofs.bodies.check_uses.Goals as goal

pub loop-place-preserved : goal.loop-place-preserved
loop-place-preserved c =
    let names = function_texts (contents_in c.args.definitions.now) in
    stands_more names (lists_in c.args.definitions.now) c.loop-place.place c.list_at-used.result.now c.list_at-used.ensures
    (subst (λ (ns : List Text). StandsFor ns c.list_at-used.result.now) (c.as_slice-in-loop-place.ensures.value ∙ c.in_ok-names.ensures) (c.stands_for.ensures.yes c.if-stands_for.true)) c.loop-place.invariant

pub returns-in-loop-place-clause-named : goal.returns-in-loop-place-clause-named
returns-in-loop-place-clause-named c =
    let names = function_texts (contents_in c.args.definitions.now) in
    needs_told names (lists_in c.args.definitions.now) c.loop-place.place c.list_at-used.result.now c.copied.result c.list_at-used.result.now.feature c.list_at-used.ensures
    (λ stands. c.stands_for.ensures.no c.if-stands_for.false (subst (λ (ns : List Text). StandsFor ns c.list_at-used.result.now) (sym (c.as_slice-in-loop-place.ensures.value ∙ c.in_ok-names.ensures)) stands)) c.copied.ensures refl

pub returns-clause-kept : goal.returns-clause-kept
returns-clause-kept c =
    let uses = lists_in c.args.definitions.now in
    let long : length uses ≡ length c.args.definitions.now.lists.items = length-lent c.args.definitions.now.lists.items in
    let count : c.len-place-end.result ≡ length c.args.definitions.now.lists.items = grind (arith, common_steps) in
    uses_kept (function_texts (contents_in c.args.definitions.now)) uses (λ k used at. c.loop-place.invariant k used (omega (arith, long, count, slice_get_within uses k used at, c.loop-place-test.false)) at)
