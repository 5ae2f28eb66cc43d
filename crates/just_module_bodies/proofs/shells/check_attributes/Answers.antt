use Rattle.std.proofs.Common.{◌≡◌, ◌<◌, ◌∙◌, List, Some, ap, length, refl, subst, sym, arith, inl, inr}
use Rattle.std.specs.List.{slice_get}
use Rattle.std.proofs.lemmas.Bool.{cases_lt}
use Rattle.std.proofs.lemmas.Option.{slice_get_read, slice_get_within}
use Rattle.just_graph.proofs.Index.{some_same}
use Rattle.just_ast_definitions.specs.declared.attribute.NamedAttribute.{NamedAttribute}
use Rattle.just_ast_expressions.specs.declared.expression.Expression.{Expression}
use Rattle.just_module_contents.specs.Shells.{is_of_scripts}
use Rattle.just_module_bodies.proofs.Grouping.{attribute_told, attributes_kept}
use Rattle.just_module_bodies.proofs.shells.check_attributes.Goals as goal

pub loop-place-preserved : goal.loop-place-preserved
loop-place-preserved c = λ k named h at.
    let all = c.as_slice-attributes.result.now in
    let place = c.loop-place.place in
    let inside : place < length all = omega arith in
    let here : slice_get all place ≡ Some c.index-attributes-place.result = slice_get_read all (length all) place c.index-attributes-place.result refl inside c.index-attributes-place.is in
    elim (cases_lt k place) [
      | inl l ↦ c.loop-place.invariant k named l at
      | inr l ↦
          let same : k ≡ place = omega (arith, h, l) in
          ap (λ (n : NamedAttribute Expression). is_of_scripts n.attribute) (some_same (sym at ∙ ap (slice_get all) same ∙ here)) ∙ sym c.is_of_scripts.ensures ∙ c.if-is_of_scripts.false
    ]

pub returns-then-is_of_scripts-clause-named : goal.returns-then-is_of_scripts-clause-named
returns-then-is_of_scripts-clause-named c =
    let all = c.as_slice-attributes.result.now in
    let place = c.loop-place.place in
    let named = c.index-attributes-place.result in
    let inside : place < length all = omega arith in
    let here : slice_get all place ≡ Some named = slice_get_read all (length all) place named refl inside c.index-attributes-place.is in
    attribute_told c.args.recipe.now place named c.copied.result c.new.result c.new-then-is_of_scripts.result
    (subst (λ (ns : List (NamedAttribute Expression)). slice_get ns place ≡ Some named) c.as_slice-attributes.ensures here) (sym c.is_of_scripts.ensures ∙ c.if-is_of_scripts.true) c.copied.ensures
    (c.new.ensures ∙ c.lexeme.ensures) (c.new-then-is_of_scripts.ensures ∙ c.lexeme-then-is_of_scripts.ensures)

pub returns-clause-kept : goal.returns-clause-kept
returns-clause-kept c =
    let all = c.as_slice-attributes.result.now in
    attributes_kept c.args.recipe.now (λ k named at.
    let there : slice_get all k ≡ Some named = subst (λ (ns : List (NamedAttribute Expression)). slice_get ns k ≡ Some named) (sym c.as_slice-attributes.ensures) at in
    c.loop-place.invariant k named (omega (arith, slice_get_within all k named there)) there)
