use Rattle.std.proofs.Common.{◌≡◌, ◌∙◌, List, Some, length, refl, subst, sym}
use Rattle.std.specs.List.{slice_get}
use Rattle.std.specs.Str.{bytes_eq}
use Rattle.std.specs.HashMap.{get}
use Rattle.std.proofs.lemmas.Option.{slice_get_read}
use Rattle.just_names.specs.Texts.{Text}
use Rattle.just_names.specs.Index.{texts_of_names, IsIndex}
use Rattle.just_module_contents.proofs.Defining.{apart_more, assigned_too}
use Rattle.just_module_headers.proofs.variables.check_unexported.Goals as goal

pub loop-name-preserved : goal.loop-name-preserved
loop-name-preserved c =
    let ns = c.args.names.now in
    let others = texts_of_names c.args.unexports.now in
    let n = c.loop-name.name-index in
    let item : slice_get ns n ≡ Some c.name-item.result = slice_get_read ns (length ns) n c.name-item.result refl c.loop-name-test.true c.name-item.is in
    let index : IsIndex others (get bytes_eq c.in_ok-index.index) = subst (λ (ts : List Text). IsIndex ts (get bytes_eq c.in_ok-index.index)) (c.as_slice.ensures.value ∙ c.in_ok-texts.ensures) c.in_ok-index.ensures in
    apart_more ns others n c.name-item.result c.new.result _ item (c.new.ensures ∙ c.lexeme.ensures) (index c.new.result) (sym c.in-None.ensures.value) c.loop-name.invariant

pub returns-in-Some-clause-named : goal.returns-in-Some-clause-named
returns-in-Some-clause-named c =
    let ns = c.args.names.now in
    let others = texts_of_names c.args.unexports.now in
    let n = c.loop-name.name-index in
    let item : slice_get ns n ≡ Some c.name-item.result = slice_get_read ns (length ns) n c.name-item.result refl c.loop-name-test.true c.name-item.is in
    let index : IsIndex others (get bytes_eq c.in_ok-index.index) = subst (λ (ts : List Text). IsIndex ts (get bytes_eq c.in_ok-index.index)) (c.as_slice.ensures.value ∙ c.in_ok-texts.ensures) c.in_ok-index.ensures in
    assigned_too ns c.args.unexports.now n c.name-item.result c.copied.result c.new.result c.new-in-Some.result _ c.in-Some.field-0.now item (c.new.ensures ∙ c.lexeme.ensures) (index c.new.result) (sym c.in-Some.ensures.value) c.copied.ensures
    (c.new-in-Some.ensures ∙ c.lexeme-in-Some.ensures)
