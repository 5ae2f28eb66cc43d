use Rattle.std.proofs.Common.{◌≡◌, ◌<◌, ◌∙◌, List, Some, arith, length, refl, subst}
use Rattle.std.specs.List.{slice_get}
use Rattle.std.proofs.lemmas.List.{length-map}
use Rattle.std.proofs.lemmas.Option.{slice_get_read}
use Rattle.just_names.specs.Name.{text_of_name}
use Rattle.just_names.specs.declared.name.Name.{Name}
use Rattle.just_module_contents.specs.Contents.{signature}
use Rattle.just_names.specs.Index.{texts_of_names, Repeats}
use Rattle.just_module_contents.proofs.Signatures.{parameter_repeated}
use Rattle.just_module_headers.proofs.functions.check_function.Goals as goal

pub returns-clause-named : goal.returns-clause-named
returns-clause-named c =
    let first = c.in-Some.field-0-0 in
    let second = c.in-Some.second in
    let made = c.in_ok-names.names.items in
    let read : Repeats (texts_of_names c.as_slice.result.now) first second = rw c.in-Some.is at c.in_ok-repeated_name.ensures.repeated in
    let repeats : Repeats (texts_of_names made) first second = subst (λ (ns : List Name). Repeats (texts_of_names ns) first second) c.as_slice.ensures.value read in
    let inside : second < length made = omega (arith, repeats.within, length-map made text_of_name) in
    let at : slice_get made second ≡ Some c.index-name.result.now = slice_get_read made (length made) second c.index-name.result.now refl inside c.index-name.ensures in
    parameter_repeated (signature c.args.function.now) first second c.index-name.result.now c.copied.result c.new.result c.new-in-Some.result
    (subst (λ (ns : List Name). Repeats (texts_of_names ns) first second) c.in_ok-names.ensures repeats)
    (subst (λ (ns : List Name). slice_get ns second ≡ Some c.index-name.result.now) c.in_ok-names.ensures at) c.copied.ensures
    (c.new.ensures ∙ c.lexeme.ensures) (c.new-in-Some.ensures ∙ c.lexeme-in-Some.ensures)
